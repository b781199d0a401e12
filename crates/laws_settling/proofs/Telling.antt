-- Once a reopening has begun, its fences can come one after the other, and their answers, until all have told.
use Rattle.std.proofs.Common.{◌≡◌, ◌≤◌, ◌<◌, ℕ, zero, suc, refl, sym, ap, ◌∙◌, inl, inr, subst, arith, not, Bool, true, false, Option, Some, None, List, [], ◌∷◌, ◌++◌, length}
use Rattle.std.specs.Prelude.{◌==◌, ◌&&◌, is_none, nat_lt, option_map, slice_get, if◌then◌else◌}
use Rattle.std.proofs.lemmas.Bool.{and_from, and_parts, cases_Bool, cases_eq, eq-eqb, lt-ltb, ltb-true, ne_eqb}
use Rattle.laws_network.specs.Reopening.{Base, Fence, Fenced, Inventory, MapOwner, Message, Party, Reopen, Reopening, Server, Settling, Told, arrives, fence_to, inventory_by, is_asked, is_fenced_at, is_first, is_party, names_nonce, put_party, records, settling_run, takes_settle, to_each, with_messages}
use Rattle.laws_network.specs.ReopeningLaws.{EachSettling}
use Rattle.laws_network.specs.ReopeningPlays.{arrive}
use Rattle.laws_network.specs.FleetReopening.{IsOneOf}
use Rattle.laws_network.proofs.Begun.{IsSteady, each_steady}
use Rattle.laws_settling.specs.Ending.{AllStandAsTold, CanTell, StandsAsTold, nonce_told}
use Rattle.laws_settling.proofs.Among.{arrive_more, get_last, one_before, one_behind, one_of_each}

-- ---- one party tells

same_party : (p : Party) → is_party p p ≡ true
same_party (Server v) = eq-eqb v v refl
same_party MapOwner = refl

module _ (y : Settling) (p : Party) (base k : ℕ) (got : slice_get y.messages k ≡ Some (Fence p base)) (above : (y.bases p).number < base) (at : y.reopening.base ≡ base) (open_still : y.reopening.settlement ≡ None)
    (asked : is_asked y.reopening p ≡ true) (untold : y.reopening.told p ≡ None) (owner : is_party p MapOwner ≡ true → (y.bases p).nonce ≡ None) where
  abbrev raised : Base
  raised = record { number = base; fenced = true; nonce = option_map (λ old. y.nonces) (y.bases p).nonce }

  abbrev tells : Inventory
  tells = inventory_by y p raised.nonce (λ s. false)

  abbrev there : Base → Settling
  there b = record y { bases = put_party y.bases p b; nonces = suc y.nonces }

  abbrev answered : Settling
  answered = with_messages (there raised) (Fenced p base tells ∷ [])

  abbrev done : Settling
  done = records answered (Told p base tells)

  takes_it : arrives y (λ s. false) (slice_get y.messages k) ≡ answered
  takes_it =
      ap (arrives y (λ s. false)) got
      ∙ ap (λ (b : Base). if is_fenced_at base b then with_messages (there b) (Fenced p base (inventory_by y p b.nonce (λ s. false)) ∷ []) else there b)
      (ap (λ b. if b then raised else y.bases p) (lt-ltb (y.bases p).number base above))
      ∙ ap (λ b. if b then answered else there raised) (eq-eqb base base refl)

  both_come : settling_run (arrive (k ∷ length y.messages ∷ [])) y ≡ done
  both_come = ap (λ z. arrives z (λ s. false) (slice_get z.messages (length y.messages))) takes_it ∙ ap (arrives answered (λ s. false)) (get_last y.messages (Fenced p base tells))

  is_its_first : is_first y.reopening p base ≡ true
  is_its_first = and_from (base == y.reopening.base) (is_none y.reopening.settlement && (is_asked y.reopening p && is_none (y.reopening.told p))) (eq-eqb base y.reopening.base (sym at))
      (and_from (is_none y.reopening.settlement) (is_asked y.reopening p && is_none (y.reopening.told p)) (ap is_none open_still)
      (and_from (is_asked y.reopening p) (is_none (y.reopening.told p)) asked (ap is_none untold)))

  is_recorded : done.reopening ≡ record y.reopening { told = put_party y.reopening.told p (Some tells) }
  is_recorded = ap (λ b. if b then record y.reopening { told = put_party y.reopening.told p (Some tells) } else y.reopening) is_its_first

  still_sent : (m : Message) → IsOneOf y.messages m → IsOneOf done.messages m
  still_sent m i = one_before answered.messages [] m (one_before y.messages (Fenced p base tells ∷ []) m i)

  others_stand : (q : Party) → is_party q p ≡ false → done.bases q ≡ y.bases q
  others_stand q e = ap (λ b. if b then raised else y.bases q) e

  others_told : (q : Party) → is_party q p ≡ false → done.reopening.told q ≡ y.reopening.told q
  others_told q e = ap (λ (r : Reopening). r.told q) is_recorded ∙ ap (λ b. if b then Some tells else y.reopening.told q) e

  -- it names the nonce under which it stands
  names : (q : Party) (o : Option ℕ) → (is_party q MapOwner ≡ true → o ≡ None) → names_nonce o (nonce_told (inventory_by y q o (λ s. false))) ≡ true
  names (Server v) None known = refl
  names (Server v) (Some n) known = eq-eqb n n refl
  names MapOwner o known = ap (λ z. names_nonce z None) (known refl)

  its_base : done.bases p ≡ raised
  its_base = ap (λ b. if b then raised else y.bases p) (same_party p)

  stands_so : takes_settle y.reopening.base (nonce_told tells) raised ≡ true
  stands_so = and_from (is_fenced_at y.reopening.base raised) (names_nonce raised.nonce (nonce_told tells)) (eq-eqb base y.reopening.base (sym at))
      (names p raised.nonce (λ e. ap (option_map (λ old. y.nonces)) (owner e)))

  has_told : StandsAsTold done p
  has_told = record {
    inventory = tells;
    told = ap (λ (r : Reopening). r.told p) is_recorded ∙ ap (λ b. if b then Some tells else y.reopening.told p) (same_party p);
    stands = ap (λ (r : Reopening). takes_settle r.base (nonce_told tells) (done.bases p)) is_recorded ∙ ap (takes_settle y.reopening.base (nonce_told tells)) its_base ∙ stands_so;
  }

  -- and the others stand as they did
  stand_still : (q : Party) → is_party q p ≡ false → StandsAsTold y q → StandsAsTold done q
  stand_still q e h = record {
    inventory = h.inventory;
    told = others_told q e ∙ h.told;
    stands = ap (λ (r : Reopening). takes_settle r.base (nonce_told h.inventory) (done.bases q)) is_recorded ∙ ap (takes_settle y.reopening.base (nonce_told h.inventory)) (others_stand q e) ∙ h.stands;
  }

-- ---- all of them, one after the other

module _ (x : Settling) (base count : ℕ) (lost : ℕ → Bool) (above : (p : Party) → (x.bases p).number < base) (owner : (x.bases MapOwner).nonce ≡ None) where
  abbrev begun : Settling
  begun = records x (Reopen base count lost)

  abbrev r : Reopening
  r = begun.reopening

  fence_sent : (p : Party) → is_asked r p ≡ true → IsOneOf (fence_to r p) (Fence p base)
  fence_sent p a = subst (λ b. IsOneOf (if b then Fence p base ∷ [] else []) (Fence p base)) (sym a) (0, refl)

  abbrev to_servers : List Message
  to_servers = to_each r.servers (λ u. fence_to r (Server u))

  abbrev fences : List Message
  fences = fence_to r MapOwner ++ to_servers

  -- the fence for a party that is asked is among what was sent
  sent_to : (p : Party) → is_asked r p ≡ true → IsOneOf begun.messages (Fence p base)
  sent_to (Server v) a = one_behind x.messages fences (Fence (Server v) base) (one_behind (fence_to r MapOwner) to_servers (Fence (Server v) base)
      (one_of_each r.servers (λ u. fence_to r (Server u)) v (Fence (Server v) base) (ltb-true v r.servers (and_parts (nat_lt v r.servers) (not (r.lost v)) a).0) (fence_sent (Server v) a)))
  sent_to MapOwner a = one_behind x.messages fences (Fence MapOwner base) (one_before (fence_to r MapOwner) to_servers (Fence MapOwner base) (fence_sent MapOwner a))

  -- the map's owner has told, and each server below a number that is asked
  record HaveTold (n : ℕ) (y : Settling) : Type 0 where
    pub base_is : y.reopening.base ≡ base
    pub open_still : y.reopening.settlement ≡ None
    pub asks : (v : ℕ) → is_asked y.reopening (Server v) ≡ is_asked r (Server v)
    pub sent : (m : Message) → IsOneOf begun.messages m → IsOneOf y.messages m
    pub waiting : (v : ℕ) → n ≤ v → y.bases (Server v) ≡ x.bases (Server v)
    pub untold : (v : ℕ) → n ≤ v → y.reopening.told (Server v) ≡ None
    pub first : StandsAsTold y MapOwner
    pub servers : (v : ℕ) → v < n → is_asked r (Server v) ≡ true → StandsAsTold y (Server v)

  -- the map's owner is first
  owner_tells : (places : List ℕ) × HaveTold 0 (settling_run (arrive places) begun)
  owner_tells = (
    k ∷ length begun.messages ∷ [],
    subst (HaveTold 0) (sym (both_come begun MapOwner base k got (above MapOwner) refl refl refl refl (λ e. owner))) (record {
      base_is = ap (λ (r : Reopening). r.base) same;
      open_still = ap (λ (r : Reopening). r.settlement) same;
      asks = λ v. ap (λ (r : Reopening). is_asked r (Server v)) same;
      sent = still_sent begun MapOwner base k got (above MapOwner) refl refl refl refl (λ e. owner);
      waiting = λ v l. others_stand begun MapOwner base k got (above MapOwner) refl refl refl refl (λ e. owner) (Server v) refl;
      untold = λ v l. others_told begun MapOwner base k got (above MapOwner) refl refl refl refl (λ e. owner) (Server v) refl;
      first = has_told begun MapOwner base k got (above MapOwner) refl refl refl refl (λ e. owner);
      servers = λ v below. absurd (omega arith);
    }),
  )
    where
      k : ℕ
      k = (sent_to MapOwner refl).0

      got : slice_get begun.messages k ≡ Some (Fence MapOwner base)
      got = (sent_to MapOwner refl).1

      same : (done begun MapOwner base k got (above MapOwner) refl refl refl refl (λ e. owner)).reopening ≡ record r { told = put_party r.told MapOwner (Some (tells begun MapOwner base k got (above MapOwner) refl refl refl refl (λ e. owner))) }
      same = is_recorded begun MapOwner base k got (above MapOwner) refl refl refl refl (λ e. owner)

  -- one that is not asked is left out
  passed_over : (n : ℕ) (y : Settling) → HaveTold n y → is_asked r (Server n) ≡ false → HaveTold (suc n) y
  passed_over n y h out = record {
    base_is = h.base_is;
    open_still = h.open_still;
    asks = h.asks;
    sent = h.sent;
    waiting = λ v l. h.waiting v (omega arith);
    untold = λ v l. h.untold v (omega arith);
    first = h.first;
    servers = λ v below a. elim (cases_eq v n) [
      | inl e ↦ absurd (let z = subst (λ u. is_asked r (Server u) ≡ true) e a in cc)
      | inr d ↦ h.servers v (omega arith) a
    ];
  }

  -- then the servers, from the lowest on
  module _ (n : ℕ) (y : Settling) (h : HaveTold n y) (a : is_asked r (Server n) ≡ true) where
    fence_there : IsOneOf y.messages (Fence (Server n) base)
    fence_there = h.sent _ (sent_to (Server n) a)

    higher : (y.bases (Server n)).number < base
    higher = subst (λ (b : Base). b.number < base) (sym (h.waiting n (omega arith))) (above (Server n))

    asked_there : is_asked y.reopening (Server n) ≡ true
    asked_there = h.asks n ∙ a

    untold_there : y.reopening.told (Server n) ≡ None
    untold_there = h.untold n (omega arith)

    not_owner : is_party (Server n) MapOwner ≡ true → (y.bases (Server n)).nonce ≡ None
    not_owner e = absurd (cc)

    abbrev now : Settling
    now = done y (Server n) base fence_there.0 fence_there.1 higher h.base_is h.open_still asked_there untold_there not_owner

    same_now : now.reopening ≡ record y.reopening { told = put_party y.reopening.told (Server n) (Some (tells y (Server n) base fence_there.0 fence_there.1 higher h.base_is h.open_still asked_there untold_there not_owner)) }
    same_now = is_recorded y (Server n) base fence_there.0 fence_there.1 higher h.base_is h.open_still asked_there untold_there not_owner

    told_now : HaveTold (suc n) now
    told_now = record {
      base_is = ap (λ (r : Reopening). r.base) same_now ∙ h.base_is;
      open_still = ap (λ (r : Reopening). r.settlement) same_now ∙ h.open_still;
      asks = λ v. ap (λ (r : Reopening). is_asked r (Server v)) same_now ∙ h.asks v;
      sent = λ m i. still_sent y (Server n) base fence_there.0 fence_there.1 higher h.base_is h.open_still asked_there untold_there not_owner m (h.sent m i);
      waiting = λ v l. others_stand y (Server n) base fence_there.0 fence_there.1 higher h.base_is h.open_still asked_there untold_there not_owner (Server v) (ne_eqb v n (λ e. absurd (omega arith)))
          ∙ h.waiting v (omega arith);
      untold = λ v l. others_told y (Server n) base fence_there.0 fence_there.1 higher h.base_is h.open_still asked_there untold_there not_owner (Server v) (ne_eqb v n (λ e. absurd (omega arith)))
          ∙ h.untold v (omega arith);
      first = stand_still y (Server n) base fence_there.0 fence_there.1 higher h.base_is h.open_still asked_there untold_there not_owner MapOwner refl h.first;
      servers = λ v below b. elim (cases_eq v n) [
        | inl e ↦ subst (λ u. StandsAsTold now (Server u)) (sym e) (has_told y (Server n) base fence_there.0 fence_there.1 higher h.base_is h.open_still asked_there untold_there not_owner)
        | inr d ↦ stand_still y (Server n) base fence_there.0 fence_there.1 higher h.base_is h.open_still asked_there untold_there not_owner (Server v) (ne_eqb v n d) (h.servers v (omega arith) b)
      ];
    }

    tells_next : (places : List ℕ) × HaveTold (suc n) (settling_run (arrive places) y)
    tells_next = (
      fence_there.0 ∷ length y.messages ∷ [],
      subst (HaveTold (suc n)) (sym (both_come y (Server n) base fence_there.0 fence_there.1 higher h.base_is h.open_still asked_there untold_there not_owner)) told_now,
    )

  server_tells : (n : ℕ) (y : Settling) → HaveTold n y → (places : List ℕ) × HaveTold (suc n) (settling_run (arrive places) y)
  server_tells n y h = elim (cases_Bool (is_asked r (Server n))) [
    | inl a ↦ tells_next n y h a
    | inr out ↦ ([], passed_over n y h out)
  ]

  go_on : (n : ℕ) → (places : List ℕ) × HaveTold n (settling_run (arrive places) begun)
  go_on zero = owner_tells
  go_on (suc n) =
      let before = go_on n in
      let more = server_tells n (settling_run (arrive before.0) begun) before.1 in
      (before.0 ++ more.0, subst (HaveTold (suc n)) (sym (arrive_more before.0 more.0 begun)) more.1)

  -- so all can tell
  pub all_can_tell : (places : List ℕ) × ((settling_run (arrive places) begun).reopening.settlement ≡ None) × AllStandAsTold (settling_run (arrive places) begun)
  all_can_tell =
      let all = go_on r.servers in
      (all.0, all.1.open_still, stand_all (settling_run (arrive all.0) begun) all.1)
    where
      stand_all : (y : Settling) → HaveTold r.servers y → (p : Party) → is_asked y.reopening p ≡ true → StandsAsTold y p
      stand_all y h MapOwner a = h.first
      stand_all y h (Server v) a =
          let b = sym (h.asks v) ∙ a in
          h.servers v (ltb-true v r.servers (and_parts (nat_lt v r.servers) (not (r.lost v)) b).0) b

-- whatever is under way, another reopening may begin, and all can tell
pub can_tell : EachSettling CanTell
can_tell setup x reached base servers lost may = all_can_tell x base servers lost lower t.held.owner.known
  where
    t : IsSteady setup x
    t = each_steady setup x reached

    lower : (p : Party) → (x.bases p).number < base
    lower (Server v) = let a = (t.held.servers v).number in let b = may.later in omega arith
    lower MapOwner = let a = t.held.owner.number in let b = may.later in omega arith
