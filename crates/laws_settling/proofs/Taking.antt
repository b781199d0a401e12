-- Once a settlement is confirmed, its settles can come one after the other, and their answers, until all have taken it.
use Rattle.std.proofs.Common.{◌≡◌, ◌≤◌, ◌<◌, ℕ, zero, suc, refl, sym, ap, ◌∙◌, inl, inr, subst, arith, Bool, true, false, Option, Some, None, List, [], ◌∷◌, ◌++◌, length}
use Rattle.std.specs.Prelude.{◌==◌, ◌&&◌, is_some, slice_get, if◌then◌else◌}
use Rattle.std.proofs.lemmas.Bool.{and_from, cases_eq, eq-eqb, ne_eqb}
use Rattle.laws_network.specs.Reopening.{Confirm, Entries, Inventory, MapOwner, Message, Party, Reopening, Server, Settle, Settled, Settlement, Settling, Slots, Took, Unknown, arrives, is_party, is_settled_at, part_taken, put_party, records, settle_by, settled_base, settling_run, takes_settle, to_each, with_messages}
use Rattle.laws_network.specs.ReopeningPlays.{arrive}
use Rattle.laws_network.specs.FleetReopening.{IsOneOf}
use Rattle.laws_settling.specs.Ending.{AllCanTake, nonce_told}
use Rattle.laws_settling.proofs.Among.{arrive_more, get_last, one_before, one_behind, one_of_each}

-- a party that has told is sent a settle for the nonce that it told
settle_sent : (base : ℕ) (s : Settlement) (p : Party) (i : Inventory) → IsOneOf (settle_by base s p (Some i)) (Settle p base (nonce_told i) s)
settle_sent base s p (Unknown n) = (0, refl)
settle_sent base s p (Slots cells reached) = (0, refl)
settle_sent base s p Entries = (0, refl)

-- ---- one party takes its part

abbrev none_reached : ℕ → Bool
none_reached = λ k. false

module _ (y : Settling) (p : Party) (number : ℕ) (nonce : Option ℕ) (s : Settlement) (k : ℕ) (got : slice_get y.messages k ≡ Some (Settle p number nonce s)) (meant : takes_settle number nonce (y.bases p) ≡ true)
    (at : y.reopening.base ≡ number) (confirmed : is_some y.reopening.settlement ≡ true) where
  abbrev taken : Settling
  taken = with_messages (part_taken y p number s) (Settled p number ∷ [])

  abbrev done : Settling
  done = records taken (Took p number)

  takes_it : arrives y none_reached (slice_get y.messages k) ≡ taken
  takes_it = ap (arrives y none_reached) got ∙ ap (λ b. if b then taken else if is_settled_at number (y.bases p) then with_messages y (Settled p number ∷ []) else y) meant

  part_messages : (q : Party) → (part_taken y q number s).messages ≡ y.messages
  part_messages (Server v) = refl
  part_messages MapOwner = refl

  part_reopening : (q : Party) → (part_taken y q number s).reopening ≡ y.reopening
  part_reopening (Server v) = refl
  part_reopening MapOwner = refl

  answer_there : slice_get taken.messages (length y.messages) ≡ Some (Settled p number)
  answer_there = ap (λ ms. slice_get (ms ++ Settled p number ∷ []) (length y.messages)) (part_messages p) ∙ get_last y.messages (Settled p number)

  both_come : settling_run (arrive (k ∷ length y.messages ∷ [])) y ≡ done
  both_come = ap (λ z. arrives z none_reached (slice_get z.messages (length y.messages))) takes_it ∙ ap (arrives taken none_reached) answer_there

  is_recorded : done.reopening ≡ record y.reopening { settled = put_party y.reopening.settled p true }
  is_recorded = ap (λ (r : Reopening). if number == r.base && is_some r.settlement then record r { settled = put_party r.settled p true } else r) (part_reopening p)
      ∙ ap (λ b. if b then record y.reopening { settled = put_party y.reopening.settled p true } else y.reopening)
      (and_from (number == y.reopening.base) (is_some y.reopening.settlement) (eq-eqb number y.reopening.base (sym at)) confirmed)

  still_sent : (m : Message) → IsOneOf y.messages m → IsOneOf done.messages m
  still_sent m i = one_before taken.messages [] m (one_before (part_taken y p number s).messages (Settled p number ∷ []) m (subst (λ ms. IsOneOf ms m) (sym (part_messages p)) i))

  others_stand : (q : Party) → is_party q p ≡ false → done.bases q ≡ y.bases q
  others_stand q e = go p e
    where
      go : (p : Party) → is_party q p ≡ false → (part_taken y p number s).bases q ≡ y.bases q
      go (Server v) e = ap (λ b. if b then settled_base number else y.bases q) e
      go MapOwner e = ap (λ b. if b then settled_base number else y.bases q) e

-- ---- all of them, one after the other

module _ (x : Settling) (s : Settlement) (asked : (v : ℕ) → is_some (x.reopening.told (Server v)) ≡ true → v < x.reopening.servers)
    (stands : (p : Party) (i : Inventory) → x.reopening.told p ≡ Some i → takes_settle x.reopening.base (nonce_told i) (x.bases p) ≡ true) where
  abbrev confirmed : Settling
  confirmed = records x (Confirm s)

  -- the settle of a party is among what was sent
  sent_to : (p : Party) (i : Inventory) → x.reopening.told p ≡ Some i → IsOneOf confirmed.messages (Settle p x.reopening.base (nonce_told i) s)
  sent_to (Server v) i e = one_behind x.messages _ _ (one_behind (settle_by x.reopening.base s MapOwner (x.reopening.told MapOwner)) _ _
      (one_of_each x.reopening.servers (λ u. settle_by x.reopening.base s (Server u) (x.reopening.told (Server u))) v _ (asked v (ap is_some e))
      (subst (λ o. IsOneOf (settle_by x.reopening.base s (Server v) o) (Settle (Server v) x.reopening.base (nonce_told i) s)) (sym e) (settle_sent x.reopening.base s (Server v) i))))
  sent_to MapOwner i e = one_behind x.messages _ _ (one_before _ (to_each x.reopening.servers (λ u. settle_by x.reopening.base s (Server u) (x.reopening.told (Server u)))) _
      (subst (λ o. IsOneOf (settle_by x.reopening.base s MapOwner o) (Settle MapOwner x.reopening.base (nonce_told i) s)) (sym e) (settle_sent x.reopening.base s MapOwner i)))

  -- The map's owner and the servers below a number have taken their parts, and the others stand as they did.
  record IsOn (n : ℕ) (y : Settling) : Type 0 where
    pub base : y.reopening.base ≡ x.reopening.base
    pub settlement : y.reopening.settlement ≡ Some s
    pub told : y.reopening.told ≡ x.reopening.told
    pub sent : (m : Message) → IsOneOf confirmed.messages m → IsOneOf y.messages m
    pub waiting : (v : ℕ) → n ≤ v → y.bases (Server v) ≡ x.bases (Server v)
    pub owner : is_some (x.reopening.told MapOwner) ≡ true → y.reopening.settled MapOwner ≡ true
    pub servers : (v : ℕ) → v < n → is_some (x.reopening.told (Server v)) ≡ true → y.reopening.settled (Server v) ≡ true

  -- the map's owner is first
  owner_takes : (o : Option Inventory) → x.reopening.told MapOwner ≡ o → (places : List ℕ) × IsOn 0 (settling_run (arrive places) confirmed)
  owner_takes None e = (
    [],
    record {
      base = refl;
      settlement = refl;
      told = refl;
      sent = λ m i. i;
      waiting = λ v above. refl;
      owner = λ t. absurd (let z = ap is_some e in cc);
      servers = λ v below. absurd (omega arith);
    },
  )
  owner_takes (Some i) e = (
    k ∷ length confirmed.messages ∷ [],
    subst (IsOn 0) (sym (both_come confirmed MapOwner x.reopening.base (nonce_told i) s k got meant refl refl)) (record {
      base = ap (λ (r : Reopening). r.base) same;
      settlement = ap (λ (r : Reopening). r.settlement) same;
      told = ap (λ (r : Reopening). r.told) same;
      sent = still_sent confirmed MapOwner x.reopening.base (nonce_told i) s k got meant refl refl;
      waiting = λ v above. others_stand confirmed MapOwner x.reopening.base (nonce_told i) s k got meant refl refl (Server v) refl;
      owner = λ t. ap (λ (r : Reopening). r.settled MapOwner) same;
      servers = λ v below. absurd (omega arith);
    }),
  )
    where
      k : ℕ
      k = (sent_to MapOwner i e).0

      got : slice_get confirmed.messages k ≡ Some (Settle MapOwner x.reopening.base (nonce_told i) s)
      got = (sent_to MapOwner i e).1

      meant : takes_settle x.reopening.base (nonce_told i) (x.bases MapOwner) ≡ true
      meant = stands MapOwner i e

      same : (done confirmed MapOwner x.reopening.base (nonce_told i) s k got meant refl refl).reopening ≡ record confirmed.reopening { settled = put_party confirmed.reopening.settled MapOwner true }
      same = is_recorded confirmed MapOwner x.reopening.base (nonce_told i) s k got meant refl refl

  -- then the servers, from the lowest on
  server_takes : (n : ℕ) (y : Settling) → IsOn n y → (o : Option Inventory) → x.reopening.told (Server n) ≡ o → (places : List ℕ) × IsOn (suc n) (settling_run (arrive places) y)
  server_takes n y h None e = (
    [],
    record {
      base = h.base;
      settlement = h.settlement;
      told = h.told;
      sent = h.sent;
      waiting = λ v above. h.waiting v (omega arith);
      owner = h.owner;
      servers = λ v below t. elim (cases_eq v n) [
        | inl q ↦ absurd (let z = subst (λ u. is_some (x.reopening.told (Server u)) ≡ true) q t in let b : is_some (x.reopening.told (Server n)) ≡ false = ap is_some e in cc)
        | inr q ↦ h.servers v (omega arith) t
      ];
    },
  )
  server_takes n y h (Some i) e = (
    k ∷ length y.messages ∷ [],
    subst (IsOn (suc n)) (sym (both_come y (Server n) x.reopening.base (nonce_told i) s k got meant h.base some)) (record {
      base = ap (λ (r : Reopening). r.base) same ∙ h.base;
      settlement = ap (λ (r : Reopening). r.settlement) same ∙ h.settlement;
      told = ap (λ (r : Reopening). r.told) same ∙ h.told;
      sent = λ m z. still_sent y (Server n) x.reopening.base (nonce_told i) s k got meant h.base some m (h.sent m z);
      waiting = λ v above. others_stand y (Server n) x.reopening.base (nonce_told i) s k got meant h.base some (Server v) (ne_eqb v n (λ q. absurd (omega arith))) ∙ h.waiting v (omega arith);
      owner = λ t. ap (λ (r : Reopening). r.settled MapOwner) same ∙ h.owner t;
      servers = λ v below t. ap (λ (r : Reopening). r.settled (Server v)) same ∙ noted v below t;
    }),
  )
    where
      noted : (v : ℕ) → v < suc n → is_some (x.reopening.told (Server v)) ≡ true → (if v == n then true else y.reopening.settled (Server v)) ≡ true
      noted v below t = elim (cases_eq v n) [
        | inl q ↦ ap (λ b. if b then true else y.reopening.settled (Server v)) (eq-eqb v n q)
        | inr q ↦ ap (λ b. if b then true else y.reopening.settled (Server v)) (ne_eqb v n q) ∙ h.servers v (omega arith) t
      ]

      sent_there : IsOneOf y.messages (Settle (Server n) x.reopening.base (nonce_told i) s)
      sent_there = h.sent _ (sent_to (Server n) i e)

      k : ℕ
      k = sent_there.0

      got : slice_get y.messages k ≡ Some (Settle (Server n) x.reopening.base (nonce_told i) s)
      got = sent_there.1

      meant : takes_settle x.reopening.base (nonce_told i) (y.bases (Server n)) ≡ true
      meant = ap (takes_settle x.reopening.base (nonce_told i)) (h.waiting n (omega arith)) ∙ stands (Server n) i e

      some : is_some y.reopening.settlement ≡ true
      some = ap is_some h.settlement

      same : (done y (Server n) x.reopening.base (nonce_told i) s k got meant h.base some).reopening ≡ record y.reopening { settled = put_party y.reopening.settled (Server n) true }
      same = is_recorded y (Server n) x.reopening.base (nonce_told i) s k got meant h.base some

  go_on : (n : ℕ) → (places : List ℕ) × IsOn n (settling_run (arrive places) confirmed)
  go_on zero = owner_takes (x.reopening.told MapOwner) refl
  go_on (suc n) =
      let before = go_on n in
      let more = server_takes n (settling_run (arrive before.0) confirmed) before.1 (x.reopening.told (Server n)) refl in
      (before.0 ++ more.0, subst (IsOn (suc n)) (sym (arrive_more before.0 more.0 confirmed)) more.1)

  -- so all can take it
  pub all_can_take : AllCanTake x s
  all_can_take =
      let all = go_on x.reopening.servers in
      (all.0, all.1.settlement, λ p t. took (settling_run (arrive all.0) confirmed) all.1 p t)
    where
      took : (y : Settling) → IsOn x.reopening.servers y → (p : Party) → is_some (y.reopening.told p) ≡ true → y.reopening.settled p ≡ true
      took y h MapOwner t = h.owner (ap (λ (f : Party → Option Inventory). is_some (f MapOwner)) (sym h.told) ∙ t)
      took y h (Server v) t = let z = ap (λ (f : Party → Option Inventory). is_some (f (Server v))) (sym h.told) ∙ t in h.servers v (asked v z) z
