-- The controller's records of a reopening keep what holds: answers, another reopening, and what is confirmed.
use Rattle.std.proofs.Common.{◌≡◌, ◌≢◌, ◌≤◌, ◌⊎◌, ℕ, zero, suc, refl, sym, ap, ◌∙◌, inl, inr, subst, arith, not, Bool, true, false, Option, Some, None, List, [], ◌∷◌, ◌++◌}
use Rattle.std.specs.Prelude.{◌==◌, ◌&&◌, is_none, is_some, nat_lt, if◌then◌else◌}
use Rattle.std.specs.List.{AllByRecursion}
use Rattle.std.proofs.lemmas.Bool.{and_parts, cases_eq, eq-eqb, eqb-true, ltb-true, ne_eqb, not-true}
use Rattle.sm_server.specs.declared.call.Cell.{Cell}
use Rattle.sm_placement.specs.Setup.{Setup, Sizes}
use Rattle.sm_protocol.proofs.Courses.{some_same}
use Rattle.laws_network.specs.World.{World}
use Rattle.laws_network.specs.Reopening.{Base, Fence, Fenced, Inventory, MapOwner, Message, Party, Reopen, Reopening, Restore, Server, Settle, Settled, Settlement, Settling, Told, Took, Unknown, fence_to, is_asked, is_first, is_party, put_party, entered, records, sends, to_each}
use Rattle.laws_network.specs.ReopeningLaws.{IsNotFor, IsSettleBelow, MayReopen}
use Rattle.laws_network.proofs.Lists.{all_append, all_map}
use Rattle.laws_network.proofs.Standing.{Frame, HasMap, HasTold, IsControllerHeld, IsGood, IsGoodSettle, IsLost, IsPromised, IsTaken, IsToldBy, IsToldOf, Last, Standing, addressee, number_of}
use Rattle.laws_network.proofs.Reopened.{IsHeld, all_both, good_grown, noted_held, standing, frame}

-- ---- answers

pub party_cases : (q p : Party) → ((is_party q p ≡ true) × (q ≡ p)) ⊎ (is_party q p ≡ false)
party_cases (Server u) (Server v) = elim (cases_eq u v) [ inl e ↦ inl (eq-eqb u v e, ap Server e) | inr e ↦ inr (ne_eqb u v e) ]
party_cases (Server u) MapOwner = inr refl
party_cases MapOwner (Server v) = inr refl
party_cases MapOwner MapOwner = inl (refl, refl)

pub put_here : {A : Type 0} (f : Party → A) (p q : Party) (x : A) → is_party q p ≡ true → put_party f p x q ≡ x
put_here f p q x e = ap (λ b. if b then x else f q) e

pub put_there : {A : Type 0} (f : Party → A) (p q : Party) (x : A) → is_party q p ≡ false → put_party f p x q ≡ f q
put_there f p q x e = ap (λ b. if b then x else f q) e

-- what is none by the test is None
pub none_where : {A : Type 0} (o : Option A) → is_none o ≡ true → o ≡ None
none_where None e = refl
none_where (Some a) e = absurd (cc)

-- what is not some by the test is None
pub none_of : {A : Type 0} (o : Option A) → is_some o ≡ false → o ≡ None
none_of None e = refl
none_of (Some a) e = absurd (cc)

-- what is some by the test is Some
pub some_of : {A : Type 0} (o : Option A) → is_some o ≡ true → (a : A) × (o ≡ Some a)
some_of None e = absurd (cc)
some_of (Some a) e = (a, refl)

module _ (setup : Setup) (w : World) (first since : ℕ) (l : Option Last) (x : Settling) (h : IsHeld setup w first since l x) where
  abbrev f : Frame
  f = frame w first since l x

  abbrev c : IsControllerHeld f
  c = h.controller

  abbrev r : Reopening
  r = x.reopening

  old_taken : (p : Party) → r.settled p ≡ true → IsTaken l r p (x.bases p)
  old_taken (Server v) e = (h.servers v).taken e
  old_taken MapOwner e = h.owner.taken e

  -- an entry that doesn't fit changes nothing
  unchanged : IsHeld setup w first since l (record x { messages = x.messages ++ [] })
  unchanged = noted_held setup w first since l x h r.told r.settled
      (record {
        places = c.places;
        versions = c.versions;
        since = c.since;
        nonces = c.nonces;
        log = c.log;
        servers = c.servers;
        told_made = c.told_made;
        asked = c.asked;
        opening = c.opening;
        above_versions = c.above_versions;
        beyond = c.beyond;
        below = c.below;
        before = c.before;
        closed = c.closed;
        confirmed = c.confirmed;
        kept_promises = c.kept_promises;
        told_promised = c.told_promised;
        told_map = c.told_map;
        unsettled = c.unsettled;
      })
      (λ v u i e. (h.servers v).told u i e) (λ u i e. h.owner.told u i e) old_taken

  -- what its party told is taken if it is the first answer to this fence
  module _ (p : Party) (number : ℕ) (i : Inventory) (good : IsGood f (standing w x (number_of p)) (x.bases MapOwner) x.messages (Fenced p number i)) where
    abbrev told : Party → Option Inventory
    told = put_party r.told p (Some i)

    told_at : (q : Party) (j : Inventory) → told q ≡ Some j → ((q ≡ p) × (i ≡ j)) ⊎ (r.told q ≡ Some j)
    told_at q j e = elim (party_cases q p) [
      | inl t ↦ inl (t.1, some_same i j (sym (put_here r.told p q (Some i) t.0) ∙ e))
      | inr t ↦ inr (sym (put_there r.told p q (Some i) t) ∙ e)
    ]

    module _ (e : is_first r p number ≡ true) where
      at : number ≡ r.base
      at = eqb-true number r.base (and_parts (number == r.base) (is_none r.settlement && (is_asked r p && is_none (r.told p))) e).0

      open_still : r.settlement ≡ None
      open_still = none_where r.settlement (and_parts (is_none r.settlement) (is_asked r p && is_none (r.told p)) (and_parts (number == r.base) (is_none r.settlement && (is_asked r p && is_none (r.told p))) e).1).0

      asked_it : is_asked r p ≡ true
      asked_it = (and_parts (is_asked r p) (is_none (r.told p)) (and_parts (is_none r.settlement) (is_asked r p && is_none (r.told p)) (and_parts (number == r.base) (is_none r.settlement && (is_asked r p && is_none (r.told p))) e).1).1).0

      told_of : (q : Party) → q ≡ p → IsToldOf f (standing w x (number_of q)) (x.bases MapOwner) q i
      told_of q s = subst (λ a. IsToldOf f (standing w x (number_of a)) (x.bases MapOwner) a i) (sym s) (good.2 open_still at)

      not_confirmed : is_some r.settlement ≡ true → ⊥
      not_confirmed z = absurd (let y : is_some r.settlement ≡ false = ap is_some open_still in cc)

      first_held : IsHeld setup w first since l (record x { reopening = record r { told = told }; messages = x.messages ++ [] })
      first_held = noted_held setup w first since l x h told r.settled
          (record {
            places = c.places;
            versions = c.versions;
            since = c.since;
            nonces = c.nonces;
            log = c.log;
            servers = c.servers;
            told_made = λ q n z. elim (told_at q (Unknown n) z) [ inl y ↦ good.1 at n y.1 | inr y ↦ c.told_made q n y ];
            asked = λ v z. let y = some_of (told (Server v)) z in elim (told_at (Server v) y.0 y.1) [
              | inl k ↦ (
                  let a = and_parts (nat_lt v r.servers) (not (r.lost v)) (subst (λ a. is_asked r a ≡ true) (sym k.0) asked_it) in
                  (ltb-true v r.servers a.0, not-true (r.lost v) a.1)
                  )
              | inr k ↦ c.asked v (ap is_some k)
            ];
            opening = c.opening;
            above_versions = c.above_versions;
            beyond = c.beyond;
            below = c.below;
            before = c.before;
            closed = c.closed;
            confirmed = c.confirmed;
            kept_promises = λ z. absurd (not_confirmed z);
            told_promised = λ z. absurd (not_confirmed z);
            told_map = λ z. absurd (not_confirmed z);
            unsettled = c.unsettled;
          })
          (λ v u j z. elim (told_at (Server v) j z) [
            | inl k ↦ subst (λ a. IsToldBy r.base since (x.bases (Server v)) (HasTold (λ s. x.world.net.cells s v) a)) k.1 (told_of (Server v) k.0)
            | inr k ↦ (h.servers v).told u j k
          ])
          (λ u j z. elim (told_at MapOwner j z) [
            | inl k ↦ subst (λ a. IsToldBy r.base since (x.bases MapOwner) (HasMap a)) k.1 (told_of MapOwner k.0)
            | inr k ↦ h.owner.told u j k
          ])
          old_taken

    -- an answer to a fence is recorded
    pub told_held : IsHeld setup w first since l (records x (Told p number i))
    told_held = go (is_first r p number) refl
      where
        go : (b : Bool) → is_first r p number ≡ b → IsHeld setup w first since l (record x { reopening = if b then record r { told = told } else r; messages = x.messages ++ [] })
        go true e = first_held e
        go false e = unchanged

  -- who answers its settle has taken it
  pub took_held : (p : Party) (number : ℕ) → IsGood f (standing w x (number_of p)) (x.bases MapOwner) x.messages (Settled p number) → IsHeld setup w first since l (records x (Took p number))
  took_held p number good = go (number == r.base && is_some r.settlement) refl
    where
      base_is : (p : Party) → IsGood f (standing w x (number_of p)) (x.bases MapOwner) x.messages (Settled p number) → number ≡ r.base → IsTaken l r p (x.bases p)
      base_is (Server v) g e = g.1 e
      base_is MapOwner g e = g.1 e

      taken : (number == r.base && is_some r.settlement) ≡ true → (q : Party) → put_party r.settled p true q ≡ true → IsTaken l r q (x.bases q)
      taken e q z = elim (party_cases q p) [
        | inl t ↦ subst (λ a. IsTaken l r a (x.bases a)) (sym t.1) (base_is p good (eqb-true number r.base (and_parts (number == r.base) (is_some r.settlement) e).0))
        | inr t ↦ old_taken q (sym (put_there r.settled p q true t) ∙ z)
      ]

      go : (b : Bool) → (number == r.base && is_some r.settlement) ≡ b → IsHeld setup w first since l (record x { reopening = if b then record r { settled = put_party r.settled p true } else r; messages = x.messages ++ [] })
      go false e = unchanged
      go true e = noted_held setup w first since l x h r.told (put_party r.settled p true)
          (record {
            places = c.places;
            versions = c.versions;
            since = c.since;
            nonces = c.nonces;
            log = c.log;
            servers = c.servers;
            told_made = c.told_made;
            asked = c.asked;
            opening = c.opening;
            above_versions = c.above_versions;
            beyond = c.beyond;
            below = c.below;
            before = c.before;
            closed = c.closed;
            confirmed = c.confirmed;
            kept_promises = c.kept_promises;
            told_promised = c.told_promised;
            told_map = c.told_map;
            unsettled = λ z. absurd (let y = (and_parts (number == r.base) (is_some r.settlement) e).1 in cc);
          })
          (λ v u i z. (h.servers v).told u i z) (λ u i z. h.owner.told u i z) (taken e)

-- ---- another reopening

-- what holds for each of both can be read either way
pub all_swap : {A X : Type 0} (P : A → X → Type 0) (xs : List X) → ((a : A) → AllByRecursion (P a) xs) → AllByRecursion (λ x. (a : A) → P a x) xs
all_swap P [] f = tt
all_swap P (x ∷ xs) f = ((λ a. (f a).0), all_swap P xs (λ a. (f a).1))

-- each message to a server below n is so
pub all_to_each : (P : Message → Type 0) (n : ℕ) (f : ℕ → List Message) → ((v : ℕ) → AllByRecursion P (f v)) → AllByRecursion P (to_each n f)
all_to_each P zero f all = tt
all_to_each P (suc n) f all = all_append P (to_each n f) (f n) (all_to_each P n f all) (all n)

-- the message is a fence with a number at or below this one
abbrev pub IsFenceBelow : ℕ → Message → Type 0
IsFenceBelow base (Fence p number) = number ≤ base
IsFenceBelow base _ = ⊥

fence_good : (base : ℕ) (r : Reopening) (p : Party) → r.base ≤ base → AllByRecursion (IsFenceBelow base) (fence_to r p)
fence_good base r p l = go (is_asked r p)
  where
    go : (b : Bool) → AllByRecursion (IsFenceBelow base) (if b then Fence p r.base ∷ [] else [])
    go true = (l, tt)
    go false = tt

-- all fences that are sent are such
pub fences_good : (base : ℕ) (r : Reopening) (servers : ℕ) (lost : ℕ → Bool) → r.base ≤ base → AllByRecursion (IsFenceBelow base) (sends (Reopen base servers lost) r)
fences_good base r servers lost l = all_append (IsFenceBelow base) (fence_to r MapOwner) (to_each r.servers (λ v. fence_to r (Server v))) (fence_good base r MapOwner l)
    (all_to_each (IsFenceBelow base) r.servers (λ v. fence_to r (Server v)) (λ v. fence_good base r (Server v) l))

-- nothing else is known of a fence
pub fence_is_good : (f : Frame) (y : Standing) (owner : Base) (ms : List Message) (m : Message) → IsFenceBelow f.r.base m → IsGood f y owner ms m
fence_is_good f y owner ms (Fence p number) h = h
fence_is_good f y owner ms (Fenced p number i) h = absurd h
fence_is_good f y owner ms (Settle p number asked s) h = absurd h
fence_is_good f y owner ms (Settled p number) h = absurd h
fence_is_good f y owner ms (Restore v asked number sizes cells) h = absurd h

-- a fence is no settle
pub fence_no_settle : (base v number : ℕ) (m : Message) → IsFenceBelow base m → IsSettleBelow v number m
fence_no_settle base v number (Fence p k) h = tt
fence_no_settle base v number (Fenced p k i) h = absurd h
fence_no_settle base v number (Settle p k asked s) h = absurd h
fence_no_settle base v number (Settled p k) h = absurd h
fence_no_settle base v number (Restore u asked k sizes cells) h = absurd h

module _ (setup : Setup) (w : World) (first since : ℕ) (l : Option Last) (x : Settling) (h : IsHeld setup w first since l x) (base servers : ℕ) (lost : ℕ → Bool) (m : MayReopen x base lost) where
  abbrev fo : Frame
  fo = frame w first since l x

  abbrev reopened : Settling
  reopened = records x (Reopen base servers lost)

  abbrev fr : Frame
  fr = frame w first x.nonces l reopened

  abbrev LostServer : Type 0
  LostServer = (v : ℕ) × (lost v ≡ true)

  -- the message brings nothing to who is lost
  abbrev BringsNone : Message → Type 0
  BringsNone n = (a : LostServer) → IsNotFor a.0 (m.given_up a.0 a.1).nonce n

  brings_none : AllByRecursion BringsNone x.messages
  brings_none = all_swap (λ (a : LostServer) n. IsNotFor a.0 (m.given_up a.0 a.1).nonce n) x.messages (λ a. (m.given_up a.0 a.1).unmet)

  unmet_settle : (u : ℕ) (number : ℕ) (nonce : Option ℕ) (s : Settlement) → BringsNone (Settle (Server u) number nonce s) → lost u ≡ true → (n : ℕ) → nonce ≡ Some n → (x.bases (Server u)).nonce ≢ Some n
  unmet_settle u number asked s none e n q z =
      let g = m.given_up u e in
      none (u, e) refl (q ∙ sym z ∙ g.unknown)

  unmet_restore : (u asked number : ℕ) (sizes : Sizes) (cells : ℕ → Cell) → BringsNone (Restore u asked number sizes cells) → lost u ≡ true → (x.bases (Server u)).nonce ≢ Some asked
  unmet_restore u asked number sizes cells none e z =
      let g = m.given_up u e in
      none (u, e) refl (some_same asked g.nonce (sym z ∙ g.unknown))

  settle_reopened : (p : Party) (b : Base) (number : ℕ) (nonce : Option ℕ) (s : Settlement) → (IsPromised x.reopening p → IsPromised reopened.reopening p) →
      (IsLost reopened.reopening p → (n : ℕ) → nonce ≡ Some n → b.nonce ≢ Some n) → IsGoodSettle fo p b number nonce s → IsGoodSettle fr p b number nonce s
  settle_reopened p b number asked s same lost_none g = record {
    below = let z = g.below in let y = m.later in omega arith;
    before = λ e. let z = g.below in let y = m.later in omega arith;
    made = g.made;
    early = λ e n q. g.made n q;
    last = g.last;
    closed = g.closed;
    state = elim g.state [ inl d ↦ inl d | inr i ↦ inr (record { last = i.last; is = i.is; base = i.base; settlement = i.settlement; promised = same i.promised }) ];
    promised = λ e. absurd (let z = g.below in let y = m.later in omega arith);
    lost = lost_none;
  }

  good_reopened : (n : Message) → BringsNone n × IsGood fo (standing w x (addressee n)) (x.bases MapOwner) x.messages n → IsGood fr (standing w x (addressee n)) (x.bases MapOwner) x.messages n
  good_reopened (Fence p k) g = let z = g.1 in let y = m.later in omega arith
  good_reopened (Fenced (Server u) k i) g = ((let z = g.1.0 in let y = m.later in omega arith), (λ q. absurd (let z = g.1.0 in let y = m.later in omega arith)), λ e q. absurd (let z = g.1.0 in let y = m.later in omega arith))
  good_reopened (Fenced MapOwner k i) g = ((let z = g.1.0 in let y = m.later in omega arith), (λ q. absurd (let z = g.1.0 in let y = m.later in omega arith)), λ e q. absurd (let z = g.1.0 in let y = m.later in omega arith))
  good_reopened (Settle (Server u) k asked s) g = settle_reopened (Server u) (x.bases (Server u)) k asked s (λ e. e) (λ e. unmet_settle u k asked s g.0 e) g.1
  good_reopened (Settle MapOwner k asked s) g = settle_reopened MapOwner (x.bases MapOwner) k asked s (λ e. e) (λ e. absurd e) g.1
  good_reopened (Settled p k) g = ((let z = g.1.0 in let y = m.later in omega arith), λ e. absurd (let z = g.1.0 in let y = m.later in omega arith))
  good_reopened (Restore u asked k sizes cells) g = record {
    made = g.1.made;
    waited = λ e. let z = g.1.waited e in record { cells_had = z.cells_had; sizes_had = z.sizes_had; loads = z.loads; number_had = z.number_had; lasts_had = z.lasts_had; settles = z.settles; along = z.along };
    lost = λ e. unmet_restore u asked k sizes cells g.0 e;
  }

  abbrev fences_list : List Message
  fences_list = sends (Reopen base servers lost) (entered (Reopen base servers lost) x.reopening)

  fences_are : AllByRecursion (IsFenceBelow base) (sends (Reopen base servers lost) (entered (Reopen base servers lost) x.reopening))
  fences_are = fences_good base (entered (Reopen base servers lost) x.reopening) servers lost (omega arith)

  net_base : x.world.net.base ≡ w.net.base
  net_base = ap (λ (z : World). z.net.base) h.over

  net_version : (s : ℕ) → x.world.net.w.place.version s ≡ w.net.w.place.version s
  net_version s = ap (λ (z : World). z.net.w.place.version s) h.over

  -- what holds does so in another reopening
  pub reopen_held : IsHeld setup w first x.nonces l reopened
  reopen_held = record {
    reached = h.reached;
    over = h.over;
    controller = record {
      places = let a = m.places in let b = net_base in omega arith;
      versions = λ s. let a = m.versions s in let b = net_base in let e = net_version s in omega arith;
      since = let a = h.controller.since in let b = h.controller.nonces in omega arith;
      nonces = omega arith;
      log = h.controller.log;
      servers = let a = h.controller.servers in omega arith;
      told_made = λ p n e. absurd (cc);
      asked = λ v e. absurd (cc);
      opening = h.controller.opening;
      above_versions = h.controller.above_versions;
      beyond = h.controller.beyond;
      below = λ k e. let a = h.controller.below k e in let b = m.later in omega arith;
      before = λ u k e. let a = h.controller.below k e in let b = m.later in omega arith;
      closed = h.controller.closed;
      confirmed = λ s e. absurd (cc);
      kept_promises = λ e. absurd (cc);
      told_promised = λ e. absurd (cc);
      told_map = λ e. absurd (cc);
      unsettled = λ e p. refl;
    };
    servers = λ v. let z = h.servers v in record {
      number = let a = z.number in let b = m.later in omega arith;
      made = z.made;
      fresh = λ n e q. absurd (let a = z.number in let b = m.later in omega arith);
      lasts = λ s. let a = z.lasts s in let b = m.later in omega arith;
      blank = z.blank;
      untouched = λ p e. let u = z.untouched p e in record { cells = u.cells; lasts = u.lasts; sizes = u.sizes; loads = u.loads; along = u.along };
      touched = λ p. let t = z.touched p in record { above = t.above; loads = t.loads; sizes = t.sizes; nonce = t.nonce; server = (let a = t.server in omega arith); confirmed = t.confirmed };
      told = λ u i e. absurd (cc);
      partly = z.partly;
      taken = λ e. absurd (cc);
      lost = λ e q. absurd (let g = (m.given_up v e).unknown in cc);
    };
    owner = record { number = (let a = h.owner.number in let b = m.later in omega arith); known = h.owner.known; told = λ u i e. absurd (cc); taken = λ e. absurd (cc) };
    shown = record { first = h.shown.first; last = h.shown.last };
    messages = all_append (λ n. IsGood fr (standing w x (addressee n)) (x.bases MapOwner) (x.messages ++ fences_list) n) x.messages fences_list
        (all_map (λ n. BringsNone n × IsGood fo (standing w x (addressee n)) (x.bases MapOwner) x.messages n) (λ n. IsGood fr (standing w x (addressee n)) (x.bases MapOwner) (x.messages ++ fences_list) n) x.messages
        (λ n q. good_grown fr (standing w x (addressee n)) (x.bases MapOwner) x.messages fences_list n (λ v asked number e a z. all_map (IsFenceBelow base) (IsSettleBelow v number) fences_list (fence_no_settle base v number) fences_are) (good_reopened n q))
        (all_both BringsNone (λ n. IsGood fo (standing w x (addressee n)) (x.bases MapOwner) x.messages n) x.messages brings_none h.messages))
        (all_map (IsFenceBelow base) (λ n. IsGood fr (standing w x (addressee n)) (x.bases MapOwner) (x.messages ++ fences_list) n) fences_list (λ n q. fence_is_good fr (standing w x (addressee n)) (x.bases MapOwner) (x.messages ++ fences_list) n q) fences_are);
  }
