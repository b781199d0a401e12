-- No other cut is told under a handover's number than the one that the old owner has made.
use Rattle.std.proofs.Common.{◌≡◌, ◌≢◌, ◌⊎◌, ℕ, zero, suc, refl, sym, ap, ◌∙◌, inl, inr, subst, arith, true, false, Option, Some, None, List, [], ◌∷◌}
use Rattle.std.specs.Prelude.{slice_get}
use Rattle.std.specs.List.{AllByRecursion}
use Rattle.std.proofs.lemmas.Bool.{cases_eq, cases_lt}
use Rattle.sm_server.specs.declared.call.Cell.{Cell}
use Rattle.sm_server.specs.declared.call.Cell.TheVariants.{Absent, Forwarding, Prepared, Primary, Secondary}
use Rattle.sm_server.specs.declared.call.Call.{Call}
use Rattle.sm_server.specs.declared.call.Call.TheVariants.{PrepareDrop}
use Rattle.sm_server.specs.Call.{led_to}
use Rattle.sm_placement.specs.Lead.{Describes, IsPlain, is_at_rest}
use Rattle.sm_placement.specs.Place.{Place}
use Rattle.sm_placement.specs.Setup.{Setup, sizes_of}
use Rattle.sm_placement.specs.declared.lead.Lead.{Lead}
use Rattle.sm_placement.specs.declared.lead.Lead.TheVariants.{Gone, At, Ready, Handing, Handed}
use Rattle.sm_verifier.proofs.OnePlace.{put2_cases}
use Rattle.sm_protocol.specs.Laws.{IsOpening}
use Rattle.laws_network.specs.Net.{Order}
use Rattle.laws_network.specs.Fleet.{Commit, Committed, Fleet, FleetEvent, Handoff, fleet_comes, fleet_run, has_lost, held_cells}
use Rattle.laws_network.specs.FleetLaws.{AllFleetFit, FleetFits, IsFleetReached}
use Rattle.laws_network.proofs.Lists.{all_at}
use Rattle.laws_network.proofs.Shade.{IsAmong}
use Rattle.laws_service_data.specs.CutsTold.{CutIsToldAsMade, ForwardsWhile}
use Rattle.laws_service_data.proofs.Fresh.{passes_lower}
use Rattle.laws_service_data.proofs.Held.{Commits, IsHeldChange, MovesHeld, Stays, moves_held}
use Rattle.laws_service_data.proofs.Rows.{primary_serves}
use Rattle.laws_service_data.proofs.Runs.{described, fleet_next, known_cell, one_serves}
use Rattle.laws_service_data.proofs.Told.{Emptied, Heard, Kept, Made, SlotMove, passes_all, passes_more, slot_at, slot_moves}

-- ---- rows

-- one server forwards at most
one_forwards : (lead : Lead) (n : ℕ) (row : ℕ → Cell) → Describes lead n row → (u v a b k m : ℕ) → row u ≡ Forwarding a k → row v ≡ Forwarding b m → u ≡ v
one_forwards Gone n row d u v a b k m p q = absurd (subst IsPlain p (d u))
one_forwards (At x) n row d u v a b k m p q = elim (cases_eq u x) [
  | inl e ↦ absurd (let z : Forwarding a k ≡ Primary = sym p ∙ (ap row e ∙ d.0) in cc)
  | inr e ↦ absurd (subst IsPlain p (d.1 u e))
]
one_forwards (Ready x y) n row d u v a b k m p q = elim (cases_eq u x) [
  | inl e ↦ absurd (let z : Forwarding a k ≡ Primary = sym p ∙ (ap row e ∙ d.1) in cc)
  | inr e ↦ elim (cases_eq u y) [
    | inl f ↦ absurd (let z : Forwarding a k ≡ Prepared x n = sym p ∙ (ap row f ∙ d.2) in cc)
    | inr f ↦ absurd (subst IsPlain p (d.3 u e f))
  ]
]
one_forwards (Handing x y) n row d u v a b k m p q = first u a k p ∙ sym (first v b m q)
  where
    first : (u a k : ℕ) → row u ≡ Forwarding a k → u ≡ x
    first u a k p = elim (cases_eq u x) [
      | inl e ↦ e
      | inr e ↦ elim (cases_eq u y) [
        | inl f ↦ absurd (let z : Forwarding a k ≡ Prepared x n = sym p ∙ (ap row f ∙ d.2) in cc)
        | inr f ↦ absurd (subst IsPlain p (d.3 u e f))
      ]
    ]
one_forwards (Handed x y) n row d u v a b k m p q = first u a k p ∙ sym (first v b m q)
  where
    first : (u a k : ℕ) → row u ≡ Forwarding a k → u ≡ x
    first u a k p = elim (cases_eq u x) [
      | inl e ↦ e
      | inr e ↦ elim (cases_eq u y) [
        | inl f ↦ absurd (let z : Forwarding a k ≡ Primary = sym p ∙ (ap row f ∙ d.2) in cc)
        | inr f ↦ absurd (subst IsPlain p (d.3 u e f))
      ]
    ]

-- where a handover is prepared nobody forwards
none_forwards : (lead : Lead) (n : ℕ) (row : ℕ → Cell) → Describes lead n row → (u v w m a k : ℕ) → row u ≡ Primary → row v ≡ Prepared u m → row w ≡ Forwarding a k → ⊥
none_forwards Gone n row d u v w m a k p q r = absurd (subst IsPlain p (d u))
none_forwards (At x) n row d u v w m a k p q r = elim (cases_eq w x) [
  | inl e ↦ absurd (let z : Forwarding a k ≡ Primary = sym r ∙ (ap row e ∙ d.0) in cc)
  | inr e ↦ absurd (subst IsPlain r (d.1 w e))
]
none_forwards (Ready x y) n row d u v w m a k p q r = elim (cases_eq w x) [
  | inl e ↦ absurd (let z : Forwarding a k ≡ Primary = sym r ∙ (ap row e ∙ d.1) in cc)
  | inr e ↦ elim (cases_eq w y) [
    | inl f ↦ absurd (let z : Forwarding a k ≡ Prepared x n = sym r ∙ (ap row f ∙ d.2) in cc)
    | inr f ↦ absurd (subst IsPlain r (d.3 w e f))
  ]
]
none_forwards (Handing x y) n row d u v w m a k p q r = elim (cases_eq u x) [
  | inl e ↦ absurd (let z : Primary ≡ Forwarding y n = sym p ∙ (ap row e ∙ d.1) in cc)
  | inr e ↦ elim (cases_eq u y) [
    | inl f ↦ absurd (let z : Primary ≡ Prepared x n = sym p ∙ (ap row f ∙ d.2) in cc)
    | inr f ↦ absurd (subst IsPlain p (d.3 u e f))
  ]
]
none_forwards (Handed x y) n row d u v w m a k p q r = elim (cases_eq v x) [
  | inl e ↦ absurd (let z : Prepared u m ≡ Forwarding y n = sym q ∙ (ap row e ∙ d.1) in cc)
  | inr e ↦ elim (cases_eq v y) [
    | inl f ↦ absurd (let z : Prepared u m ≡ Primary = sym q ∙ (ap row f ∙ d.2) in cc)
    | inr f ↦ absurd (subst IsPlain q (d.3 v e f))
  ]
]

-- the new owner to which one forwards is prepared for it, or the primary
forwarded_to : (lead : Lead) (n : ℕ) (row : ℕ → Cell) → Describes lead n row → (u to m : ℕ) → row u ≡ Forwarding to m → (to ≢ u) × ((row to ≡ Prepared u m) ⊎ (row to ≡ Primary))
forwarded_to Gone n row d u to m p = absurd (subst IsPlain p (d u))
forwarded_to (At x) n row d u to m p = elim (cases_eq u x) [
  | inl e ↦ absurd (let z : Forwarding to m ≡ Primary = sym p ∙ (ap row e ∙ d.0) in cc)
  | inr e ↦ absurd (subst IsPlain p (d.1 u e))
]
forwarded_to (Ready x y) n row d u to m p = elim (cases_eq u x) [
  | inl e ↦ absurd (let z : Forwarding to m ≡ Primary = sym p ∙ (ap row e ∙ d.1) in cc)
  | inr e ↦ elim (cases_eq u y) [
    | inl f ↦ absurd (let z : Forwarding to m ≡ Prepared x n = sym p ∙ (ap row f ∙ d.2) in cc)
    | inr f ↦ absurd (subst IsPlain p (d.3 u e f))
  ]
]
forwarded_to (Handing x y) n row d u to m p = elim (cases_eq u x) [
  | inl e ↦
      let z : Forwarding to m ≡ Forwarding y n = sym p ∙ (ap row e ∙ d.1) in
      let t : to ≡ y = cc in
      let k : m ≡ n = cc in
      ((λ h. d.0 (sym (sym t ∙ (h ∙ e)))), inl (ap row t ∙ (d.2 ∙ (ap (λ w. Prepared w n) (sym e) ∙ ap (Prepared u) (sym k)))))
  | inr e ↦ elim (cases_eq u y) [
    | inl f ↦ absurd (let z : Forwarding to m ≡ Prepared x n = sym p ∙ (ap row f ∙ d.2) in cc)
    | inr f ↦ absurd (subst IsPlain p (d.3 u e f))
  ]
]
forwarded_to (Handed x y) n row d u to m p = elim (cases_eq u x) [
  | inl e ↦
      let z : Forwarding to m ≡ Forwarding y n = sym p ∙ (ap row e ∙ d.1) in
      let t : to ≡ y = cc in
      ((λ h. d.0 (sym (sym t ∙ (h ∙ e)))), inr (ap row t ∙ d.2))
  | inr e ↦ elim (cases_eq u y) [
    | inl f ↦ absurd (let z : Forwarding to m ≡ Primary = sym p ∙ (ap row f ∙ d.2) in cc)
    | inr f ↦ absurd (subst IsPlain p (d.3 u e f))
  ]
]

-- no server of a settled placement is prepared
none_prepared : (setup : Setup) (p : Place) (room : ℕ) → IsOpening setup p room → (k v w n : ℕ) → p.cells k v ≡ Prepared w n → ⊥
none_prepared setup p room o k v w n e = elim (cases_lt k (sizes_of setup).shards) [
  | inl l ↦ let d = o.settled.leads k l in go d.0 d.1 d.2
  | inr l ↦ absurd (let z : Absent ≡ Prepared w n = sym (o.placement.no_shard k v l) ∙ e in cc)
]
  where
    go : (lead : Lead) → is_at_rest lead ≡ true → Describes lead 0 (p.cells k) → ⊥
    go Gone r d = absurd (subst IsPlain e (d v))
    go (At u) r d = elim (cases_eq v u) [
      | inl q ↦ absurd (let z : Prepared w n ≡ Primary = sym e ∙ (ap (p.cells k) q ∙ d.0) in cc)
      | inr q ↦ absurd (subst IsPlain e (d.1 v q))
    ]
    go (Ready x y) r d = absurd (cc)
    go (Handing x y) r d = absurd (cc)
    go (Handed x y) r d = absurd (cc)

-- ---- who has heard a cut

-- a prepared server has heard a cut by a request that was passed on under its handover's number
abbrev AreByPasses : Fleet → Type 0
AreByPasses f = (s v w n c : ℕ) → has_lost f v ≡ false → (slot_at f s v).cell ≡ Prepared w n → (slot_at f s v).cut ≡ Some c → (h : Handoff) × IsAmong f.passes h × (h.shard ≡ s) × (h.pass.handover ≡ n)

by_passes_next : (f : Fleet) (e : FleetEvent) → AreByPasses f → AreByPasses (fleet_comes f e).1
by_passes_next f e all s v w n c known cell cut = go (slot_moves f s v e known)
  where
    go : SlotMove f e s v (slot_at (fleet_comes f e).1 s v) → (h : Handoff) × IsAmong (fleet_comes f e).1.passes h × (h.shard ≡ s) × (h.pass.handover ≡ n)
    go (Kept was k q) = let r = all s v w n c was (sym k ∙ cell) (sym q ∙ cut) in (r.0, passes_more f e r.0 r.1, r.2, r.3)
    go (Emptied none) = absurd (let z : ◌≡◌ {A = Option ℕ} None (Some c) = sym none ∙ cut in cc)
    go (Heard j h x y g k q) = (h, passes_more f e h (j, y), g, (let z : Prepared x h.pass.handover ≡ Prepared w n = sym k ∙ cell in let t : h.pass.handover ≡ n = cc in t))
    go (Made o place at to k a b g t z y q) = absurd (let p : Forwarding to k ≡ Prepared w n = sym y ∙ cell in cc)

by_passes_run : (es : List FleetEvent) (f : Fleet) → AreByPasses f → AreByPasses (fleet_run es f)
by_passes_run [] f all = all
by_passes_run (e ∷ es) f all = by_passes_run es (fleet_comes f e).1 (by_passes_next f e all)

by_passes : (setup : Setup) (f : Fleet) → IsFleetReached setup f → AreByPasses f
by_passes setup f r = subst AreByPasses (sym r.state) (by_passes_run r.events r.first (λ s v w n c known cell cut.
    absurd (none_prepared setup r.opening.world.net.place r.opening.world.net.room r.opening.world.net.opening s v w n
    (sym (ap (λ (cells : ℕ → ℕ → Cell). cells s v) r.opening.world.net.cells) ∙ (known_cell r.first s v known ∙ cell)))))

-- ---- as long as an old owner forwards

-- This is the cut, wherever one is told under a handover's number.
record IsCut (f : Fleet) (s number at : ℕ) : Type 0 where
  pub passed : AllByRecursion (λ h. h.shard ≡ s → h.pass.handover ≡ number → h.pass.cut ≡ at) f.passes
  pub heard : (v w c : ℕ) → has_lost f v ≡ false → (slot_at f s v).cell ≡ Prepared w number → (slot_at f s v).cut ≡ Some c → c ≡ at
  pub made : (v w c : ℕ) → has_lost f v ≡ false → (slot_at f s v).cell ≡ Forwarding w number → (slot_at f s v).cut ≡ Some c → c ≡ at

same_some : {A : Type 0} (a b : A) → ◌≡◌ {A = Option A} (Some a) (Some b) → a ≡ b
same_some a b e = cc

-- the cut that a known server forwards with is one of the shard's row
forwards_held : (f : Fleet) (s v w n : ℕ) → has_lost f v ≡ false → (slot_at f s v).cell ≡ Forwarding w n → held_cells f s v ≡ Forwarding w n
forwards_held f s v w n known cell = known_cell f s v known ∙ cell

-- only a primary makes a cut
primary_of : (w n : ℕ) (c : Cell) (d : Cell) → led_to (PrepareDrop w n) c ≡ Some d → (c ≡ Primary) × (d ≡ Forwarding w n)
primary_of w n Primary d y = (refl, (let z : d ≡ Forwarding w n = cc in z))
primary_of w n Absent d y = absurd (cc)
primary_of w n Secondary d y = absurd (cc)
primary_of w n (Prepared a b) d y = absurd (cc)
primary_of w n (Forwarding a b) d y = absurd (cc)

module _ (setup : Setup) (s number at u to m : ℕ) (f : Fleet) (r : IsFleetReached setup f) (e : FleetEvent) (fit : FleetFits setup f e) (forwards : held_cells f s u ≡ Forwarding to m) (k : IsCut f s number at) where
  abbrev new : Fleet
  new = (fleet_comes f e).1

  there : IsFleetReached setup new
  there = fleet_next setup f e r fit

  -- nobody else makes a cut, nor the same server another one
  never_made : (o : Order) (v w n : ℕ) → (fleet_comes f e).0 ≡ Committed o → o.call.shard ≡ s → o.call.server ≡ v → o.call.call ≡ PrepareDrop w n → ⊥
  never_made o v w n q g h c = go (moves_held setup f r e)
    where
      same : {a b : Order} → (fleet_comes f e).0 ≡ Committed a → (fleet_comes f e).0 ≡ Committed b → a ≡ b
      same {a} {b} x y = (let z : Committed a ≡ Committed b = sym x ∙ y in cc)

      go : MovesHeld f (fleet_comes f e) → ⊥
      go (Stays none x) = none o q
      go (Commits p x change) = by_order (subst (IsHeldChange f new) (same x q) change)
        where
          by_order : IsHeldChange f new o → ⊥
          by_order change =
              let p = primary_of w n (held_cells f o.call.shard o.call.server) change.next (ap (λ (z : Call). led_to z (held_cells f o.call.shard o.call.server)) (sym c) ∙ change.led) in
              let was : held_cells f s v ≡ Primary = ap (λ z. held_cells f z v) (sym g) ∙ (ap (held_cells f o.call.shard) (sym h) ∙ p.0) in
              let apart : v ≢ u = λ z. absurd (let y : Primary ≡ Forwarding to m = sym was ∙ (ap (held_cells f s) z ∙ forwards) in cc) in
              let now : held_cells new s v ≡ Forwarding w n = change.held s v ∙ elim (put2_cases (held_cells f) o.call.shard o.call.server change.next s v) [
                | inl z ↦ z.2 ∙ p.1
                | inr z ↦ absurd (z.0 (sym g, sym h))
              ] in
              let still : held_cells new s u ≡ Forwarding to m = change.held s u ∙ elim (put2_cases (held_cells f) o.call.shard o.call.server change.next s u) [
                | inl z ↦ absurd (apart (sym (z.1 ∙ h)))
                | inr z ↦ z.1 ∙ forwards
              ] in
              let d = described setup s new there in
              apart (one_forwards d.0 d.1 (held_cells new s) d.2 v u w to n m now still)

  -- so the cut stays the one
  cut_next : IsCut new s number at
  cut_next = record {
    passed = passes_all f (λ h. h.shard ≡ s → h.pass.handover ≡ number → h.pass.cut ≡ at) e k.passed (λ h p g q.
        k.made h.pass.from h.target h.pass.cut p.known (ap (λ z. (slot_at f z h.pass.from).cell) (sym g) ∙ (p.cell ∙ ap (Forwarding h.target) q)) (ap (λ z. (slot_at f z h.pass.from).cut) (sym g) ∙ p.cut));
    heard = λ v w c known cell cut. heard v w c cell cut (slot_moves f s v e known);
    made = λ v w c known cell cut. made v w c cell cut (slot_moves f s v e known);
  }
    where
      heard : (v w c : ℕ) → (slot_at new s v).cell ≡ Prepared w number → (slot_at new s v).cut ≡ Some c → SlotMove f e s v (slot_at new s v) → c ≡ at
      heard v w c cell cut (Kept was x y) = k.heard v w c was (sym x ∙ cell) (sym y ∙ cut)
      heard v w c cell cut (Emptied none) = absurd (let z : ◌≡◌ {A = Option ℕ} None (Some c) = sym none ∙ cut in cc)
      heard v w c cell cut (Heard j h x q g y z) =
          let n : h.pass.handover ≡ number = (let t : Prepared x h.pass.handover ≡ Prepared w number = sym y ∙ cell in cc) in
          sym (same_some h.pass.cut c (sym z ∙ cut)) ∙ all_at (λ h. h.shard ≡ s → h.pass.handover ≡ number → h.pass.cut ≡ at) f.passes j h k.passed q g n
      heard v w c cell cut (Made o place x y n a b g h z t q) = absurd (never_made o v y n b g h z)

      made : (v w c : ℕ) → (slot_at new s v).cell ≡ Forwarding w number → (slot_at new s v).cut ≡ Some c → SlotMove f e s v (slot_at new s v) → c ≡ at
      made v w c cell cut (Kept was x y) = k.made v w c was (sym x ∙ cell) (sym y ∙ cut)
      made v w c cell cut (Emptied none) = absurd (let z : ◌≡◌ {A = Option ℕ} None (Some c) = sym none ∙ cut in cc)
      made v w c cell cut (Heard j h x q g y z) = absurd (let t : Prepared x h.pass.handover ≡ Forwarding w number = sym y ∙ cell in cc)
      made v w c cell cut (Made o place x y n a b g h z t q) = absurd (never_made o v y n b g h z)

-- so it does along a list of events
cut_run : (setup : Setup) (s number at u : ℕ) (es : List FleetEvent) (f : Fleet) → IsFleetReached setup f → AllFleetFit setup f es → ForwardsWhile s u f es → IsCut f s number at → IsCut (fleet_run es f) s number at
cut_run setup s number at u [] f r fit forwards k = k
cut_run setup s number at u (e ∷ es) f r fit forwards k =
    cut_run setup s number at u es (fleet_comes f e).1 (fleet_next setup f e r fit.0) fit.1 forwards.3 (cut_next setup s number at u forwards.0 forwards.1 f r e fit.0 forwards.2 k)

-- ---- when it makes its cut

-- what holds at each place holds of all
all_from : (P : Handoff → Type 0) (xs : List Handoff) → ((j : ℕ) (h : Handoff) → slice_get xs j ≡ Some h → P h) → AllByRecursion P xs
all_from P [] each = tt
all_from P (x ∷ xs) each = (each zero x refl, all_from P xs (λ j h e. each (suc j) h e))

module _ (setup : Setup) (f : Fleet) (place at to number : ℕ) (o : Order) (r : IsFleetReached setup f) (q : (fleet_comes f (Commit place at)).0 ≡ Committed o) (call : o.call.call ≡ PrepareDrop to number) where
  abbrev after : Fleet
  after = (fleet_comes f (Commit place at)).1

  abbrev s : ℕ
  s = o.call.shard

  abbrev u : ℕ
  u = o.call.server

  after_reached : IsFleetReached setup after
  after_reached = fleet_next setup f (Commit place at) r tt

  change : IsHeldChange f after o
  change = go (moves_held setup f r (Commit place at))
    where
      go : MovesHeld f (fleet_comes f (Commit place at)) → IsHeldChange f after o
      go (Stays none x) = absurd (none o q)
      go (Commits p x c) = subst (IsHeldChange f after) (let z : Committed p ≡ Committed o = sym x ∙ q in let y : p ≡ o = cc in y) c

  by_call : (held_cells f s u ≡ Primary) × (change.next ≡ Forwarding to number)
  by_call = primary_of to number (held_cells f s u) change.next (ap (λ (z : Call). led_to z (held_cells f s u)) (sym call) ∙ change.led)

  forwards_now : held_cells after s u ≡ Forwarding to number
  forwards_now = change.held s u ∙ elim (put2_cases (held_cells f) s u change.next s u) [
    | inl z ↦ z.2 ∙ by_call.1
    | inr z ↦ absurd (z.0 (refl, refl))
  ]

  -- before, the new owner is prepared
  prepared : held_cells f s to ≡ Prepared u number
  prepared =
      let d = described setup s after after_reached in
      let p = forwarded_to d.0 d.1 (held_cells after s) d.2 u to number forwards_now in
      let still : held_cells after s to ≡ held_cells f s to = change.held s to ∙ elim (put2_cases (held_cells f) s u change.next s to) [
        | inl z ↦ absurd (p.0 z.1)
        | inr z ↦ z.1
      ] in
      elim p.1 [
        | inl e ↦ sym still ∙ e
        | inr e ↦ absurd (p.0 (one_serves setup s f r to u (primary_serves (held_cells f s) to (sym still ∙ e)) (primary_serves (held_cells f s) u by_call.0)))
      ]

  -- so nothing was told of a cut under this number
  none_passed : (j : ℕ) (h : Handoff) → slice_get f.passes j ≡ Some h → h.shard ≡ s → h.pass.handover ≡ number → ⊥
  none_passed j h e g n = let l = passes_lower setup f r s u to number by_call.0 prepared j h e g in absurd (omega arith)

  none_made : (v w n : ℕ) → has_lost f v ≡ false → (slot_at f s v).cell ≡ Forwarding w n → ⊥
  none_made v w n known cell =
      let d = described setup s f r in
      none_forwards d.0 d.1 (held_cells f s) d.2 u to v number w n by_call.0 prepared (forwards_held f s v w n known cell)

  -- and what is told then is this cut
  cut_first : IsCut after s number at
  cut_first = record {
    passed = passes_all f (λ h. h.shard ≡ s → h.pass.handover ≡ number → h.pass.cut ≡ at) (Commit place at)
        (all_from (λ h. h.shard ≡ s → h.pass.handover ≡ number → h.pass.cut ≡ at) f.passes (λ j h e g n. absurd (none_passed j h e g n)))
        (λ h p g n. absurd (none_made h.pass.from h.target h.pass.handover p.known (ap (λ z. (slot_at f z h.pass.from).cell) (sym g) ∙ p.cell)));
    heard = λ v w c known cell cut. heard v w c cell cut (slot_moves f s v (Commit place at) known);
    made = λ v w c known cell cut. made v w c cell cut (slot_moves f s v (Commit place at) known);
  }
    where
      heard : (v w c : ℕ) → (slot_at after s v).cell ≡ Prepared w number → (slot_at after s v).cut ≡ Some c → SlotMove f (Commit place at) s v (slot_at after s v) → c ≡ at
      heard v w c cell cut (Kept was x y) = let h = by_passes setup f r s v w number c was (sym x ∙ cell) (sym y ∙ cut) in absurd (none_passed h.1.0 h.0 h.1.1 h.2 h.3)
      heard v w c cell cut (Emptied none) = absurd (let z : ◌≡◌ {A = Option ℕ} None (Some c) = sym none ∙ cut in cc)
      heard v w c cell cut (Heard j h x e g y z) = absurd (none_passed j h e g (let t : Prepared x h.pass.handover ≡ Prepared w number = sym y ∙ cell in cc))
      heard v w c cell cut (Made p k x y n a b g h z t e) = absurd (let m : Forwarding y n ≡ Prepared w number = sym t ∙ cell in cc)

      made : (v w c : ℕ) → (slot_at after s v).cell ≡ Forwarding w number → (slot_at after s v).cut ≡ Some c → SlotMove f (Commit place at) s v (slot_at after s v) → c ≡ at
      made v w c cell cut (Kept was x y) = absurd (none_made v w number was (sym x ∙ cell))
      made v w c cell cut (Emptied none) = absurd (let z : ◌≡◌ {A = Option ℕ} None (Some c) = sym none ∙ cut in cc)
      made v w c cell cut (Heard j h x e g y z) = absurd (let t : Prepared x h.pass.handover ≡ Forwarding w number = sym y ∙ cell in cc)
      made v w c cell cut (Made p k x y n a b g h z t e) = sym (same_some x c (sym e ∙ cut)) ∙ sym (let m : at ≡ x = cc in m)

-- No other cut is told than the one that was made.
pub cut_is_told : CutIsToldAsMade
cut_is_told setup f place at to number o es r q call fit forwards =
    let k = cut_run setup o.call.shard number at o.call.server es (fleet_comes f (Commit place at)).1 (fleet_next setup f (Commit place at) r tt) fit forwards
    (cut_first setup f place at to number o r q call) in
    record { passed = k.passed; heard = k.heard }
