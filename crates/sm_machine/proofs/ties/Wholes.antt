-- The parts of each right that are in the pool, that are held and that nobody may use are together what there is.
use Rattle.std.proofs.Common.{◌≡◌, ℕ, ◌+◌, ◌<◌, ◌≤◌, Option, Some, None, refl, sym, ap, ◌∙◌, arith, inl, inr}
use Rattle.std.specs.Prelude.{if◌then◌else◌}
use Rattle.std.proofs.lemmas.Bool.{cases_Bool, cases_eq, cases_lt, eq-eqb, lt-ltb, le-ltb}
use Rattle.sm_placement.specs.declared.lead.Lead.{Lead}
use Rattle.sm_placement.specs.Sums.{bit}
use Rattle.sm_placement.proofs.Sums.{bit-le-one}
use Rattle.sm_reservation.specs.declared.right.PlainCell.{PlainCell}
use Rattle.sm_reservation.specs.Hold.{Hold}
use Rattle.sm_reservation.specs.Amounts.{Right, OfCell, OfCrown, OfRoom, OfSpare, count, stock, bound, is_cell, is_crown, plain_of}
use Rattle.sm_reservation.specs.Pool.{true_rights, leads_of, IsKnownHold, IsKnownRight}
use Rattle.sm_reservation.proofs.Joins.{known_or_not, nothing_unknown}
use Rattle.sm_reservation.proofs.Truths.{is_cell_true}
use Rattle.sm_verifier.proofs.Judging.{crown_true, crown_self}
use Rattle.sm_protocol.specs.State.{State, held, pool, free_cell, free_crown}
use Rattle.sm_protocol.proofs.Invariant.{IsKept}
use Rattle.sm_protocol.proofs.Steps.{leads_are, lead_is}
use Rattle.sm_protocol.proofs.Pools.{pool_within, room_conserved, spare_conserved}
use Rattle.sm_machine.proofs.ties.Counting.{counts_decide}

-- how much of a right there is
abbrev pub there : State → Right → ℕ
there w r = stock w.sizes w.place (leads_of w.sizes w.place) r

-- what there is, under leads that are those of the placement
pub same_stock : (w : State) (leads : ℕ → Lead) → ((s : ℕ) → leads_of w.sizes w.place s ≡ leads s) → (r : Right) → there w r ≡ stock w.sizes w.place leads r
same_stock w leads e (OfCell s u state) = refl
same_stock w leads e (OfCrown s lead listed) = ap (λ l. bit (is_crown lead listed (Some (l, w.place.listed s)))) (e s)
same_stock w leads e (OfRoom u) = refl
same_stock w leads e (OfSpare s) = refl

free_or_held : (n b c : ℕ) → (n ≡ 0 → c ≡ b) → c + n ≤ b → b ≤ 1 → c + n ≡ b
free_or_held n b c free within one = elim (cases_eq n 0) [ inl z ↦ let e = free z in omega arith | inr z ↦ omega arith ]

module _ (w : State) (v : IsKept w) where
  leads_same : (s : ℕ) → leads_of w.sizes w.place s ≡ v.leads s
  leads_same s = leads_are w v s

  within : (r : Right) → count (pool w) r + held w r + bound w.sizes w.place r ≤ there w r
  within r = let p = pool_within w v r in let s = same_stock w v.leads leads_same r in omega arith

  cell_free : (s u : ℕ) (state : PlainCell) → s < w.sizes.shards → u < w.sizes.servers → held w (OfCell s u state) ≡ 0 → count (pool w) (OfCell s u state) ≡ bit (is_cell state (plain_of (w.place.cells s u)))
  cell_free s u state ls lu none = elim (cases_Bool (is_cell state (plain_of (w.place.cells s u)))) [
    | inl it ↦
        let is : plain_of (w.place.cells s u) ≡ Some state = is_cell_true state (plain_of (w.place.cells s u)) it in
        let here : (true_rights w.sizes w.place).cells s u ≡ Some state = rw (lt-ltb s w.sizes.shards ls, lt-ltb u w.sizes.servers lu) is in
        let free : (pool w).cells s u ≡ Some state = ap (λ o. free_cell (held w) s u o) here ∙ ap (λ t. if t then Some state else None) (eq-eqb (held w (OfCell s u state)) 0 none) in
        ap (λ o. bit (is_cell state o)) free ∙ sym (ap (λ o. bit (is_cell state o)) is)
    | inr other ↦
        let l : count (pool w) (OfCell s u state) + held w (OfCell s u state) + 0 ≤ bit (is_cell state (plain_of (w.place.cells s u))) = within (OfCell s u state) in
        let z : bit (is_cell state (plain_of (w.place.cells s u))) ≡ 0 = ap bit other in
        omega arith
  ]

  crown_free : (s : ℕ) (lead : Lead) (listed : Option ℕ) → s < w.sizes.shards → held w (OfCrown s lead listed) ≡ 0 →
      count (pool w) (OfCrown s lead listed) ≡ bit (is_crown lead listed (Some (leads_of w.sizes w.place s, w.place.listed s)))
  crown_free s lead listed ls none = elim (cases_Bool (is_crown lead listed (Some (leads_of w.sizes w.place s, w.place.listed s)))) [
    | inl it ↦
        let is : ◌≡◌ {A = Option (Lead × Option ℕ)} (Some (leads_of w.sizes w.place s, w.place.listed s)) (Some (lead, listed)) = crown_true lead listed _ it in
        let here : (true_rights w.sizes w.place).crowns s ≡ Some (lead, listed) = rw (lt-ltb s w.sizes.shards ls, lead_is w v s) (ap (λ l. Some (l, w.place.listed s)) (sym (leads_are w v s)) ∙ is) in
        let free : (pool w).crowns s ≡ Some (lead, listed) = ap (λ o. free_crown (held w) s o) here ∙ ap (λ t. if t then Some (lead, listed) else None) (eq-eqb (held w (OfCrown s lead listed)) 0 none) in
        ap (λ o. bit (is_crown lead listed o)) free ∙ ap bit (crown_self lead listed) ∙ sym (ap bit it)
    | inr other ↦
        let l : count (pool w) (OfCrown s lead listed) + held w (OfCrown s lead listed) + 0 ≤ bit (is_crown lead listed (Some (leads_of w.sizes w.place s, w.place.listed s))) = within (OfCrown s lead listed) in
        let z : bit (is_crown lead listed (Some (leads_of w.sizes w.place s, w.place.listed s))) ≡ 0 = ap bit other in
        omega arith
  ]

  -- of each right of known shards and servers
  pub pool_whole : (r : Right) → IsKnownRight w.sizes r → count (pool w) r + held w r + bound w.sizes w.place r ≡ there w r
  pool_whole (OfCell s u state) known =
      let l : count (pool w) (OfCell s u state) + held w (OfCell s u state) + 0 ≤ bit (is_cell state (plain_of (w.place.cells s u))) = within (OfCell s u state) in
      let e = free_or_held (held w (OfCell s u state)) (bit (is_cell state (plain_of (w.place.cells s u)))) (count (pool w) (OfCell s u state)) (cell_free s u state known.0 known.1) (omega arith) (bit-le-one (is_cell state (plain_of (w.place.cells s u)))) in
      omega arith
  pool_whole (OfCrown s lead listed) known =
      let l : count (pool w) (OfCrown s lead listed) + held w (OfCrown s lead listed) + 0 ≤ bit (is_crown lead listed (Some (leads_of w.sizes w.place s, w.place.listed s))) = within (OfCrown s lead listed) in
      let e = free_or_held (held w (OfCrown s lead listed)) (bit (is_crown lead listed (Some (leads_of w.sizes w.place s, w.place.listed s)))) (count (pool w) (OfCrown s lead listed)) (crown_free s lead listed known) (omega arith) (bit-le-one (is_crown lead listed (Some (leads_of w.sizes w.place s, w.place.listed s)))) in
      omega arith
  pool_whole (OfRoom u) known = room_conserved w v u known
  pool_whole (OfSpare s) known = spare_conserved w v s known

  -- nothing else is in the pool
  pub pool_known : IsKnownHold w.sizes.shards w.sizes.servers (pool w)
  pool_known = record {
    no_shard = λ s u l. ap (λ o. free_cell (held w) s u o) (let e : (true_rights w.sizes w.place).cells s u ≡ None = rw (le-ltb s w.sizes.shards l) refl in e);
    no_server = λ s u l. ap (λ o. free_cell (held w) s u o) (let e : (true_rights w.sizes w.place).cells s u ≡ None = no_known s u l in e);
    crowns = λ s l. ap (λ o. free_crown (held w) s o) (let e : (true_rights w.sizes w.place).crowns s ≡ None = rw (le-ltb s w.sizes.shards l) refl in e);
    room = λ u l. let e : (true_rights w.sizes w.place).room u ≡ 0 = rw (le-ltb u w.sizes.servers l) refl in omega arith;
    spare = λ s l. let e : (true_rights w.sizes w.place).spare s ≡ 0 = rw (le-ltb s w.sizes.shards l) refl in omega arith;
  }
    where
      no_known : (s u : ℕ) → w.sizes.servers ≤ u → (true_rights w.sizes w.place).cells s u ≡ None
      no_known s u l = elim (cases_lt s w.sizes.shards) [
        | inl k ↦ rw (lt-ltb s w.sizes.shards k, le-ltb u w.sizes.servers l) refl
        | inr k ↦ rw (le-ltb s w.sizes.shards k) refl
      ]

  -- a hold of known shards and servers that has of each right what is neither held nor bound is the pool
  pub is_pool : (h : Hold) → IsKnownHold w.sizes.shards w.sizes.servers h → ((r : Right) → IsKnownRight w.sizes r → count h r + held w r + bound w.sizes w.place r ≡ there w r) → h ≡ pool w
  is_pool h below whole = counts_decide h (pool w) (λ r. elim (known_or_not w.sizes r) [
    | inl known ↦ let a = whole r known in let b = pool_whole r known in omega arith
    | inr unknown ↦ nothing_unknown w.sizes h below r unknown ∙ sym (nothing_unknown w.sizes (pool w) pool_known r unknown)
  ])
