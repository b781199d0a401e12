-- A plan of open moves that pay is admitted at a pool that is true of the placement.
use Rattle.std.proofs.Common.{◌≡◌, ℕ, zero, suc, ◌<◌, ◌≤◌, true, false, cond, Option, Some, List, length, refl, sym, ap, ◌∙◌, arith, inl, inr, subst}
use Rattle.std.specs.Prelude.{◌==◌, ◌&&◌, ◌||◌, not}
use Rattle.std.proofs.lemmas.Bool.{cases_Bool, cases_eq, eq-eqb, ne_eqb, and_parts, or_cases, both_ways, not_from_true}
use Rattle.sm_server.specs.Cell.{is_secondary}
use Rattle.sm_placement.specs.declared.lead.Lead.{Lead}
use Rattle.sm_placement.specs.declared.lead.Lead.TheVariants.{At}
use Rattle.sm_placement.specs.Sums.{sum_below, bit}
use Rattle.sm_placement.proofs.Sums.{same_sum, sum_apart, sum_zero}
use Rattle.sm_reservation.specs.declared.right.CellRight.{CellRight}
use Rattle.sm_reservation.specs.declared.right.PlainCell.{PlainCell}
use Rattle.sm_reservation.specs.declared.right.PlainCell.TheVariants.{Absent, Secondary}
use Rattle.sm_reservation.specs.Hold.{Hold}
use Rattle.sm_reservation.specs.HoldOf.{hold_of}
use Rattle.sm_reservation.specs.Amounts.{Right, OfCell, OfCrown, OfRoom, OfSpare, is_cell, is_crown, count}
use Rattle.sm_reservation.proofs.Truths.{is_cell_true, is_cell_self, bit_true}
use Rattle.sm_plan_code.specs.Plan.{StreamModel}
use Rattle.sm_plan_code.specs.declared.moves.Move.{Move}
use Rattle.sm_verifier.specs.Admission.{declared}
use Rattle.sm_verifier.specs.Within.{declared_sum, AreWithin}
use Rattle.sm_verifier.proofs.SumLemmas.{sum_once}
use Rattle.sm_verifier.proofs.Judging.{crown_true, crown_self}
use Rattle.sm_planner.specs.Basis.{Basis, move_at, left_cell}
use Rattle.sm_planner.specs.Rights.{has_crown_at}
use Rattle.sm_planner.specs.Payment.{stream_of}
use Rattle.sm_planner.specs.Plan.{moves_of, paid_by, planned}
use Rattle.sm_planner.proofs.law.Codes.{width, stream_count, stream_is, stream_known}
use Rattle.sm_planner.proofs.law.Payments.{to, from, pool_paid, pool_pays_what_it_has}
use Rattle.sm_planner.proofs.law.Streams.{shard, leads_shard, AreAllApart}
use Rattle.sm_planner.proofs.law.Opened.{IsOpened, one_of_two}
use Rattle.sm_planner.proofs.law.Declared.{needed_cases, needed_apart, cell_right, declares, IsNeeded, cell_from, IsCrowned, crown_from, room_most, no_spare}
use Rattle.sm_planner.proofs.law.Good.{room_paid_is}
use Rattle.sm_planner.proofs.law.Owing.{sum_each}
use Rattle.sm_reservation.proofs.Places.{same_here}

-- what is counted by classes is counted
pub sum_of_classes : (class : ℕ → ℕ) (f : ℕ → ℕ) (wide n : ℕ) → ((k : ℕ) → k < n → class k < wide) → sum_below wide (λ i. sum_below n (λ k. cond (class k == i) (f k) 0)) ≡ sum_below n f
sum_of_classes class f wide zero known = sum_zero wide (λ i. 0) (λ i. refl)
sum_of_classes class f wide (suc n) known =
    let low = sum_of_classes class f wide n (λ k l. known k (omega arith)) in
    let one : cond (class n == class n) (f n) 0 ≡ f n = rw (eq-eqb (class n) (class n) refl) refl in
    let more = sum_apart wide (λ i. sum_below (suc n) (λ k. cond (class k == i) (f k) 0)) (λ i. sum_below n (λ k. cond (class k == i) (f k) 0)) (class n) 0 (f n) (known n (omega arith))
    (λ j apart. (let none : cond (class n == j) (f n) 0 ≡ 0 = rw (ne_eqb (class n) j (λ e. apart (sym e))) refl in omega arith))
    (omega arith) in
    omega arith

-- the sum of ones is their number
pub ones : (m : ℕ) → sum_below m (λ k. 1) ≡ m
ones zero = refl
ones (suc m) = let e = ones m in omega arith

module _ (b : Basis) (order : List Move) (apart : AreAllApart b order) (opened : (k : ℕ) → k < length order → IsOpened b (move_at order k)) where
  abbrev holds : ℕ → Hold
  holds i = declares b order apart opened i

  declared_is : (i : ℕ) → i < width order → declared (planned b order).streams i ≡ holds i
  declared_is i l = ap (λ (s : StreamModel). hold_of s.holds) (stream_is b order i l)

  declared_sum_is : (r : Right) → declared_sum (planned b order).streams r ≡ sum_below (width order) (λ i. count (holds i) r)
  declared_sum_is r =
      ap (λ n. sum_below n (λ i. count (declared (planned b order).streams i) r)) (stream_count b order)
      ∙ same_sum (width order) (λ i. count (declared (planned b order).streams i) r) (λ i. count (holds i) r) (λ i l. ap (λ h. count h r) (declared_is i l))

  -- ---- what a move needs is in the pool

  rights_parts : (k : ℕ) → k < length order → ((is_cell Absent (b.pool.cells (shard b order k) (to b order k)) && (not (is_secondary (left_cell b.place (move_at order k))) || is_cell Secondary (b.pool.cells (shard b order k) (from b order k)))) ≡ true) × ((not (leads_shard b order k) || has_crown_at b (shard b order k) (from b order k)) ≡ true)
  rights_parts k l = and_parts (is_cell Absent (b.pool.cells (shard b order k) (to b order k)) && (not (is_secondary (left_cell b.place (move_at order k))) || is_cell Secondary (b.pool.cells (shard b order k) (from b order k)))) (not (leads_shard b order k) || has_crown_at b (shard b order k) (from b order k)) (opened k l).rights

  absent_in_pool : (k : ℕ) → k < length order → b.pool.cells (shard b order k) (to b order k) ≡ Some Absent
  absent_in_pool k l = is_cell_true Absent (b.pool.cells (shard b order k) (to b order k)) (and_parts (is_cell Absent (b.pool.cells (shard b order k) (to b order k))) (not (is_secondary (left_cell b.place (move_at order k))) || is_cell Secondary (b.pool.cells (shard b order k) (from b order k))) (rights_parts k l).0).0

  secondary_in_pool : (k : ℕ) → k < length order → leads_shard b order k ≡ false → b.pool.cells (shard b order k) (from b order k) ≡ Some Secondary
  secondary_in_pool k l follows =
      let either = (and_parts (is_cell Absent (b.pool.cells (shard b order k) (to b order k))) (not (is_secondary (left_cell b.place (move_at order k))) || is_cell Secondary (b.pool.cells (shard b order k) (from b order k))) (rights_parts k l).0).1 in
      elim (one_of_two (left_cell b.place (move_at order k)) (opened k l).replica) [
        | inl leads ↦ absurd (both_ways (leads_shard b order k) follows leads)
        | inr second ↦ elim (or_cases (not (is_secondary (left_cell b.place (move_at order k)))) (is_cell Secondary (b.pool.cells (shard b order k) (from b order k))) either) [
          | inl wrong ↦ absurd (both_ways (not (is_secondary (left_cell b.place (move_at order k)))) (not_from_true (is_secondary (left_cell b.place (move_at order k))) second) wrong)
          | inr there ↦ is_cell_true Secondary (b.pool.cells (shard b order k) (from b order k)) there
        ]
      ]

  crown_in_pool : (k : ℕ) → k < length order → leads_shard b order k ≡ true → b.pool.crowns (shard b order k) ≡ Some (At (from b order k), b.place.listed (shard b order k))
  crown_in_pool k l leads = elim (or_cases (not (leads_shard b order k)) (has_crown_at b (shard b order k) (from b order k)) (rights_parts k l).1) [
    | inl wrong ↦ absurd (both_ways (not (leads_shard b order k)) (not_from_true (leads_shard b order k) leads) wrong)
    | inr there ↦ crown_true (At (from b order k)) (b.place.listed (shard b order k)) (b.pool.crowns (shard b order k)) there
  ]

  needed_in_pool : (i s v : ℕ) (state : PlainCell) → IsNeeded b order apart opened i s v state → b.pool.cells s v ≡ Some state
  needed_in_pool i s v state need = elim (needed_cases b.place (move_at order need.move) (cell_right s v state) need.there) [
    | inl one ↦ subst (λ (x : CellRight). b.pool.cells x.shard x.server ≡ Some x.state) one (absent_in_pool need.move need.known)
    | inr two ↦ subst (λ (x : CellRight). b.pool.cells x.shard x.server ≡ Some x.state) two.1 (secondary_in_pool need.move need.known two.0)
  ]

  -- ---- of each right

  needs : (i s v : ℕ) (state : PlainCell) → 0 < count (holds i) (OfCell s v state) → IsNeeded b order apart opened i s v state
  needs i s v state some = cell_from b order apart opened i s v state (is_cell_true state ((holds i).cells s v) (bit_true (is_cell state ((holds i).cells s v)) (omega (arith, some))))

  cell_within : (s v : ℕ) (state : PlainCell) → sum_below (width order) (λ i. count (holds i) (OfCell s v state)) ≤ count b.pool (OfCell s v state)
  cell_within s v state = sum_once (width order) (count b.pool (OfCell s v state)) (λ i. count (holds i) (OfCell s v state)) (λ i l. each i) (λ i j l m at there. once i j (needs i s v state at) (needs j s v state there))
    where
      each : (i : ℕ) → count (holds i) (OfCell s v state) ≤ count b.pool (OfCell s v state)
      each i = elim (cases_Bool (is_cell state ((holds i).cells s v))) [
        | inl passes ↦
            let in_pool = needed_in_pool i s v state (cell_from b order apart opened i s v state (is_cell_true state ((holds i).cells s v) passes)) in
            let one : count (holds i) (OfCell s v state) ≡ 1 = ap bit passes in
            let there : count b.pool (OfCell s v state) ≡ 1 = ap (λ (o : Option PlainCell). bit (is_cell state o)) in_pool ∙ ap bit (is_cell_self state) in
            omega arith
        | inr fails ↦ (let none : count (holds i) (OfCell s v state) ≡ 0 = ap bit fails in omega arith)
      ]

      once : (i j : ℕ) → IsNeeded b order apart opened i s v state → IsNeeded b order apart opened j s v state → i ≡ j
      once i j one two = elim (cases_eq one.move two.move) [
        | inl same ↦ sym one.own ∙ ap stream_of same ∙ two.own
        | inr other ↦ absurd (both_ways _ (needed_apart b order apart opened one.move two.move one.known two.known other (cell_right s v state) (cell_right s v state) one.there two.there) (same_here (s, v)))
      ]

  crowned : (i s : ℕ) (lead : Lead) (listed : Option ℕ) → 0 < count (holds i) (OfCrown s lead listed) → IsCrowned b order apart opened i s (lead, listed)
  crowned i s lead listed some = crown_from b order apart opened i s (lead, listed) (crown_true lead listed ((holds i).crowns s) (bit_true (is_crown lead listed ((holds i).crowns s)) (omega (arith, some))))

  crown_within : (s : ℕ) (lead : Lead) (listed : Option ℕ) → sum_below (width order) (λ i. count (holds i) (OfCrown s lead listed)) ≤ count b.pool (OfCrown s lead listed)
  crown_within s lead listed = sum_once (width order) (count b.pool (OfCrown s lead listed)) (λ i. count (holds i) (OfCrown s lead listed)) (λ i l. each i) (λ i j l m at there. once i j (crowned i s lead listed at) (crowned j s lead listed there))
    where
      each : (i : ℕ) → count (holds i) (OfCrown s lead listed) ≤ count b.pool (OfCrown s lead listed)
      each i = elim (cases_Bool (is_crown lead listed ((holds i).crowns s))) [
        | inl passes ↦
            let by = crown_from b order apart opened i s (lead, listed) (crown_true lead listed ((holds i).crowns s) passes) in
            let in_pool : b.pool.crowns s ≡ Some (lead, listed) = ap b.pool.crowns (sym by.shard_is) ∙ crown_in_pool by.move by.known by.leads ∙ ap (λ t. Some (At (from b order by.move), b.place.listed t)) by.shard_is ∙ ap Some by.crown_is in
            let one : count (holds i) (OfCrown s lead listed) ≡ 1 = ap bit passes in
            let there : count b.pool (OfCrown s lead listed) ≡ 1 = ap (λ (o : Option (Lead × Option ℕ)). bit (is_crown lead listed o)) in_pool ∙ ap bit (crown_self lead listed) in
            omega arith
        | inr fails ↦ (let none : count (holds i) (OfCrown s lead listed) ≡ 0 = ap bit fails in omega arith)
      ]

      once : (i j : ℕ) → IsCrowned b order apart opened i s (lead, listed) → IsCrowned b order apart opened j s (lead, listed) → i ≡ j
      once i j one two = elim (cases_eq one.move two.move) [
        | inl same ↦ sym one.own ∙ ap stream_of same ∙ two.own
        | inr other ↦ absurd ((apart one.move two.move one.known two.known other (one.shard_is ∙ sym two.shard_is)).crowns one.leads two.leads)
      ]

  room_within : (v : ℕ) → sum_below (width order) (λ i. (holds i).room v) ≤ b.pool.room v
  room_within v =
      let most = sum_each (width order) (λ i. (holds i).room v) (λ i. paid_by b order (moves_of order i) v) (λ i l. room_most b order apart opened i v) in
      let same = same_sum (width order) (λ i. paid_by b order (moves_of order i) v) (λ i. sum_below (length order) (λ k. cond (stream_of k == i) (pool_paid b order v k) 0)) (λ i l. room_paid_is b order i v) in
      let all = sum_of_classes stream_of (pool_paid b order v) (width order) (length order) (λ k l. stream_known order k l) in
      let has = pool_pays_what_it_has b order v in
      omega arith

  -- the plan's streams declare together no more of any right than the pool has
  pub are_within : AreWithin b.pool (planned b order).streams
  are_within (OfCell s v state) = (let is = declared_sum_is (OfCell s v state) in let most = cell_within s v state in omega arith)
  are_within (OfCrown s lead listed) = (let is = declared_sum_is (OfCrown s lead listed) in let most = crown_within s lead listed in omega arith)
  are_within (OfRoom v) = (let is = declared_sum_is (OfRoom v) in let most = room_within v in omega arith)
  are_within (OfSpare s) =
      let is = declared_sum_is (OfSpare s) in
      let none = sum_zero (width order) (λ i. (holds i).spare s) (λ i. no_spare b order apart opened i s) in
      omega arith
