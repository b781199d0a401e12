-- Each stream of a plan of open moves that pay is good.
use Rattle.std.proofs.Common.{◌≡◌, ℕ, ◌<◌, ◌≤◌, Bool, true, false, cond, Option, Some, List, length, refl, sym, ap, ◌∙◌, arith, inl, inr, subst}
use Rattle.std.specs.Prelude.{◌==◌, ◌&&◌, IfSome, sum_by}
use Rattle.std.specs.List.{range_with_len}
use Rattle.std.proofs.lemmas.Bool.{cases_eq, cases_lt, ne_eqb, le-leb, both_ways}
use Rattle.std.proofs.lemmas.List.{map-id}
use Rattle.sm_placement.specs.declared.lead.Lead.{Lead}
use Rattle.sm_placement.specs.Lead.{is_at_rest}
use Rattle.sm_placement.specs.Setup.{Sizes, sizes_of}
use Rattle.sm_placement.specs.Sums.{sum_below}
use Rattle.sm_placement.proofs.Sums.{same_sum, sum_zero}
use Rattle.sm_placement.proofs.Searches.{cases_Option}
use Rattle.sm_reservation.specs.declared.right.CellRight.{CellRight}
use Rattle.sm_reservation.specs.declared.right.PlainCell.TheVariants.{Absent, Secondary}
use Rattle.sm_reservation.specs.Rights.{Rights}
use Rattle.sm_reservation.specs.Hold.{Hold}
use Rattle.sm_plan_code.specs.Plan.{StreamModel}
use Rattle.sm_plan_code.specs.declared.moves.Move.{Move}
use Rattle.sm_verifier.specs.Step.{parcels_of}
use Rattle.sm_verifier.specs.Stream.{HasCrownsAtRest, IsGood, course_of, final_hold}
use Rattle.sm_verifier.specs.Plan.{AreGood}
use Rattle.sm_planner.specs.Basis.{Basis, move_at}
use Rattle.sm_planner.specs.Payment.{stream_of, from_pool}
use Rattle.sm_planner.specs.Plan.{moves_of, paid_by, stream, planned}
use Rattle.sm_planner.proofs.law.Codes.{code_to, stream_count, stream_is}
use Rattle.sm_planner.proofs.law.Payments.{to, from, IsAffordable}
use Rattle.sm_planner.proofs.law.Leading.{Leads, leads_made, leads_end}
use Rattle.sm_planner.proofs.law.Moving.{IsReady}
use Rattle.sm_planner.proofs.law.Handing.{sum_of_range, sum_of_picked, cond_nothing}
use Rattle.sm_planner.proofs.law.Owing.{comes, own_pay, owed}
use Rattle.sm_planner.proofs.law.Streams.{shard, leads_shard, AreAllApart, IsAt, follows}
use Rattle.sm_planner.proofs.law.Opened.{IsOpened}
use Rattle.sm_planner.proofs.law.Declared.{needed_cases, needs_absent, needs_secondary, needs_crown, cell_right, crown_right, to_elsewhere, declares, cell_there, cell_none, crown_there, crown_from, crown_none, room_least}

-- ---- room that is paid from the pool

-- what a stream's moves pay from the pool at a server, as a sum over all placed moves
pub room_paid_is : (b : Basis) (order : List Move) (i v : ℕ) → paid_by b order (moves_of order i) v ≡ sum_below (length order) (λ k. cond (stream_of k == i) (cond (to b order k == v) (from_pool b order k) 0) 0)
room_paid_is b order i v =
    ap (sum_by (λ k. cond (to b order k == v) (from_pool b order k) 0)) (sym (map-id (moves_of order i)))
    ∙ sum_of_picked (λ k. cond (to b order k == v) (from_pool b order k) 0) (λ k. k) (λ k. stream_of k == i) (range_with_len 0 (length order))
    ∙ sum_of_range (length order) (λ k. cond (stream_of k == i) (cond (to b order k == v) (from_pool b order k) 0) 0)

owed_first : (b : Basis) (order : List Move) (i v : ℕ) → owed b order i 0 v ≡ paid_by b order (moves_of order i) v
owed_first b order i v =
    same_sum (length order) (λ k. cond (comes b order i 0 v k) (own_pay b order i 0 k) 0) (λ k. cond (stream_of k == i) (cond (to b order k == v) (from_pool b order k) 0) 0) (λ k l. one k)
    ∙ sym (room_paid_is b order i v)
  where
    split : (s t : Bool) (x y : ℕ) → y ≡ x → cond (s && t) y 0 ≡ cond s (cond t x 0) 0
    split true true x y e = e
    split true false x y e = refl
    split false t x y e = refl

    one : (k : ℕ) → cond (comes b order i 0 v k) (own_pay b order i 0 k) 0 ≡ cond (stream_of k == i) (cond (to b order k == v) (from_pool b order k) 0) 0
    one k = ap (λ t. cond (t && ((stream_of k == i) && (to b order k == v))) (own_pay b order i 0 k) 0) (le-leb 0 k (omega arith)) ∙ split (stream_of k == i) (to b order k == v) (from_pool b order k) (own_pay b order i 0 k) (omega arith)

module _ (b : Basis) (order : List Move) (apart : AreAllApart b order) (opened : (k : ℕ) → k < length order → IsOpened b (move_at order k)) (known : (k : ℕ) → k < length order → to b order k < (sizes_of b.setup).servers) (fits : IsAffordable b order) (i : ℕ) where
  abbrev start : Hold
  start = declares b order apart opened i

  is_ready : (k : ℕ) → k < length order → stream_of k ≡ i → IsReady b.place (move_at order k) start
  is_ready k l own = record {
    absent = cell_there b order apart opened i k l own (cell_right (shard b order k) (to b order k) Absent) (needs_absent b.place (move_at order k));
    secondary = λ follows. cell_there b order apart opened i k l own (cell_right (shard b order k) (from b order k) Secondary) (needs_secondary b.place (move_at order k) follows);
    crown = λ leads. crown_there b order apart opened i k l own (crown_right (shard b order k) (from b order k) (b.place.listed (shard b order k))) (needs_crown b.place (move_at order k) leads);
    no_right = λ leads. cell_none b order apart opened i (shard b order k) (from b order k) (λ state need. elim (needed_cases b.place (move_at order need.move) (cell_right (shard b order k) (from b order k) state) need.there) [
      | inl one ↦ elim (cases_eq need.move k) [
        | inl same ↦ to_elsewhere b order apart opened k l (ap (to b order) (sym same) ∙ ap (λ (z : CellRight). z.server) one)
        | inr other ↦ (apart need.move k need.known l other (ap (λ (z : CellRight). z.shard) one)).to_from (ap (λ (z : CellRight). z.server) one)
      ]
      | inr two ↦ elim (cases_eq need.move k) [
        | inl same ↦ both_ways (leads_shard b order k) (ap (leads_shard b order) (sym same) ∙ two.0) leads
        | inr other ↦ (apart need.move k need.known l other (ap (λ (z : CellRight). z.shard) two.1)).from_from (ap (λ (z : CellRight). z.server) two.1)
      ]
    ]);
  }

  resting : HasCrownsAtRest start
  resting s = elim (cases_Option (start.crowns s)) [
    | inl none ↦ subst (λ (o : Option (Lead × Option ℕ)). IfSome o (λ crown. is_at_rest crown.0 ≡ true)) (sym none) tt
    | inr some ↦
        let by = crown_from b order apart opened i s some.0 some.1 in
        let is : start.crowns s ≡ Some _ = some.1 ∙ ap Some (sym by.crown_is) in
        subst (λ (o : Option (Lead × Option ℕ)). IfSome o (λ crown. is_at_rest crown.0 ≡ true)) (sym is) refl
  ]

  enough : (v : ℕ) → owed b order i 0 v ≤ start.room v
  enough v =
      let is = owed_first b order i v in
      elim (cases_lt v (sizes_of b.setup).servers) [
        | inl less ↦ (let least = room_least b order apart opened i v less in omega arith)
        | inr past ↦ (let none = no_such v past in omega arith)
      ]
    where
      no_such : (v : ℕ) → (sizes_of b.setup).servers ≤ v → paid_by b order (moves_of order i) v ≡ 0
      no_such v past = room_paid_is b order i v ∙ same_sum (length order) (λ k. cond (stream_of k == i) (cond (to b order k == v) (from_pool b order k) 0) 0) (λ k. 0) (λ k l. rw (ne_eqb (to b order k) v (λ e. (let low = known k l in absurd (omega arith)))) (cond_nothing (stream_of k == i))) ∙ sum_zero (length order) (λ k. 0) (λ k. refl)

  pub begins : IsAt b order i 0 start
  begins = record {
    ready = λ k z l own. is_ready k l own;
    moved = λ k z l own. absurd (omega arith);
    no_cell = λ s v none. cell_none b order apart opened i s v (λ state need. elim (needed_cases b.place (move_at order need.move) (cell_right s v state) need.there) [
      | inl one ↦ (none need.move need.known need.own (ap (λ (z : CellRight). z.shard) one)).0 (ap (λ (z : CellRight). z.server) one)
      | inr two ↦ (none need.move need.known need.own (ap (λ (z : CellRight). z.shard) two.1)).1 (ap (λ (z : CellRight). z.server) two.1)
    ]);
    no_crown = λ s none. crown_none b order apart opened i s (λ crown by. none by.move by.known by.own by.leads by.shard_is);
    at_rest = resting;
    room = enough;
  }

  abbrev c : Sizes
  c = sizes_of b.setup

  abbrev parcels : ℕ → Rights
  parcels = parcels_of (planned b order).signals

  -- what the stream holds at its end
  pub ends : (g : Hold) × Leads c parcels start (code_to b order (length order) i) g × IsAt b order i (length order) g
  ends = follows b order apart fits i start begins (length order) (omega arith)

  -- the stream's course ends with that hold
  pub ends_there : final_hold (course_of c (planned b order).signals (stream b order i)) ≡ ends.0
  ends_there = leads_end c parcels (code_to b order (length order) i) start ends.0 ends.1

  pub is_good : IsGood (course_of c (planned b order).signals (stream b order i))
  is_good = record {
    made = leads_made c parcels (code_to b order (length order) i) start ends.0 ends.1;
    settled = subst (λ h. HasCrownsAtRest h) (sym ends_there) ends.2.at_rest;
    within = omega arith;
  }

-- each stream of a plan of open moves that are apart and fitted when they were placed is good
pub are_good : (b : Basis) (order : List Move) → AreAllApart b order → ((k : ℕ) → k < length order → IsOpened b (move_at order k)) → ((k : ℕ) → k < length order → to b order k < (sizes_of b.setup).servers) → IsAffordable b order → AreGood (sizes_of b.setup) (planned b order) (length (planned b order).streams)
are_good b order apart opened known fits i l =
    let count = stream_count b order in
    subst (λ (s : StreamModel). IsGood (course_of (sizes_of b.setup) (planned b order).signals s)) (sym (stream_is b order i (omega arith))) (is_good b order apart opened known fits i)
