-- If the rule has a plan, it has no reason why not.
use Rattle.std.proofs.Common.{◌≡◌, ◌≢◌, ◌<◌, ◌∙◌, ◌++◌, ◌∷◌, [], ℕ, zero, suc, List, Option, Some, None, length, Result, Ok, Err, inl, inr, refl, sym, ap, subst, arith}
use Rattle.std.specs.Prelude.{IfErr, ◌||◌, not, find, option_map}
use Rattle.std.specs.Option.{option_or}
use Rattle.std.proofs.lemmas.Option.{same_Some}
use Rattle.std.proofs.lemmas.Bool.{cases_Bool, cases_eq, both_ways}
use Rattle.sm_server.specs.Cell.{is_absent}
use Rattle.sm_placement.specs.Opening.{first_below}
use Rattle.sm_placement.specs.Place.{Place}
use Rattle.sm_placement.specs.Setup.{Setup, IsSetup, sizes_of}
use Rattle.sm_reservation.specs.Hold.{Hold}
use Rattle.sm_plan_code.specs.Plan.{PlanModel}
use Rattle.sm_plan_code.specs.declared.moves.Move.{Move}
use Rattle.sm_planner.specs.declared.refusal.NoPlan.{NoPlan}
use Rattle.sm_planner.specs.declared.refusal.NoPlan.TheVariants.{NoMemory, NotThere, Held, ServerDown}
use Rattle.sm_planner.specs.Basis.{Basis, basis, move_at, left_cell, is_replica}
use Rattle.sm_planner.specs.Refusal.{is_closed, end_down, first_not_there, first_held, first_down, first_refused, IsPlanOf, IsNoPlanFor}
use Rattle.sm_planner.specs.Drain.{may_take, leaving, IsTarget, AreLeaving, IsStuck, AreDepartures, IsDrainPlan, IsNoDrainFor}
use Rattle.sm_planner.proofs.law.Existing.{rule_answers}
use Rattle.sm_planner.proofs.law.Unrefused.{drain_has_plan}

-- the same configuration, placement and pool make the same basis
pub same_basis : (s t : Setup) (p q : Place) (h k : Hold) → s ≡ t → p ≡ q → h ≡ k → basis s p h ≡ basis t q k
same_basis s t p q h k e f g = rw (e, f, g) refl

-- where moves have a plan, nothing but short memory is a reason for none
pub memory_alone : {T : Type 0} (b : Basis) (moves : List Move) (r : Result T NoPlan) → IfErr r (IsNoPlanFor b moves) → (plan : PlanModel) → IsPlanOf b moves plan → IfErr r (λ why. why ≡ NoMemory)
memory_alone b moves (Ok x) said plan by = tt
memory_alone b moves (Err why) said plan by = elim said [ inl short ↦ short | inr reason ↦ absurd ((rule_answers b moves).not_both plan why by reason) ]

told_or : (x y : Option NoPlan) → ((why : NoPlan) → x ≡ Some why → why ≢ NoMemory) → ((why : NoPlan) → y ≡ Some why → why ≢ NoMemory) → (why : NoPlan) → option_or x y ≡ Some why → why ≢ NoMemory
told_or None y one two why e = two why e
told_or (Some x) y one two why e = one why e

told_of : {A : Type 0} (f : A → NoPlan) → ((x : A) → f x ≢ NoMemory) → (o : Option A) (why : NoPlan) → option_map f o ≡ Some why → why ≢ NoMemory
told_of f other None why e short = cc
told_of f other (Some x) why e short = other x (same_Some (f x) why e ∙ short)

-- what one of the moves gives alone is not short memory
pub alone_not_memory : (b : Basis) (moves : List Move) (why : NoPlan) → first_refused b moves ≡ Some why → why ≡ NoMemory → first_refused b moves ≡ None
alone_not_memory b moves why e short = absurd (told_or (first_not_there b.place moves) (option_or (first_held b moves) (first_down b.place moves))
    (told_of (λ m. NotThere m.shard m.from) (λ m z. cc) (find (λ m. not (is_replica (left_cell b.place m))) moves))
    (told_or (first_held b moves) (first_down b.place moves)
    (told_of (λ i. Held (move_at moves i).shard (move_at moves i).to) (λ i z. cc) (first_below (length moves) (is_closed b moves)))
    (told_of (λ m. ServerDown (end_down b.place m)) (λ m z. cc) (find (λ m. b.place.down m.from || b.place.down m.to) moves))) why e short)

-- ---- drains

module _ (b : Basis) (v : ℕ) where
  one_target : (moves : List Move) (s u w : ℕ) → IsTarget b v moves s u → IsTarget b v moves s w → u ≡ w
  one_target moves s u w one two = elim (one.most w two.known two.takes) [
    | inl less ↦ elim (two.most u one.known one.takes) [ inl more ↦ absurd (omega arith) | inr same ↦ (let e = same.0 in absurd (omega arith)) ]
    | inr even ↦ elim (two.most u one.known one.takes) [ inl more ↦ (let e = even.0 in absurd (omega arith)) | inr same ↦ (let l = even.1 in let m = same.1 in omega arith) ]
  ]

  -- the moves of a drain to its targets are the same ones
  pub same_leaving : (n : ℕ) (ms ns : List Move) → AreLeaving b v n ms → AreLeaving b v n ns → ms ≡ ns
  same_leaving zero ms ns one two = one ∙ sym two
  same_leaving (suc s) ms ns one two = elim (cases_Bool (is_absent (b.place.cells s v))) [
    | inl gone ↦ same_leaving s ms ns (one.0 gone) (two.0 gone)
    | inr there ↦
        let x = one.1 there in
        let y = two.1 there in
        let front : x.0 ≡ y.0 = same_leaving s x.0 y.0 x.2 y.2 in
        let target : x.1 ≡ y.1 = one_target y.0 s x.1 y.1 (subst (λ e. IsTarget b v e s x.1) front x.3) y.3 in
        x.4 ∙ ap (λ (e : List Move). e ++ leaving v s x.1 ∷ []) front ∙ ap (λ (u : ℕ). y.0 ++ leaving v s u ∷ []) target ∙ sym y.4
  ]

  not_stuck : (n s : ℕ) (ms before : List Move) → s < n → AreLeaving b v n ms → IsStuck b v s before → ⊥
  not_stuck zero s ms before l leave stuck = omega arith
  not_stuck (suc n) s ms before l leave stuck = elim (cases_eq s n) [
    | inl same ↦
        let is : IsStuck b v n before = subst (λ t. IsStuck b v t before) same stuck in
        let x = leave.1 is.stands in
        let front : before ≡ x.0 = same_leaving n before x.0 is.before x.2 in
        let target : IsTarget b v before n x.1 = subst (λ e. IsTarget b v e n x.1) (sym front) x.3 in
        both_ways (may_take b v before n x.1) (is.placeless x.1 target.known) target.takes
    | inr other ↦ elim (cases_Bool (is_absent (b.place.cells n v))) [
      | inl gone ↦ not_stuck n s ms before (omega arith) (leave.0 gone) stuck
      | inr there ↦ (let x = leave.1 there in not_stuck n s x.0 before (omega arith) x.2 stuck)
    ]
  ]

  -- where a server has a plan for emptying it, nothing but short memory is a reason for none
  pub memory_alone_drained : {T : Type 0} (r : Result T NoPlan) → IfErr r (IsNoDrainFor b v) → (plan : PlanModel) → IsDrainPlan b v plan → IfErr r (λ why. why ≡ NoMemory)
  memory_alone_drained (Ok x) said plan by = tt
  memory_alone_drained (Err why) said plan by = elim said [
    | inl short ↦ short
    | inr refused ↦ elim refused [
      | inl own ↦ absurd (let wrong = sym by.1.0 ∙ own in cc)
      | inr stuck ↦ absurd (not_stuck (sizes_of b.setup).shards stuck.0 by.0 stuck.1 stuck.3.known by.1.1 stuck.3)
    ]
  ]

  -- in a configuration the rule refuses none of the moves that empty a server: nothing but short memory is a reason for no plan of them
  pub drain_refused : {T : Type 0} (moves : List Move) (r : Result T NoPlan) → IsSetup b.setup → AreDepartures b v moves → IfErr r (IsNoPlanFor b moves) → IfErr r (IsNoDrainFor b v)
  drain_refused moves (Ok x) setup go said = tt
  drain_refused moves (Err why) setup go said = elim said [
    | inl short ↦ inl short
    | inr reason ↦ (let made = drain_has_plan b v moves setup go.0 go.1 in absurd ((rule_answers b moves).not_both made.0 why made.1 reason))
  ]
