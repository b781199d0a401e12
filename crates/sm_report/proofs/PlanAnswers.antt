-- The planner's rule has one answer, and the report of it is one.
use Rattle.std.proofs.Common.{◌≡◌, ◌<◌, ◌≤◌, ◌∙◌, ◌++◌, ◌∷◌, [], ℕ, zero, suc, true, false, Some, None, List, sym, ap, subst, refl, arith, inl, inr, ◌⊎◌}
use Rattle.std.proofs.lemmas.Bool.{cases_Bool, cases_eq, cases_lt, both_ways}
use Rattle.std.proofs.lemmas.Option.{same_Some}
use Rattle.sm_server.specs.Cell.{is_absent}
use Rattle.sm_placement.specs.Setup.{Setup, sizes_of}
use Rattle.sm_placement.proofs.Searches.{cases_Option}
use Rattle.sm_plan_code.specs.Plan.{PlanModel}
use Rattle.sm_plan_code.specs.declared.limits.TheConstants.{MOST_MOVES}
use Rattle.sm_plan_code.specs.declared.moves.Move.{Move}
use Rattle.sm_planner.specs.declared.refusal.NoPlan.{NoPlan}
use Rattle.sm_planner.specs.declared.refusal.NoPlan.TheVariants.{NoPlace}
use Rattle.sm_planner.specs.Basis.{Basis}
use Rattle.sm_planner.specs.Refusal.{IsPlanOf}
use Rattle.sm_planner.specs.Drain.{drain_refusal, room_beside, may_take, leaving, IsTarget, AreLeaving, IsStuck, AreDepartures, IsDrainPlan, IsDrainRefused}
use Rattle.sm_planner.specs.Laws.{RuleAnswersOnce}
use Rattle.sm_planner.proofs.Answering.{same_leaving}
use Rattle.sm_planner.proofs.law.Unrefused.{few_have_plan}
use Rattle.sm_report.specs.Report.{Output, refused, done}
use Rattle.sm_report.specs.Planning.{Aim, Moving, Emptying, IsPlanFor, IsRefusedFor, IsAnswered, made_line}
use Rattle.sm_report_text.specs.PlanLines.{no_plan_line}

-- ---- the targets of a drain

module _ (b : Basis) (v : ℕ) where
  -- where more shards leave, those before have left
  left_before : (n : ℕ) (moves : List Move) → AreLeaving b v n moves → (s : ℕ) → s < n → (before : List Move) × AreLeaving b v (suc s) before
  left_before zero moves x s l = absurd (omega arith)
  left_before (suc n) moves x s l = elim (cases_eq s n) [
    | inl same ↦ (moves, subst (λ k. AreLeaving b v (suc k) moves) (sym same) x)
    | inr other ↦ elim (cases_Bool (is_absent (b.place.cells n v))) [
      | inl none ↦ left_before n moves (x.0 none) s (omega arith)
      | inr some ↦ let p = x.1 some in left_before n p.0 p.2 s (omega arith)
    ]
  ]

  -- a shard that has no target does not leave
  stays : (n s : ℕ) (moves stuck : List Move) → AreLeaving b v n moves → s < n → IsStuck b v s stuck → ⊥
  stays n s moves stuck x l is =
      let before = left_before n moves x s l in
      let p = before.1.1 is.stands in
      let same : p.0 ≡ stuck = same_leaving b v s p.0 stuck p.2 is.before in
      let target : IsTarget b v stuck s p.1 = subst (λ ms. IsTarget b v ms s p.1) same p.3 in
      both_ways (may_take b v stuck s p.1) (is.placeless p.1 target.known) target.takes

  -- one shard is the first that has no target
  one_stuck : (s t : ℕ) (xs ys : List Move) → IsStuck b v s xs → IsStuck b v t ys → s ≡ t
  one_stuck s t xs ys x y = elim (cases_eq s t) [
    | inl same ↦ same
    | inr other ↦ elim (cases_lt s t) [
      | inl less ↦ absurd (stays t s ys xs y.before less x)
      | inr more ↦ absurd (stays s t xs ys x.before (omega arith) y)
    ]
  ]

  -- a server among the first n may take the shard and no other of them has more room, or none may
  abbrev BestOf : List Move → ℕ → ℕ → Type 0
  BestOf moves s n =
      ((u : ℕ) → u < n → may_take b v moves s u ≡ false)
      ⊎ ((u : ℕ) × (u < n) × (may_take b v moves s u ≡ true)
      × ((w : ℕ) → w < n → may_take b v moves s w ≡ true → (room_beside b moves w < room_beside b moves u) ⊎ ((room_beside b moves w ≡ room_beside b moves u) × (u ≤ w))))

  best_of : (moves : List Move) (s n : ℕ) → BestOf moves s n
  best_of moves s zero = inl (λ u l. absurd (omega arith))
  best_of moves s (suc n) = elim (cases_Bool (may_take b v moves s n)) [
    | inl takes ↦ elim (best_of moves s n) [
      | inl none ↦ inr (
        n,
        omega arith,
        takes,
        λ w l t. elim (cases_eq w n) [
          | inl same ↦ inr (ap (room_beside b moves) same, omega arith)
          | inr other ↦ absurd (both_ways (may_take b v moves s w) (none w (omega arith)) t)
        ],
      )
      | inr best ↦ elim (cases_lt (room_beside b moves best.0) (room_beside b moves n)) [
        | inl less ↦ inr (
          n,
          omega arith,
          takes,
          λ w l t. elim (cases_eq w n) [
            | inl same ↦ inr (ap (room_beside b moves) same, omega arith)
            | inr other ↦ elim (best.3 w (omega arith) t) [ inl x ↦ inl (omega arith) | inr x ↦ inl (let e = x.0 in omega arith) ]
          ],
        )
        | inr more ↦ inr (
          best.0,
          (let l = best.1 in omega arith),
          best.2,
          λ w l t. elim (cases_eq w n) [
            | inl same ↦ elim (cases_eq (room_beside b moves n) (room_beside b moves best.0)) [
              | inl e ↦ inr (ap (room_beside b moves) same ∙ e, let k = best.1 in omega arith)
              | inr e ↦ inl (let f = ap (room_beside b moves) same in omega arith)
            ]
            | inr other ↦ best.3 w (omega arith) t
          ],
        )
      ]
    ]
    | inr not_this ↦ elim (best_of moves s n) [
      | inl none ↦ inl (λ w l. elim (cases_eq w n) [ inl same ↦ ap (may_take b v moves s) same ∙ not_this | inr other ↦ none w (omega arith) ])
      | inr best ↦ inr (
        best.0,
        (let l = best.1 in omega arith),
        best.2,
        λ w l t. elim (cases_eq w n) [
          | inl same ↦ absurd (both_ways (may_take b v moves s w) (ap (may_take b v moves s) same ∙ not_this) t)
          | inr other ↦ best.3 w (omega arith) t
        ],
      )
    ]
  ]

  -- the first n shards have their targets, or one of them is the first that has none
  some_leave : (n : ℕ) → (n ≤ (sizes_of b.setup).shards) → ((moves : List Move) × AreLeaving b v n moves) ⊎ ((s : ℕ) × (moves : List Move) × IsStuck b v s moves)
  some_leave zero l = inl ([], refl)
  some_leave (suc n) l = elim (some_leave n (omega arith)) [
    | inr stuck ↦ inr stuck
    | inl left ↦ elim (cases_Bool (is_absent (b.place.cells n v))) [
      | inl none ↦ inl (left.0, (λ e. left.1, λ e. absurd (both_ways (is_absent (b.place.cells n v)) e none)))
      | inr some ↦ elim (best_of left.0 n (sizes_of b.setup).servers) [
        | inl placeless ↦ inr (n, left.0, record { known = omega arith; before = left.1; stands = some; placeless = placeless })
        | inr best ↦ inl (left.0 ++ leaving v n best.0 ∷ [], (λ e. absurd (both_ways (is_absent (b.place.cells n v)) some e), λ e. (left.0, best.0, left.1, record { known = best.1; takes = best.2; most = best.3 }, refl)))
      ]
    ]
  ]

-- ---- the rule's answer to an aim

-- The rule has a plan for this aim or a reason why not, where there are no more shards than a plan has moves; never both, and never two
-- of either.
record AnswersAim (b : Basis) (aim : Aim) : Type 0 where
  some : (sizes_of b.setup).shards ≤ MOST_MOVES → ((plan : PlanModel) × IsPlanFor b aim plan) ⊎ ((why : NoPlan) × IsRefusedFor b aim why)
  one_plan : (plan other : PlanModel) → IsPlanFor b aim plan → IsPlanFor b aim other → plan ≡ other
  one_reason : (why other : NoPlan) → IsRefusedFor b aim why → IsRefusedFor b aim other → why ≡ other
  not_both : (plan : PlanModel) (why : NoPlan) → IsPlanFor b aim plan → IsRefusedFor b aim why → ⊥

module _ (law : RuleAnswersOnce) (b : Basis) where
  answers_moves : (moves : List Move) → AnswersAim b (Moving moves)
  answers_moves moves = record {
    some = λ few. (law b moves).some;
    one_plan = (law b moves).one_plan;
    one_reason = (law b moves).one_reason;
    not_both = (law b moves).not_both;
  }

  module _ (v : ℕ) where
    departed : (xs ys : List Move) → AreDepartures b v xs → AreDepartures b v ys → xs ≡ ys
    departed xs ys x y = same_leaving b v (sizes_of b.setup).shards xs ys x.1 y.1

    drain_none : (why : NoPlan) (moves : List Move) → AreDepartures b v moves → drain_refusal b v ≡ Some why → ⊥
    drain_none why moves x is = let e = x.0 in let z : None ≡ Some why = sym e ∙ is in cc

    drain_one_plan : (plan other : PlanModel) → IsDrainPlan b v plan → IsDrainPlan b v other → plan ≡ other
    drain_one_plan plan other x y = (law b y.0).one_plan plan other (subst (λ ms. IsPlanOf b ms plan) (departed x.0 y.0 x.1 y.1) x.2) y.2

    drain_not_both : (plan : PlanModel) (why : NoPlan) → IsDrainPlan b v plan → IsDrainRefused b v why → ⊥
    drain_not_both plan why x (inl is) = drain_none why x.0 x.1 is
    drain_not_both plan why x (inr y) = stays b v (sizes_of b.setup).shards y.0 x.0 y.1 x.1.1 y.3.known y.3

    drain_one_reason : (why other : NoPlan) → IsDrainRefused b v why → IsDrainRefused b v other → why ≡ other
    drain_one_reason why other (inl x) (inl y) = same_Some why other (sym x ∙ y)
    drain_one_reason why other (inl x) (inr y) = absurd (let e = y.2 in let z : None ≡ Some why = sym e ∙ x in cc)
    drain_one_reason why other (inr x) (inl y) = absurd (let e = x.2 in let z : None ≡ Some other = sym e ∙ y in cc)
    drain_one_reason why other (inr x) (inr y) = x.4 ∙ ap NoPlace (one_stuck b v x.0 y.0 x.1 y.1 x.3 y.3) ∙ sym y.4

    drain_some : (sizes_of b.setup).shards ≤ MOST_MOVES → ((plan : PlanModel) × IsDrainPlan b v plan) ⊎ ((why : NoPlan) × IsDrainRefused b v why)
    drain_some few = elim (cases_Option (drain_refusal b v)) [
      | inr why ↦ inr (why.0, inl why.1)
      | inl none ↦ elim (some_leave b v (sizes_of b.setup).shards (omega arith)) [
        | inr stuck ↦ inr (NoPlace stuck.0, inr (stuck.0, stuck.1, none, stuck.2, refl))
        | inl left ↦ (let made = few_have_plan b v left.0 few none left.1 in inl (made.0, (left.0, (none, left.1), made.1)))
      ]
    ]

    answers_drain : AnswersAim b (Emptying v)
    answers_drain = record { some = drain_some; one_plan = drain_one_plan; one_reason = drain_one_reason; not_both = drain_not_both }

  answers_aim : (aim : Aim) → AnswersAim b aim
  answers_aim (Moving moves) = answers_moves moves
  answers_aim (Emptying server) = answers_drain server

-- ---- the report of it

-- what is told of the rule's answer is one output
pub answered_one : RuleAnswersOnce → (setup : Setup) (b : Basis) (aim : Aim) (x y : Output) → IsAnswered setup b aim x → IsAnswered setup b aim y → x ≡ y
answered_one law setup b aim x y (inl p) (inl q) = p.2 ∙ ap (λ plan. done (made_line setup plan)) ((answers_aim law b aim).one_plan p.0 q.0 p.1 q.1) ∙ sym q.2
answered_one law setup b aim x y (inl p) (inr q) = absurd ((answers_aim law b aim).not_both p.0 q.0 p.1 q.1)
answered_one law setup b aim x y (inr p) (inl q) = absurd ((answers_aim law b aim).not_both q.0 p.0 q.1 p.1)
answered_one law setup b aim x y (inr p) (inr q) = p.2 ∙ ap (λ why. refused (no_plan_line setup why)) ((answers_aim law b aim).one_reason p.0 q.0 p.1 q.1) ∙ sym q.2

-- and there is one, where there are no more shards than a plan has moves
pub answered_some : RuleAnswersOnce → (setup : Setup) (b : Basis) (aim : Aim) → (sizes_of b.setup).shards ≤ MOST_MOVES → (output : Output) × IsAnswered setup b aim output
answered_some law setup b aim few = elim ((answers_aim law b aim).some few) [
  | inl made ↦ (done (made_line setup made.0), inl (made.0, made.1, refl))
  | inr other ↦ (refused (no_plan_line setup other.0), inr (other.0, other.1, refl))
]
