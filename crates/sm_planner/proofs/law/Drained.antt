-- The drain of a server: at the end of its plan the server has nothing, and the shards that it had are spread.
use Rattle.std.proofs.Common.{◌≡◌, ◌≢◌, ℕ, zero, suc, ◌<◌, true, false, List, [], ◌∷◌, ◌++◌, refl, sym, ap, ◌∙◌, arith, inl, inr, subst}
use Rattle.std.specs.Prelude.{All, Contains}
use Rattle.std.proofs.lemmas.Bool.{cases_Bool, cases_eq, both_ways}
use Rattle.std.proofs.lemmas.List.{get_or_default}
use Rattle.std.proofs.lemmas.List.Elements.{All-nil, All-push, All-weaker, All-get_or, Contains-push, Contains-append_left}
use Rattle.sm_server.specs.declared.call.Cell.{Cell}
use Rattle.sm_server.specs.declared.call.Cell.TheVariants as cell
use Rattle.sm_server.specs.Cell.{is_absent}
use Rattle.sm_placement.specs.Setup.{sizes_of}
use Rattle.sm_plan_code.specs.Plan.{PlanModel}
use Rattle.sm_plan_code.specs.declared.moves.Move.{Move}
use Rattle.sm_verifier.specs.PlanEnd.{end_of}
use Rattle.sm_planner.specs.Basis.{Basis, IsMoveOf, move_at, no_move}
use Rattle.sm_planner.specs.Drain.{leaving, AreLeaving}
use Rattle.sm_planner.specs.Refusal.{IsPlanOf}
use Rattle.sm_planner.specs.Laws.{IsSpread}
use Rattle.sm_planner.proofs.law.Ended.{has_moved}
use Rattle.sm_planner.proofs.law.Spreading.{is_spread}

absent_is : (x : Cell) → is_absent x ≡ true → x ≡ cell.Absent
absent_is cell.Absent e = refl
absent_is (cell.Prepared from number) e = absurd cc
absent_is cell.Secondary e = absurd cc
absent_is cell.Primary e = absurd cc
absent_is (cell.Forwarding to number) e = absurd cc

not_absent : (x : Cell) → x ≢ cell.Absent → is_absent x ≡ false
not_absent cell.Absent some = absurd (some refl)
not_absent (cell.Prepared from number) some = refl
not_absent cell.Secondary some = refl
not_absent cell.Primary some = refl
not_absent (cell.Forwarding to number) some = refl

module _ (b : Basis) (v : ℕ) (known : v < (sizes_of b.setup).servers) where
  -- a move away from the server, of a shard of which it has something
  pub record IsAway (n : ℕ) (m : Move) : Type 0 where
    pub from : m.from ≡ v
    pub shard : m.shard < n
    pub there : is_absent (b.place.cells m.shard v) ≡ false
    pub to : m.to < (sizes_of b.setup).servers

  pub are_away : (n : ℕ) (moves : List Move) → AreLeaving b v n moves → All (IsAway n) moves
  are_away zero moves e = subst (λ ms. All (IsAway 0) ms) (sym e) (All-nil (IsAway 0))
  are_away (suc n) moves leave = elim (cases_Bool (is_absent (b.place.cells n v))) [
    | inl none ↦ All-weaker (IsAway n) (IsAway (suc n)) later moves (are_away n moves (leave.0 none))
    | inr some ↦
        let by = leave.1 some in
        subst (λ ms. All (IsAway (suc n)) ms) (sym by.4) (All-push (IsAway (suc n)) by.0 (leaving v n by.1) (All-weaker (IsAway n) (IsAway (suc n)) later by.0 (are_away n by.0 by.2))
        (record { from = refl; shard = omega arith; there = some; to = by.3.known }))
  ]
    where
      later : (m : Move) → IsAway n m → IsAway (suc n) m
      later m away = record { from = away.from; shard = (let l = away.shard in omega arith); there = away.there; to = away.to }

  -- each shard of which the server has something is moved
  pub moved_away : (n : ℕ) (moves : List Move) → AreLeaving b v n moves → (s : ℕ) → s < n → is_absent (b.place.cells s v) ≡ false → (u : ℕ) × Contains moves (leaving v s u)
  moved_away zero moves e s l some = absurd (omega arith)
  moved_away (suc n) moves leave s l some = elim (cases_Bool (is_absent (b.place.cells n v))) [
    | inl none ↦ moved_away n moves (leave.0 none) s (elim (cases_eq s n) [
      | inl same ↦ absurd (both_ways (is_absent (b.place.cells n v)) (ap (λ t. is_absent (b.place.cells t v)) (sym same) ∙ some) none)
      | inr other ↦ omega arith
    ]) some
    | inr here ↦
        let by = leave.1 here in
        elim (cases_eq s n) [
          | inl same ↦ (by.1, subst (λ ms. Contains ms (leaving v s by.1)) (sym by.4) (subst (λ t. Contains (by.0 ++ leaving v n by.1 ∷ []) (leaving v t by.1)) (sym same) (Contains-push by.0 (leaving v n by.1))))
          | inr other ↦
              let low = moved_away n by.0 by.2 s (omega arith) some in
              (low.0, subst (λ ms. Contains ms (leaving v s low.0)) (sym by.4) (Contains-append_left by.0 (leaving v n by.1 ∷ []) (leaving v s low.0) low.1))
        ]
  ]

  module _ (moves : List Move) (leave : AreLeaving b v (sizes_of b.setup).shards moves) where
    away : All (IsAway (sizes_of b.setup).shards) moves
    away = are_away (sizes_of b.setup).shards moves leave

    -- the moves are of the configuration
    pub leaving_known : All (IsMoveOf b.setup) moves
    leaving_known = All-weaker (IsAway (sizes_of b.setup).shards) (IsMoveOf b.setup) (λ m is. record { shard = is.shard; from = (let e = is.from in omega arith); to = is.to }) moves away

    -- at the end of the rule's plan for emptying it the server has nothing of any shard
    pub is_emptied : (plan : PlanModel) → IsPlanOf b moves plan → (s : ℕ) → s < (sizes_of b.setup).shards → (end_of (sizes_of b.setup) plan b.place).cells s v ≡ cell.Absent
    is_emptied plan by s l =
        let moved = has_moved b moves plan leaving_known by in
        elim (cases_Bool (is_absent (b.place.cells s v))) [
          | inl none ↦ moved.others s v (λ i k same.
              let is = All-get_or (IsAway (sizes_of b.setup).shards) moves i no_move k away in
              absurd (both_ways (is_absent (b.place.cells s v)) (ap (λ t. is_absent (b.place.cells t v)) (sym same) ∙ is.there) none)) ∙ absent_is (b.place.cells s v) none
          | inr some ↦
              let at = moved_away (sizes_of b.setup).shards moves leave s l some in
              let is : move_at moves at.1.0 ≡ leaving v s at.0 = get_or_default moves at.1.0 no_move (leaving v s at.0) at.1.1 ∙ at.1.2 in
              subst (λ (m : Move). (end_of (sizes_of b.setup) plan b.place).cells m.shard m.from ≡ cell.Absent) is (moved.left at.1.0 at.1.1)
        ]

    -- nor is there a shard that it had and that then lies in too few regions
    pub is_spread_after : (plan : PlanModel) → IsPlanOf b moves plan → (s : ℕ) → s < (sizes_of b.setup).shards → b.place.cells s v ≢ cell.Absent → IsSpread b.setup (end_of (sizes_of b.setup) plan b.place) s
    is_spread_after plan by s l some =
        let at = moved_away (sizes_of b.setup).shards moves leave s l (not_absent (b.place.cells s v) some) in
        let is : move_at moves at.1.0 ≡ leaving v s at.0 = get_or_default moves at.1.0 no_move (leaving v s at.0) at.1.1 ∙ at.1.2 in
        subst (λ (m : Move). IsSpread b.setup (end_of (sizes_of b.setup) plan b.place) m.shard) is (is_spread b moves plan at.1.0 leaving_known by at.1.1)
