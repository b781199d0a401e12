-- The facts that hold of every driver hold after a start.
use Rattle.std.proofs.Common.{ap, subst, length, sym}
use Rattle.sm_protocol.specs.State.{State}
use Rattle.sm_machine.specs.State.{state_of}
use Rattle.sm_driver.specs.Advance.{IsFreeIn}
use Rattle.sm_driver.proofs.Beside.{IsBeside, advance_beside, begin_beside, beside_then}
use Rattle.sm_driver.proofs.Driving.{driving_on}
use Rattle.sm_driver.proofs.FreeSteps.{none_is_left}
use Rattle.sm_driver.proofs.LocalSteps.{begun_is, free_after_start}
use Rattle.sm_driver.proofs.Recorded.{IsLonger, advance_longer, begin_longer}
use Rattle.sm_driver.proofs.driver.Driver.begin.Goals as goal

pub advance_plan-requires-clause-alone : goal.advance_plan-requires-clause-alone
advance_plan-requires-clause-alone c =
    let w : State = state_of c.self.inside.director in
    let is = begun_is w (state_of c.start.new.self) c.args.ready.plan c.in_ok-number.number c.in_ok-number.ensures.started.event in
    subst (IsFreeIn (state_of c.start.new.self)) (sym is.1) (subst (λ (s : State). IsFreeIn s (length w.plans)) (sym is.0) (free_after_start w c.args.ready.plan c.self.invariant.free))

pub invariant_of-self-2 : goal.invariant_of-self-2
invariant_of-self-2 c =
    let w : State = state_of c.self.inside.director in
    let between : State = state_of c.start.new.self in
    let first : IsBeside w between = subst (IsBeside w) (ap (λ o. o.1) c.in_ok-number.ensures.started.event) (begin_beside w c.args.ready.plan) in
    let longer : IsLonger w between = subst (IsLonger w) (ap (λ o. o.1) c.in_ok-number.ensures.started.event) (begin_longer w c.args.ready.plan) in
    driving_on _ _ c.advance_plan.new.director (beside_then w between (state_of c.advance_plan.new.director) first (advance_beside between (state_of c.advance_plan.new.director) c.advance_plan.ensures.advanced))
    (advance_longer w between (state_of c.advance_plan.new.director) longer c.advance_plan.ensures.advanced)
    (none_is_left _ _ c.advance_plan.ensures.advanced) c.self.invariant
