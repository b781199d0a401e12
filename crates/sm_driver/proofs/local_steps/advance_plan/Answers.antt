-- Every step of a plan that is local.
use Rattle.std.proofs.Common.{◌≡◌, ◌<◌, ◌∙◌, Some, None, true, length, sym, ap, subst}
use Rattle.sm_protocol.specs.State.{State}
use Rattle.sm_protocol.specs.Happens.{Step, happens}
use Rattle.sm_protocol.specs.Laws.{IsReached}
use Rattle.sm_machine.specs.Machine.{MachineModel}
use Rattle.sm_machine.specs.State.{state_of}
use Rattle.sm_driver.specs.Advance.{IsAdvanced, IsFreeIn, is_free, next_free}
use Rattle.sm_driver.proofs.Searches.{free_of, next_is_free}
use Rattle.sm_driver.proofs.FreeSteps.{advanced_before, none_to_make, one_less}
use Rattle.sm_driver.proofs.LocalSteps.{free_in_step, next_in_plan, plans_stay}
use Rattle.sm_driver.proofs.local_steps.advance_plan.Goals as goal

pub free_in-requires : goal.free_in-requires
free_in-requires c = subst (λ (m : MachineModel). c.args.plan < length (state_of m).plans) (sym c.machine.ensures) c.loop-id.invariant.known

pub loop-id-smaller : goal.loop-id-smaller
loop-id-smaller c =
    let w : State = state_of c.loop-id.director in
    let new : State = state_of c.play.new.self in
    let free : next_free w ≡ Some c.in-Some.id =
    next_in_plan w c.args.plan c.loop-id.invariant.known c.loop-id.invariant.alone ∙ ap (λ (m : MachineModel). free_of (state_of m) c.args.plan) (sym c.machine.ensures) ∙ sym c.free_in.ensures ∙ c.in-Some.is in
    let reached : IsReached c.play.new.self.placement.setup new = subst (λ (m : MachineModel). IsReached m.placement.setup (state_of m)) c.machine-in-Some.ensures c.is_reached.ensures in
    one_less _ w new c.in-Some.id c.play.result c.play.ensures.event c.play.ensures.running (next_is_free w c.in-Some.id free) reached

pub loop-id-preserved : goal.loop-id-preserved
loop-id-preserved c =
    let w : State = state_of c.loop-id.director in
    let new : State = state_of c.play.new.self in
    let free : next_free w ≡ Some c.in-Some.id =
    next_in_plan w c.args.plan c.loop-id.invariant.known c.loop-id.invariant.alone ∙ ap (λ (m : MachineModel). free_of (state_of m) c.args.plan) (sym c.machine.ensures) ∙ sym c.free_in.ensures ∙ c.in-Some.is in
    let step : (happens w (Step c.in-Some.id)).1 ≡ new = ap (λ o. o.1) c.play.ensures.event in
    let is : is_free w c.in-Some.id ≡ true = next_is_free w c.in-Some.id free in
    record {
      advanced = λ last x. c.loop-id.invariant.advanced last (advanced_before w last c.in-Some.id free (subst (λ s. IsAdvanced s last) (sym step) x));
      setup = c.play.ensures.setup ∙ c.loop-id.invariant.setup;
      known = subst (λ (s : State). c.args.plan < length s.plans) step (plans_stay w c.in-Some.id c.args.plan c.loop-id.invariant.known);
      alone = subst (λ (s : State). IsFreeIn s c.args.plan) step (free_in_step w c.in-Some.id c.args.plan c.loop-id.invariant.alone is);
    }

pub returns : goal.returns
returns c =
    let w : State = state_of c.loop-id.director in
    let none : next_free w ≡ None =
    next_in_plan w c.args.plan c.loop-id.invariant.known c.loop-id.invariant.alone ∙ ap (λ (m : MachineModel). free_of (state_of m) c.args.plan) (sym c.machine.ensures) ∙ sym c.free_in.ensures ∙ c.in_default.is in
    record { advanced = c.loop-id.invariant.advanced w (none_to_make w none); setup = c.loop-id.invariant.setup }
