-- Every local step, where one stream is free.
use Rattle.std.proofs.Common.{◌≡◌, ◌∙◌, true, false, sym, ap, subst}
use Rattle.sm_protocol.specs.State.{State, next_instruction}
use Rattle.sm_protocol.specs.Happens.{Step, happens}
use Rattle.sm_protocol.specs.Laws.{IsReached}
use Rattle.sm_machine.specs.Machine.{MachineModel}
use Rattle.sm_machine.specs.State.{state_of}
use Rattle.sm_driver.specs.Advance.{IsAdvanced, IsFreeAlone, is_free, posts_signal}
use Rattle.sm_driver.proofs.FreeSteps.{advanced_before, none_to_make, one_less}
use Rattle.sm_driver.proofs.LocalSteps.{free_alone_after, next_alone, none_alone}
use Rattle.sm_driver.proofs.local_steps.advance.Goals as goal

pub loop-id-smaller : goal.loop-id-smaller
loop-id-smaller c =
    let w : State = state_of c.loop-id.director in
    let new : State = state_of c.play.new.self in
    let free : is_free w c.args.id ≡ true = ap (λ (m : MachineModel). is_free (state_of m) c.args.id) (sym c.machine.ensures) ∙ sym c.is_free.ensures ∙ c.loop-id-test.true in
    let reached : IsReached c.play.new.self.placement.setup new = subst (λ (m : MachineModel). IsReached m.placement.setup (state_of m)) c.machine-in-loop-id-2.ensures c.is_reached.ensures in
    one_less _ w new c.args.id c.play.result c.play.ensures.event c.play.ensures.running free reached

pub loop-id-preserved : goal.loop-id-preserved
loop-id-preserved c =
    let w : State = state_of c.loop-id.director in
    let alone = c.loop-id.invariant.alone in
    let free : is_free w c.args.id ≡ true = ap (λ (m : MachineModel). is_free (state_of m) c.args.id) (sym c.machine.ensures) ∙ sym c.is_free.ensures ∙ c.loop-id-test.true in
    let quiet : posts_signal (next_instruction w c.args.id) ≡ false =
    ap (λ (m : MachineModel). posts_signal (next_instruction (state_of m) c.args.id)) (sym c.machine-in-loop-id.ensures) ∙ sym c.posts.ensures ∙ c.if-posts.false in
    let step : (happens w (Step c.args.id)).1 ≡ state_of c.play.new.self = ap (λ o. o.1) c.play.ensures.event in
    record {
      advanced = λ last x. c.loop-id.invariant.advanced last (advanced_before w last c.args.id (next_alone w c.args.id alone free) (subst (λ s. IsAdvanced s last) (sym step) x));
      setup = c.play.ensures.setup ∙ c.loop-id.invariant.setup;
      alone = subst (λ (s : State). IsFreeAlone s c.args.id) step (free_alone_after w c.args.id alone quiet);
    }

pub returns-clause-advanced : goal.returns-clause-advanced
returns-clause-advanced c =
    let w : State = state_of c.loop-id.director in
    let bound : is_free w c.args.id ≡ false = ap (λ (m : MachineModel). is_free (state_of m) c.args.id) (sym c.machine.ensures) ∙ sym c.is_free.ensures ∙ c.loop-id-test.false in
    c.loop-id.invariant.advanced w (none_to_make w (none_alone w c.args.id c.loop-id.invariant.alone bound))
