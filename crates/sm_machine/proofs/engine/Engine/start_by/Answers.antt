-- A plan starts.
use Rattle.std.proofs.Common.{length, ap, ◌∙◌}
use Rattle.sm_protocol.specs.State.{places_of}
use Rattle.sm_machine.specs.State.{whole_of}
use Rattle.sm_machine.proofs.SeenStart.{few_here, place_here, can_fill_here, started_so}
use Rattle.sm_machine.proofs.engine.Engine.start_by.Goals as goal

pub add_plan-tokens-requires-clause-fill : goal.add_plan-tokens-requires-clause-fill
add_plan-tokens-requires-clause-fill c =
    can_fill_here c.args.self.now c.args.ready c.checked-checked.result.now c.checked-checked.ensures.value c.requires.setup c.requires.working
    c.plan-2.result.now c.plan-2.ensures.value c.streams-streams.ensures.plan c.plan.ensures.fits c.plan.ensures.sound c.checked-checked.ensures.peaks
    c.start_fault.result c.start_fault.ensures c.in_default.is

pub add_plan-tokens-requires-clause-few : goal.add_plan-tokens-requires-clause-few
add_plan-tokens-requires-clause-few c =
    few_here c.args.self.now c.args.ready c.checked-checked.result.now c.checked-checked.ensures.value c.requires.setup c.requires.working
    c.plan-2.result.now c.plan-2.ensures.value c.streams-streams.ensures.plan c.plan.ensures.fits c.plan.ensures.sound c.checked-checked.ensures.peaks
    c.start_fault.result c.start_fault.ensures c.in_default.is

pub add_plan-tokens-requires-clause-place : goal.add_plan-tokens-requires-clause-place
add_plan-tokens-requires-clause-place c =
    place_here c.args.self.now c.args.ready c.checked-checked.result.now c.checked-checked.ensures.value c.requires.setup c.requires.working
    c.plan-2.result.now c.plan-2.ensures.value c.streams-streams.ensures.plan c.plan.ensures.fits c.plan.ensures.sound c.checked-checked.ensures.peaks
    c.start_fault.result c.start_fault.ensures c.in_default.is

pub returns-clause-started : goal.returns-clause-started
returns-clause-started c =
    started_so c.args.self.now c.args.ready c.checked-checked.result.now c.checked-checked.ensures.value c.requires.setup c.requires.working
    c.plan-2.result.now c.plan-2.ensures.value c.streams-streams.ensures.plan c.plan.ensures.fits c.plan.ensures.sound c.checked-checked.ensures.peaks
    c.start_fault.result c.start_fault.ensures c.in_default.is
    (whole_of c.add_plan-tokens.new.self) (whole_of c.count_start.new.self) c.add_plan-tokens.ensures.begun c.plan_count-plan.result c.free.result c.places_of-places.result (length c.streams-streams.result.now)
    c.plan_count-plan.ensures c.free.ensures (c.places_of-places.ensures.value ∙ ap (λ q. places_of q) c.plan.ensures.value) (ap length c.streams-streams.ensures.value ∙ ap (λ p. length p.streams) c.plan-2.ensures.value) c.count_start.ensures
