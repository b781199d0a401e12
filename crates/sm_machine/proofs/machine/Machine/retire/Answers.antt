-- The tries of a stream are within its allowance, and the log has what it made.
use Rattle.std.proofs.Common.{sym, ap, ◌∙◌}
use Rattle.std.proofs.lemmas.Bool.{not-false}
use Rattle.sm_reservation.specs.declared.stream_id.StreamId.{StreamId}
use Rattle.sm_protocol.specs.State.{Progress}
use Rattle.sm_protocol.proofs.LogRoom.{has_room}
use Rattle.sm_machine.specs.Machine.{MachineModel}
use Rattle.sm_machine.specs.State.{whole_of, state_of}
use Rattle.sm_machine.specs.Retired.{made_in}
use Rattle.sm_machine.proofs.Told.{recorded_is}
use Rattle.sm_machine.proofs.machine.Machine.retire.Goals as goal

pub steps_made-requires-clause-tries : goal.steps_made-requires-clause-tries
steps_made-requires-clause-tries c = (has_room (whole_of c.self.inside.engine).setup (whole_of c.self.inside.engine).state c.self.invariant.reached).tries c.id-id.result.plan c.id-id.result.stream

pub returns-clause-logged : goal.returns-clause-logged
returns-clause-logged c =
    let begun = sym c.is_begun.ensures ∙ c.if-not-is_begun.false in
    let done = ap (λ (x : Progress). x.done) (sym c.progress.ensures ∙ sym c.progress-else-not-is_begun.view_is) ∙ not-false c.progress-else-not-is_begun.inside.done c.if-not-progress.false in
    c.steps_made.ensures
    ∙ recorded_is (whole_of c.self.inside.engine).setup (whole_of c.self.inside.engine).state c.self.invariant.reached c.id-id.result begun done
    ∙ ap (λ (id : StreamId). made_in id (state_of c.self.inside.engine).log) c.id-id.ensures
    ∙ ap (λ (m : MachineModel). made_in c.args.token (state_of m).log) c.self.view_is
