-- What is against a plan is what its begin would be told.
use Rattle.std.proofs.Common.{◌≡◌, ◌∙◌, ap, sym, subst}
use Rattle.sm_protocol.specs.Steps.{Answered}
use Rattle.sm_protocol.specs.Happens.{Begin, happens}
use Rattle.sm_machine.specs.Machine.{MachineModel}
use Rattle.sm_machine.specs.Started.{begin_answer}
use Rattle.sm_machine.specs.State.{state_of, whole_of}
use Rattle.sm_machine.proofs.Begins.{begin_told}
use Rattle.sm_machine.proofs.machine.Machine.begin_fault.Goals as goal

pub start_fault-requires-clause-working : goal.start_fault-requires-clause-working
start_fault-requires-clause-working c = c.self.invariant

pub returns : goal.returns
returns c =
    let plan = c.args.checked.now.plan in
    subst (λ (m : MachineModel). (happens (state_of m) (Begin plan)).0 ≡ Answered (begin_answer (state_of m) c.start_fault.result)) c.self.view_is
    (begin_told (whole_of c.self.inside.engine) c.self.invariant plan
    ∙ ap (λ why. Answered (begin_answer (state_of c.self.inside.engine) why)) (sym c.start_fault.ensures))
