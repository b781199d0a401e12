-- The list of unfinished plans is that of the state.
use Rattle.std.proofs.Common.{◌≡◌, ◌∙◌, subst}
use Rattle.sm_protocol.specs.Next.{unfinished_plans}
use Rattle.sm_machine.specs.State.{whole_of}
use Rattle.sm_machine.proofs.StandsBefore.{unfinished_are}
use Rattle.sm_machine.proofs.machine.Machine.unfinished.Goals as goal

pub returns : goal.returns
returns c = subst (λ m. c.unfinished.result.now ≡ unfinished_plans (whole_of m).state) c.self.view_is (c.unfinished.ensures ∙ unfinished_are (whole_of c.self.inside.engine) c.self.invariant)
