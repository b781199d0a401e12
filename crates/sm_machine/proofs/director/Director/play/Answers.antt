-- An event is played on a machine that nobody halts.
use Rattle.sm_protocol.specs.Log.{named}
use Rattle.sm_machine.specs.Machine.{MachineModel}
use Rattle.sm_machine.specs.State.{state_of}
use Rattle.sm_machine.specs.Director.{IsDirectedIf}
use Rattle.std.proofs.Common.{subst}
use Rattle.sm_machine.proofs.Directed.{directed_if, runs_on}
use Rattle.sm_machine.proofs.director.Director.play.Goals as goal

pub invariant_of-self : goal.invariant_of-self
invariant_of-self c = runs_on c.self.inside.machine c.play_named.new.self (named (state_of c.self.inside.machine) c.args.event) c.play_named.result c.self.invariant c.play_named.ensures

pub returns : goal.returns
returns c =
    subst (λ (m : MachineModel). IsDirectedIf m (named (state_of m) c.args.event) c.play_named.result c.play_named.new.self) c.self.view_is
    (directed_if c.self.inside.machine c.play_named.new.self (named (state_of c.self.inside.machine) c.args.event) c.play_named.result c.self.invariant c.play_named.ensures)
