-- The facts that every machine keeps have the events that led to its state.
use Rattle.std.proofs.Common.{subst}
use Rattle.sm_machine.specs.State.{whole_of}
use Rattle.sm_machine.specs.Working.{IsWorking}
use Rattle.sm_machine.proofs.Setups.{reached_is}
use Rattle.sm_machine.proofs.machine.Machine.is_reached.Goals as goal

pub returns : goal.returns
returns c = reached_is c.args.self.now (subst (λ m. IsWorking (whole_of m)) c.self.view_is c.self.invariant)
