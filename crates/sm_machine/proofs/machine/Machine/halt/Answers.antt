-- The machine is halted.
use Rattle.std.proofs.Common.{true, ap}
use Rattle.sm_machine.specs.State.{whole_of, Whole}
use Rattle.sm_machine.proofs.Turns.{flag_kept}
use Rattle.sm_machine.proofs.Setups.{setup_kept}
use Rattle.sm_machine.proofs.machine.Machine.halt.Goals as goal

pub invariant_of-self : goal.invariant_of-self
invariant_of-self c = flag_kept (whole_of c.self.inside.engine) c.self.invariant true (whole_of c.set_halted.new.self) c.set_halted.ensures

pub returns-clause-setup : goal.returns-clause-setup
returns-clause-setup c = setup_kept c.self.inside.engine c.args.self.now c.set_halted.new.self c.self.view_is (ap (λ (x : Whole). x.setup) c.set_halted.ensures)
