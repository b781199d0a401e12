-- The configuration stays.
use Rattle.sm_machine.proofs.Setups.{setup_kept}
use Rattle.sm_machine.proofs.machine.Machine.step_by.Goals as goal

pub returns-clause-setup : goal.returns-clause-setup
returns-clause-setup c = setup_kept c.self.inside.engine c.args.self.now c.step_by.new.self c.self.view_is c.step_by.ensures.setup
