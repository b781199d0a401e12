-- The configuration stays.
use Rattle.sm_machine.proofs.Setups.{setup_kept}
use Rattle.sm_machine.proofs.machine.Machine.refill_by.Goals as goal

pub returns-clause-setup : goal.returns-clause-setup
returns-clause-setup c = setup_kept c.self.inside.engine c.args.self.now c.refill.new.self c.self.view_is c.refill.ensures.setup
