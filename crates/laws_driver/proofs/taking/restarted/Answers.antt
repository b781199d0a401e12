-- The contract is that of the driver's own command.
use Rattle.laws_driver.proofs.Written.{come_written}
use Rattle.laws_driver.proofs.taking.restarted.Goals as goal

pub returns : goal.returns
returns c = come_written c.args.permit c.args.base _ _ c.restarted.result c.restarted.ensures.come
