-- The contract is that of the driver's own command.
use Rattle.laws_driver.proofs.Written.{approved_written}
use Rattle.laws_driver.proofs.taking.approve.Goals as goal

pub returns : goal.returns
returns c = approved_written c.args.server _ _ c.approve.result c.approve.ensures.approved
