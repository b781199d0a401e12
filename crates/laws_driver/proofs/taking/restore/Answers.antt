-- The contract is that of the driver's own command.
use Rattle.laws_driver.proofs.Written.{restored_written}
use Rattle.laws_driver.proofs.taking.restore.Goals as goal

pub returns : goal.returns
returns c = restored_written c.args.server c.args.nonce _ _ c.restore.result c.restore.ensures.restored
