-- The contract is that of the driver's own command.
use Rattle.laws_driver.proofs.Written.{noted_written}
use Rattle.laws_driver.proofs.taking.copied.Goals as goal

pub returns : goal.returns
returns c = noted_written c.args.shard c.args.told.copies _ _ c.copied.result c.copied.ensures.noted
