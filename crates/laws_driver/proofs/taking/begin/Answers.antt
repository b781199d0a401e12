-- The contract is that of the driver's own command.
use Rattle.laws_driver.proofs.Written.{begun_written}
use Rattle.laws_driver.proofs.taking.begin.Goals as goal

pub returns : goal.returns
returns c = begun_written c.args.ready.plan _ _ c.begin.result c.begin.ensures.begun
