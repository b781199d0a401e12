-- The contract is that of the driver's own command.
use Rattle.laws_driver.proofs.Written.{opened_written}
use Rattle.laws_driver.proofs.taking.new_epoch.Goals as goal

pub returns : goal.returns
returns c = opened_written _ _ c.new_epoch.result c.new_epoch.ensures.opened c.new_epoch.ensures.fits
