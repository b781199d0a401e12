-- Permits of the driver are earlier ones.
use Rattle.std.proofs.Common.{◌+◌, arith}
use Rattle.sm_driver.specs.Orders.{epoch_base}
use Rattle.smpland_reopening.proofs.Begun.{earlier_permits}
use Rattle.smpland_reopening.proofs.reopening.DocumentReopening.begin.Goals as goal

pub new-requires-clause-permits : goal.new-requires-clause-permits
new-requires-clause-permits c = earlier_permits (epoch_base (c.args.driver.now.epoch + 1)) (epoch_base c.args.epoch) c.in-Ok.kept.permits.items c.in-Ok.ensures.earlier (omega (arith, c.requires))

pub returns-in-Ok-clause-numbered : goal.returns-in-Ok-clause-numbered
returns-in-Ok-clause-numbered c = c.new.ensures.numbered c.args.driver.now.machine.placement.setup c.in-Ok.ensures.numbered
