-- Only a stream that stands before an order or a publication moves.
use Rattle.std.proofs.Common.{◌∙◌, sym}
use Rattle.sm_driver.proofs.Effects.{moved_awaits}
use Rattle.sm_driver.proofs.driver.Driver.answered.Goals as goal

pub take_step-requires : goal.take_step-requires
take_step-requires c = moved_awaits c.args.self.now c.args.id c.args.number (sym c.due.ensures ∙ c.in-Moved.is)
