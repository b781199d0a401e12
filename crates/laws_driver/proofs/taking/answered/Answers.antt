-- The contract is that of the driver's own command.
use Rattle.std.proofs.Common.{◌∙◌, sym}
use Rattle.sm_driver.proofs.Effects.{moved_is_due}
use Rattle.laws_driver.proofs.Commands.{answers_have_entries}
use Rattle.laws_driver.proofs.taking.answered.Goals as goal

pub returns : goal.returns
returns c = λ e. answers_have_entries c.args.id c.args.number _ _ (moved_is_due c.args.driver.now c.args.id c.args.number (sym c.answered.ensures.effect ∙ e)) (c.answered.ensures.moved e)
