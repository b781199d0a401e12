-- The law is the lemma on each command.
use Rattle.laws_driver.proofs.Commands.{commands_are_entries}
use Rattle.laws_driver.proofs.control.commands_are_entries.Goals as goal

pub returns : goal.returns
returns c = commands_are_entries
