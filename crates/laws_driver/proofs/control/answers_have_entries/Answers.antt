-- The law is the lemma on what a stream stands before.
use Rattle.laws_driver.proofs.Commands.{answers_have_entries}
use Rattle.laws_driver.proofs.control.answers_have_entries.Goals as goal

pub returns : goal.returns
returns c = answers_have_entries
