-- The law is the lemma on changes.
use Rattle.laws_session.proofs.Turns.{changes_are_commands}
use Rattle.laws_session.proofs.law.changes_are_commands.Goals as goal

pub returns : goal.returns
returns c = changes_are_commands c.answers_have_entries.ensures
