-- The law is the lemma on turns.
use Rattle.laws_session.proofs.Turns.{changes_are_turns}
use Rattle.laws_session.proofs.law.changes_are_turns.Goals as goal

pub returns : goal.returns
returns c = changes_are_turns c.changes_are_commands.ensures
