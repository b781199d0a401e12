-- The law is the lemma.
use Rattle.laws_session.proofs.Plays.{answer_is_an_entry}
use Rattle.laws_session.proofs.replays.answer_is_an_entry.Goals as goal

pub returns : goal.returns
returns c = answer_is_an_entry
