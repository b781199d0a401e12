-- The law is the lemma.
use Rattle.laws_session.proofs.Plays.{next_epoch_is_an_entry}
use Rattle.laws_session.proofs.replays.next_epoch_is_an_entry.Goals as goal

pub returns : goal.returns
returns c = next_epoch_is_an_entry
