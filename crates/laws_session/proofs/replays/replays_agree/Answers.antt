-- The law is the lemma.
use Rattle.laws_session.proofs.Entries.{replays_agree}
use Rattle.laws_session.proofs.replays.replays_agree.Goals as goal

pub returns : goal.returns
returns c = replays_agree c.replays_stay_alike.ensures
