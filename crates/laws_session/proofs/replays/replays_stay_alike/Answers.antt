-- The law is the lemma.
use Rattle.laws_session.proofs.Entries.{replays_stay_alike}
use Rattle.laws_session.proofs.replays.replays_stay_alike.Goals as goal

pub returns : goal.returns
returns c = replays_stay_alike c.entries_go_alike.ensures
