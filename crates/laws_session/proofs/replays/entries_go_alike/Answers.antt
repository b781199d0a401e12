-- The law is the lemma.
use Rattle.laws_session.proofs.Entries.{entries_go_alike}
use Rattle.laws_session.proofs.replays.entries_go_alike.Goals as goal

pub returns : goal.returns
returns c = entries_go_alike c.drivers_go_alike.ensures
