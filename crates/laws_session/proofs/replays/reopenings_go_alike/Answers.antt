-- The law is the lemma.
use Rattle.laws_session.proofs.Reopenings.{reopenings_go_alike}
use Rattle.laws_session.proofs.replays.reopenings_go_alike.Goals as goal

pub returns : goal.returns
returns c = reopenings_go_alike
