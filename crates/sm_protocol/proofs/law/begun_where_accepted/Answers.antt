-- The law is the lemma on plans that nothing holds up.
use Rattle.sm_protocol.proofs.Accepted.{begun_where_accepted}
use Rattle.sm_protocol.proofs.law.begun_where_accepted.Goals as goal

pub returns : goal.returns
returns g = begun_where_accepted
