-- The law is the lemma on logs, where plans that nothing holds up are accepted.
use Rattle.sm_protocol.proofs.Accepted.{reached_accepts}
use Rattle.sm_protocol.proofs.Replays.{log_replays}
use Rattle.sm_protocol.proofs.law.log_replays.Goals as goal

pub returns : goal.returns
returns g = log_replays reached_accepts
