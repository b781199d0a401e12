-- The law is the lemma on every list of events.
use Rattle.sm_protocol.proofs.Passes.{tickets_once}
use Rattle.sm_protocol.proofs.law.tickets_once.Goals as goal

pub returns : goal.returns
returns g = tickets_once
