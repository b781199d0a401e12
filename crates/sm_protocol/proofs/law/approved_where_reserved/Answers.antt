-- The law is the lemma on restarts that nothing is against.
use Rattle.sm_protocol.proofs.Reserved.{approved_where_reserved}
use Rattle.sm_protocol.proofs.law.approved_where_reserved.Goals as goal

pub returns : goal.returns
returns g = approved_where_reserved
