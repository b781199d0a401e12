-- The law is what the pool keeps, of every state that events lead to.
use Rattle.sm_protocol.proofs.Reserved.{room_is_conserved}
use Rattle.sm_protocol.proofs.law.room_is_conserved.Goals as goal

pub returns : goal.returns
returns g = room_is_conserved
