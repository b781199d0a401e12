-- The play is computed.
use Rattle.laws_service_data.proofs.Plays.{handover_keeps_writes}
use Rattle.laws_service_data.proofs.play.handover_keeps_writes.Goals as goal

pub returns : goal.returns
returns c = handover_keeps_writes
