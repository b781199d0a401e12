-- The play is computed.
use Rattle.laws_service_data.proofs.Plays.{restart_keeps_writes}
use Rattle.laws_service_data.proofs.play.restart_keeps_writes.Goals as goal

pub returns : goal.returns
returns c = restart_keeps_writes
