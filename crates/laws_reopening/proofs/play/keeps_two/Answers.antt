-- The play is computed.
use Rattle.std.proofs.Common.{refl}
use Rattle.laws_reopening.proofs.play.keeps_two.Goals as goal

pub returns : goal.returns
returns c = record { kept = refl; live = refl; forgot = refl }
