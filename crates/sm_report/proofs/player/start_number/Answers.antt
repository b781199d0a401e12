use Rattle.std.proofs.Common.{ℕ}
use Rattle.std.specs.Prelude.{◌==◌}
use Rattle.std.proofs.Common.{sym}
use Rattle.std.proofs.lemmas.Iterator.Adapters.{position_from-zero}
use Rattle.sm_report.proofs.player.start_number.Goals as goal

pub loop-number-init : goal.loop-number-init
loop-number-init c = sym (position_from-zero (λ (begun : ℕ). begun == c.args.place) c.args.places.now)
