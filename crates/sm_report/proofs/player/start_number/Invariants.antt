use Rattle.std.proofs.Common.{◌≡◌, drop}
use Rattle.std.specs.Prelude.{◌==◌}
use Rattle.std.specs.List.{position_from}
use Rattle.sm_report.specs.Playing.{start_number}
use Rattle.sm_report.proofs.player.start_number.Given as goal

abbrev pub invariant-loop-number : goal.invariant-loop-number
invariant-loop-number l = position_from (λ begun. begun == l.place) l.number (drop l.number l.places) ≡ start_number l.places l.place
