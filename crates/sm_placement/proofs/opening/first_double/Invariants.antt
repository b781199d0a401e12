use Rattle.std.proofs.Common.{◌≡◌, ◌-◌, length}
use Rattle.sm_placement.specs.Sums.{first_from}
use Rattle.sm_placement.specs.Opening.{double_of}
use Rattle.sm_placement.proofs.opening.first_double.Given as goal

abbrev pub invariant-loop-number : goal.invariant-loop-number
invariant-loop-number l =
    first_from l.number (length l.config.shards - l.number) (double_of (length l.config.servers) l.cells) ≡ first_from 0 (length l.config.shards) (double_of (length l.config.servers) l.cells)
