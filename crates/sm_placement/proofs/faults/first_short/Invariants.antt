use Rattle.std.proofs.Common.{◌≡◌, ◌-◌, length}
use Rattle.std.specs.List.{find, range_with_len}
use Rattle.sm_placement.specs.Setup.{sizes_of}
use Rattle.sm_placement.specs.Grid.{cells_of, down_of}
use Rattle.sm_placement.specs.Opening.{first_below, is_short}
use Rattle.sm_placement.proofs.faults.first_short.Given as goal

abbrev pub invariant-loop-number : goal.invariant-loop-number
invariant-loop-number l =
    find (is_short (sizes_of l.table.setup) (cells_of l.table) (down_of l.table)) (range_with_len l.number (length l.table.setup.shards - l.number)) ≡ first_below (length l.table.setup.shards) (is_short (sizes_of l.table.setup) (cells_of l.table) (down_of l.table))
