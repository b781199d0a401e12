use Rattle.std.proofs.Common.{◌≡◌, ◌-◌, length}
use Rattle.std.specs.List.{find, range_with_len}
use Rattle.sm_placement.specs.Setup.{sizes_of}
use Rattle.sm_placement.specs.Grid.{cells_of}
use Rattle.sm_placement.specs.Opening.{first_below, is_over_room}
use Rattle.sm_placement.proofs.faults.first_over_room.Given as goal

abbrev pub invariant-loop-number : goal.invariant-loop-number
invariant-loop-number l =
    find (is_over_room (sizes_of l.table.setup) (cells_of l.table)) (range_with_len l.number (length l.table.setup.servers - l.number)) ≡ first_below (length l.table.setup.servers) (is_over_room (sizes_of l.table.setup) (cells_of l.table))
