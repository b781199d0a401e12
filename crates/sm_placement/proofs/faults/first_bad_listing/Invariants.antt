use Rattle.std.proofs.Common.{◌≡◌, ◌-◌, length, None}
use Rattle.std.specs.List.{find, range_with_len}
use Rattle.sm_placement.specs.Layout.{entries_of}
use Rattle.sm_placement.specs.Grid.{cells_of}
use Rattle.sm_placement.specs.Opening.{first_below, has_bad_listing}
use Rattle.sm_placement.proofs.faults.first_bad_listing.Given as goal

abbrev pub invariant-loop-number : goal.invariant-loop-number
invariant-loop-number l =
    find (λ s. has_bad_listing (cells_of l.table s) (entries_of None l.listed s)) (range_with_len l.number (length l.table.setup.shards - l.number)) ≡ first_below (length l.table.setup.shards) (λ s. has_bad_listing (cells_of l.table s) (entries_of None l.listed s))
