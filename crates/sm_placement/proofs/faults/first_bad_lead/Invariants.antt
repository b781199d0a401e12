use Rattle.std.proofs.Common.{◌≡◌, ◌-◌, length}
use Rattle.std.specs.List.{find, range_with_len}
use Rattle.sm_placement.specs.Grid.{cells_of}
use Rattle.sm_placement.specs.Opening.{first_below, has_bad_lead}
use Rattle.sm_placement.proofs.faults.first_bad_lead.Given as goal

abbrev pub invariant-loop-number : goal.invariant-loop-number
invariant-loop-number l =
    find (λ s. has_bad_lead (length l.table.setup.servers) (cells_of l.table s)) (range_with_len l.number (length l.table.setup.shards - l.number)) ≡ first_below (length l.table.setup.shards) (λ s. has_bad_lead (length l.table.setup.servers) (cells_of l.table s))
