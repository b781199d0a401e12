use Rattle.std.proofs.Common.{◌≡◌, ◌-◌, length}
use Rattle.std.specs.List.{find, range_with_len}
use Rattle.sm_placement.specs.Grid.{cells_of}
use Rattle.sm_placement.specs.Lead.{has_part}
use Rattle.sm_placement.proofs.lead.next_part.Given as goal

abbrev pub invariant-loop-number : goal.invariant-loop-number
invariant-loop-number l =
    find (λ v. has_part (cells_of l.table l.shard v)) (range_with_len l.number (length l.table.setup.servers - l.number)) ≡ find (λ v. has_part (cells_of l.table l.shard v)) (range_with_len l.from (length l.table.setup.servers - l.from))
