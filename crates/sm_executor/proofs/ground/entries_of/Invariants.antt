use Rattle.std.proofs.Common.{◌≡◌, ◌≤◌, ◌<◌, All, Some, ℕ, length, vec_capacity}
use Rattle.std.specs.Prelude.{slice_get}
use Rattle.sm_placement.specs.Place.{entry_at}
use Rattle.sm_map.specs.Entry.{IsInRange}
use Rattle.sm_machine.specs.State.{state_of}
use Rattle.sm_executor.proofs.ground.entries_of.Given as goal

-- the entries of the first shards
abbrev pub invariant-loop-number : goal.invariant-loop-number
invariant-loop-number l =
    (length l.entries.items ≡ l.number)
    × ((s : ℕ) → s < l.number → slice_get l.entries.items s ≡ Some (entry_at (state_of l.machine).place s))
    × All (IsInRange (state_of l.machine).sizes.servers) l.entries.items
    × (l.count ≤ vec_capacity l.entries)
