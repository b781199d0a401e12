use Rattle.std.proofs.Common.{◌≡◌, map}
use Rattle.std.specs.List.{range_with_len}
use Rattle.laws_network.specs.Net.{cell_above}
use Rattle.sm_machine.specs.State.{state_of}
use Rattle.sm_driver.proofs.restores.cells_told.Given as goal

-- the cells of the shards so far
abbrev pub invariant-loop-number : goal.invariant-loop-number
invariant-loop-number l = l.cells.items ≡ map (λ s. cell_above l.base ((state_of l.machine).place.cells s l.server)) (range_with_len 0 l.number)
