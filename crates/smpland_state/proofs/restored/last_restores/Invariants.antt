use Rattle.std.proofs.Common.{◌≡◌}
use Rattle.std.specs.List.{flat_map, range_with_len}
use Rattle.smpland_state.specs.Restores.{told_to}
use Rattle.smpland_state.proofs.restored.last_restores.Given as goal

-- those of the servers so far
abbrev pub invariant-loop-number : goal.invariant-loop-number
invariant-loop-number l = l.told.items ≡ flat_map (told_to l.opened.driver) (range_with_len 0 l.number)
