use Rattle.std.proofs.Common.{◌≡◌, ◌++◌}
use Rattle.std.specs.List.{flat_map, range_with_len}
use Rattle.smpland_state.specs.Cells.{slot_at}
use Rattle.smpland_state.proofs.cells.write_each_slot.Given as goal

-- the shards so far
abbrev pub invariant-loop-number : goal.invariant-loop-number
invariant-loop-number l = l.writer.tokens ≡ l.initial.writer.tokens ++ flat_map (slot_at l.config l.cells) (range_with_len 0 l.number)
