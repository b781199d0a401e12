use Rattle.std.proofs.Common.{◌≡◌, ◌++◌}
use Rattle.std.specs.List.{flat_map, range_with_len}
use Rattle.sm_placement.specs.Layout.{place_of}
use Rattle.smpland_reopening_lines.specs.Settles.{given_slot_text}
use Rattle.smpland_reopening_lines.proofs.settles.write_each_slot.Given as goal

-- the shards so far
abbrev pub invariant-loop-number : goal.invariant-loop-number
invariant-loop-number l =
    l.writer.tokens ≡ l.initial.writer.tokens ++ flat_map (given_slot_text l.reopening l.settlement.setup (place_of l.settlement) l.server) (range_with_len 0 l.number)
