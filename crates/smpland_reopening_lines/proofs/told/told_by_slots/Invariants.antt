use Rattle.std.proofs.Common.{◌≡◌, ℕ, length, take}
use Rattle.sm_reopening.specs.States.{shards_in, slot_of}
use Rattle.smpland_reopening_lines.specs.Slots.{slot_by}
use Rattle.smpland_reopening_lines.proofs.told.told_by_slots.Given as goal

-- there is a slot for each shard, as the slots so far tell it
abbrev pub invariant-loop-slot : goal.invariant-loop-slot
invariant-loop-slot l = record {
  count : shards_in l.found ≡ length l.numbering.shards;
  slots : (s : ℕ) → slot_of l.found s ≡ slot_by l.numbering (take l.slot-index l.slots) s;
}
