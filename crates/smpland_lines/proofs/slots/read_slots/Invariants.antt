use Rattle.std.proofs.Common.{◌≡◌, All, take, true}
use Rattle.smpland_lines.specs.Reading.{is_clean}
use Rattle.smpland_lines.specs.Slots.{IsSlotFor, TellSlots}
use Rattle.smpland_lines.proofs.slots.read_slots.Given as goal

-- without a fault the slots so far are what the rows so far tell
abbrev pub invariant-loop-at : goal.invariant-loop-at
invariant-loop-at l = record {
  needed : All (IsSlotFor l.needs) l.slots.items;
  told : is_clean l.faults ≡ true → TellSlots (take l.at l.entries) l.slots.items;
}
