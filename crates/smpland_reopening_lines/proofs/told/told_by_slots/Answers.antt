use Rattle.std.proofs.Common.{◌∙◌}
use Rattle.sm_reopening.specs.States.{slot_of}
use Rattle.smpland_reopening_lines.proofs.Slots.{taken_more}
use Rattle.smpland_reopening_lines.proofs.told.told_by_slots.Goals as goal

-- The slots so far, and the next.
pub loop-slot-preserved : goal.loop-slot-preserved
loop-slot-preserved c = record {
  count = c.in_ok-take_slot.ensures.count ∙ c.loop-slot.invariant.count;
  slots = taken_more c.args.numbering.now c.args.slots.now c.loop-slot.slot-index _ (slot_of c.loop-slot.found) (slot_of c.take_slot.new.found)
      c.loop-slot-test.true c.loop-slot.invariant.slots c.in_ok-take_slot.ensures.slots;
}
