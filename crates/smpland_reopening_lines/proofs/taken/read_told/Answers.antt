use Rattle.std.proofs.Common.{◌≡◌, Bool, true, rules}
use Rattle.std.specs.List.{list_all}
use Rattle.std.specs.Prelude.{nat_lt}
use Rattle.smpland_reopening_lines.specs.Slots.{copy_said}
use Rattle.smpland_reopening_lines.proofs.Slots.{lists_told, told_began_below}
use Rattle.smpland_reopening_lines.proofs.taken.read_told.Goals as goal

-- The slots that were found are those of the line's rows.
pub returns-in_ok-told_by_slots-in-Ok-clause-said : goal.returns-in_ok-told_by_slots-in-Ok-clause-said
returns-in_ok-told_by_slots-in-Ok-clause-said c =
    rw c.in-Slots.is (lists_told c.args.reopening.now.numbering _ c.in-Slots.entries.now c.in-Ok.slots.items _ _
    c.numbering-numbering.ensures.numbering c.as_slice-rows.ensures.value
    (rw c.in-Ok.is at c.in_ok-slots-in-Slots.ensures.told) (rw c.in-Ok.is at c.in_ok-slots-in-Slots.ensures.needed)
    c.in_ok-told_by_slots-in-Ok.ensures.slots)

-- Each copy began below the base.
pub returns-in_ok-told_by_slots-in-Ok-clause-below : goal.returns-in_ok-told_by_slots-in-Ok-clause-below
returns-in_ok-told_by_slots-in-Ok-clause-below c =
    let below : list_all (λ slot. nat_lt (copy_said slot).view c.args.base) c.as_slice-rows.result.now ≡ true = search rules in
    told_began_below c.numbering-numbering.result.now c.as_slice-rows.result.now c.args.base _ below c.in_ok-told_by_slots-in-Ok.ensures.slots
