use Rattle.std.proofs.Common.{rules, ℕ, Some}
use Rattle.sm_reopening.specs.States.{net_inventory, told_copy}
use Rattle.smpland_reopening_lines.specs.Taken.{BeganBelow, IsToldAs}
use Rattle.smpland_reopening_lines.proofs.Slots.{not_old, takes_told}
use Rattle.smpland_reopening_lines.proofs.taken.take_told.Goals as goal

-- The server has told what its line tells.
pub returns-in-Waiting : goal.returns-in-Waiting
returns-in-Waiting c =
    let old = c.args.reopening.now in
    let inventory = c.in-Ok.field-0.inventory in
    let said : IsToldAs old.numbering c.args.told (net_inventory inventory) (told_copy (Some inventory)) = search rules in
    let below : (s : ℕ) → BeganBelow c.args.base (told_copy (Some inventory) s) = search rules in
    let is = c.in_ok-fenced-in-Ok.ensures in
    takes_told c.args.told c.args.server c.args.base inventory old c.fenced.new.self _ said below is.old (not_old _ c.in-Waiting.is) is.reopening is.copies is.under is.next
