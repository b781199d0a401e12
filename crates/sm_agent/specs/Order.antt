-- A server's verdict on an order, and what its work does to the slot.
use Rattle.std.specs.Prelude.{ℕ, ◌-◌, ◌==◌, Bool, true, false, not, ◌&&◌, ◌||◌, nat_lt, nat_le, Option, Some, None}
use Rattle.std.specs.Prelude.{Result, Ok, Err, is_none, unwrap_or, option_map, if◌then◌else◌}
use Rattle.sm_server.specs.declared.call.Cell.{Cell}
use Rattle.sm_server.specs.declared.call.Cell.TheVariants.{Absent, Prepared}
use Rattle.sm_server.specs.declared.call.Role.TheVariants as role
use Rattle.sm_server.specs.declared.call.Call.{Call}
use Rattle.sm_server.specs.declared.call.Call.TheVariants.{Add, PrepareDrop}
use Rattle.sm_server.specs.declared.call.Refusal.{Refusal}
use Rattle.sm_server.specs.Cell.{is_absent}
use Rattle.sm_server.specs.Call.{led_to, served}
use Rattle.sm_agent.specs.declared.base.Base.{Base}
use Rattle.sm_agent.specs.declared.slot.Slot.{Slot}
use Rattle.sm_agent.specs.declared.order.Stamp.{Stamp}
use Rattle.sm_agent.specs.declared.order.Order.{Order}
use Rattle.sm_agent.specs.declared.order.Verdict.{Verdict}
use Rattle.sm_agent.specs.declared.order.Verdict.TheVariants.{Begin, Working, Again, Old, Foreign, NotReady, Refused}
use Rattle.sm_agent.specs.Base.{lacks_slots}

-- why an order is turned away, whatever the server has of its shard
abbrev pub turned_away : Base → Stamp → Option Verdict
turned_away base stamp =
    if lacks_slots base then Some NotReady
    else if not (stamp.journal == base.journal) then Some Foreign
    else if base.fenced || nat_lt base.number stamp.fence then Some NotReady
    else if nat_le stamp.number base.number then Some Old
    else None

-- the order's work has begun
abbrev pub is_at_work : Option ℕ → ℕ → Bool
is_at_work None number = false
is_at_work (Some at_work) number = at_work == number

-- an order with a new number is begun, goes on or is refused, as the table of calls says
abbrev by_table : Result Cell Refusal → Bool → Verdict
by_table (Err why) working = Refused why
by_table (Ok next) working = if working then Working else Begin

-- what the shard's slot says of an order that is not turned away
abbrev pub judged_by_slot : Slot → ℕ → Order → Verdict
judged_by_slot slot used order =
    if nat_lt order.stamp.number slot.last then Old
    else if order.stamp.number == slot.last then Again
    else by_table (served slot.cell (order.room - used) order.load true order.call) (is_at_work slot.at_work order.stamp.number)

-- A server's verdict on an order. `used` is the load of all that it has.
abbrev pub judged : Base → Slot → ℕ → Order → Verdict
judged base slot used order = unwrap_or (turned_away base order.stamp) (judged_by_slot slot used order)

-- the slot once an order's work has begun
abbrev pub begun_slot : Slot → Order → Slot
begun_slot slot order = record slot { at_work = Some order.stamp.number }

-- the slot once the work is given up
abbrev pub abandoned : Slot → Slot
abandoned slot = record slot { at_work = None }

-- the shard's writes are applied up to the old owner's cut, which is known
abbrev pub is_filled : Option ℕ → ℕ → Bool
is_filled None applied = false
is_filled (Some cut) applied = nat_le cut applied

-- The work is done as far as the slot can tell: a new owner takes over once it is filled.
abbrev pub is_done : Call → Cell → Option ℕ → ℕ → Bool
is_done (Add role.Primary) (Prepared from number) cut at = is_filled cut at
is_done _ _ cut at = true

-- an old owner's cut is the position at which it stops executing
abbrev pub cut_by : Call → ℕ → Option ℕ
cut_by (PrepareDrop new_owner number) at = Some at
cut_by _ at = None

-- the load of a cell
abbrev pub cell_load : Cell → ℕ → ℕ
cell_load cell load = if is_absent cell then 0 else load

-- the slot once the order had its effect: its number is the last one
abbrev slot_after : Order → ℕ → Cell → Slot
slot_after order at next =
    record { cell = next; last = order.stamp.number; at_work = None; load = cell_load next order.load; cut = cut_by order.call at }

-- The order may have its effect now: it is not turned away, it is new, its work has begun and is done.
abbrev pub may_commit : Base → Slot → Order → ℕ → Bool
may_commit base slot order at =
    is_none (turned_away base order.stamp) && nat_lt slot.last order.stamp.number
    && is_at_work slot.at_work order.stamp.number && is_done order.call slot.cell slot.cut at

-- The slot once the work of an order is committed, with the shard's writes applied up to a position; none if the work
-- is thrown away, or is not done yet.
abbrev pub committed : Base → Slot → Order → ℕ → Option Slot
committed base slot order at =
    if may_commit base slot order at then option_map (slot_after order at) (led_to order.call slot.cell) else None

-- the server is prepared in this handover
abbrev is_prepared_for : Cell → ℕ → Bool
is_prepared_for (Prepared from number) handover = number == handover
is_prepared_for _ handover = false

-- The slot once the cut of a handover is known at the new owner.
abbrev pub sealed : Slot → ℕ → ℕ → Slot
sealed slot handover cut = if is_prepared_for slot.cell handover then record slot { cut = Some cut } else slot

-- a slot as a settle or a restore brings it
abbrev pub placed : Slot → Cell → ℕ → Slot
placed slot cell load = record slot { cell = cell; at_work = None; load = cell_load cell load; cut = None }

-- The verdict of the published map's owner on a publication, whose number is its version: it is shown from now on
-- (Begin), or is answered all the same.
abbrev pub published : Base → ℕ → Stamp → Verdict
published base shown stamp = unwrap_or (turned_away base stamp) (if nat_lt shown stamp.number then Begin else Again)

-- the slot of a shard of which the server has never had anything
abbrev pub vacant : Slot
vacant = record { cell = Absent; last = 0; at_work = None; load = 0; cut = None }

-- A slot that may be deleted: the server has nothing of the shard, and the base alone turns away all that the slot
-- would.
abbrev pub may_delete : Base → Slot → Bool
may_delete base slot = is_absent slot.cell && is_none slot.at_work && nat_le slot.last base.number
