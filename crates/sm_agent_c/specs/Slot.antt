-- Slots of C, and how functions change one.
use Rattle.std.specs.Prelude.{ℕ, ◌==◌, not, Option, Some, None, is_some, unwrap_or, if◌then◌else◌}
use Rattle.sm_server.specs.declared.call.Cell.{Cell}
use Rattle.sm_server.specs.declared.call.Cell.TheVariants.{Absent, Prepared, Secondary, Primary, Forwarding}
use Rattle.sm_agent.specs.declared.slot.Slot.{Slot}
use Rattle.sm_agent.specs.Order.{begun_slot, abandoned, sealed, is_filled}
use Rattle.sm_agent.specs.declared.order.Order.{Order}
use Rattle.sm_agent_c.specs.declared.code.TheConstants.{BAD, NOT_READY, DONE, UNKNOWN, ABSENT, PREPARED, SECONDARY}
use Rattle.sm_agent_c.specs.declared.code.TheConstants.{PRIMARY, FORWARDING}
use Rattle.sm_agent_c.specs.declared.slot.RawSlot.{RawSlot}
use Rattle.sm_agent_c.specs.declared.slot.Reading.{Reading}
use Rattle.sm_agent_c.specs.declared.slot.Reading.TheVariants.{Bad, Unknown, Known}
use Rattle.sm_agent_c.specs.Code.{is_flag, flag_of, number_if, done_if}

-- the cell of a kind
abbrev pub raw_cell : ℕ → ℕ → ℕ → Option Cell
raw_cell kind party handover =
    if kind == ABSENT then Some Absent
    else if kind == PREPARED then Some (Prepared party handover)
    else if kind == SECONDARY then Some Secondary
    else if kind == PRIMARY then Some Primary
    else if kind == FORWARDING then Some (Forwarding party handover)
    else None

-- the kind of a cell
abbrev pub cell_kind : Cell → ℕ
cell_kind Absent = ABSENT
cell_kind (Prepared from number) = PREPARED
cell_kind Secondary = SECONDARY
cell_kind Primary = PRIMARY
cell_kind (Forwarding to number) = FORWARDING

-- a handover's other server, 0 outside one
abbrev pub cell_party : Cell → ℕ
cell_party (Prepared from number) = from
cell_party (Forwarding to number) = to
cell_party _ = 0

-- a handover's number, 0 outside one
abbrev pub cell_handover : Cell → ℕ
cell_handover (Prepared from number) = number
cell_handover (Forwarding to number) = number
cell_handover _ = 0

-- the slot, if its kind of cell is in range
abbrev with_cell : RawSlot → Option Cell → Reading
with_cell raw None = Bad
with_cell raw (Some cell) =
    Known (record { cell = cell; last = raw.last; at_work = number_if raw.at_work raw.at_work; load = raw.load; cut = number_if raw.has_cut raw.cut })

-- what a slot of C stands for
abbrev pub slot_of : RawSlot → Reading
slot_of raw =
    if raw.cell == UNKNOWN then Unknown
    else if not (is_flag raw.has_cut) then Bad
    else with_cell raw (raw_cell raw.cell raw.party raw.handover)

-- a slot as C has it
abbrev pub written_slot : Slot → RawSlot
written_slot slot = record {
  cell = cell_kind slot.cell;
  party = cell_party slot.cell;
  handover = cell_handover slot.cell;
  last = slot.last;
  at_work = unwrap_or slot.at_work 0;
  load = slot.load;
  cut = unwrap_or slot.cut 0;
  has_cut = flag_of (is_some slot.cut);
  reserved = 0;
}

-- a slot is changed if it is known
abbrev pub answer_of : Reading → ℕ
answer_of Bad = BAD
answer_of Unknown = NOT_READY
answer_of (Known slot) = DONE

-- what the begin of an order's work answers
abbrev pub begun_answer : Reading → Option Order → ℕ
begun_answer reading None = BAD
begun_answer reading (Some order) = answer_of reading

-- the slot once an order's work has begun
abbrev pub raw_begun : RawSlot → Reading → Option Order → RawSlot
raw_begun raw (Known slot) (Some order) = written_slot (begun_slot slot order)
raw_begun raw _ _ = raw

-- the slot once the work is given up
abbrev pub raw_abandoned : RawSlot → Reading → RawSlot
raw_abandoned raw (Known slot) = written_slot (abandoned slot)
raw_abandoned raw _ = raw

-- the slot once it knows the cut of a handover
abbrev pub raw_sealed : RawSlot → Reading → ℕ → ℕ → RawSlot
raw_sealed raw (Known slot) handover cut = written_slot (sealed slot handover cut)
raw_sealed raw _ handover cut = raw

-- whether a new owner has reached the cut
abbrev pub reached_answer : Reading → ℕ → ℕ
reached_answer Bad applied = BAD
reached_answer Unknown applied = NOT_READY
reached_answer (Known slot) applied = done_if (is_filled slot.cut applied)
