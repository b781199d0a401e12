-- A server's slots as it tells them at a fence: the slot of each shard is what the row with the shard's name tells.
-- `party_told`, `cell_by`, `cell_told`, `copy_said`, `slot_told`, `is_text_of` and `slot_by` are internal: you need not read them for the public contracts.
use Rattle.std.specs.Prelude.{◌≡◌, ℕ, Bool, List, [], ◌∷◌, Option, Some, None, false, option_and_then, unwrap_or}
use Rattle.std.specs.Prelude.{if◌then◌else◌}
use Rattle.std.specs.Option.{option_map_or, option_or}
use Rattle.serde_json.specs.Data.{Data}
use Rattle.json_tree.specs.View.{view}
use Rattle.json_tree.specs.declared.tree.Tree.{Tree}
use Rattle.sm_server.specs.declared.call.Cell.{Cell}
use Rattle.sm_server.specs.declared.call.Cell.TheVariants as cell
use Rattle.sm_copies.specs.declared.order.ToldCopy.{ToldCopy}
use Rattle.sm_placement.specs.Setup.{Setup, server_named, shard_named}
use Rattle.sm_reopening.specs.Proposal.{is_the}
use Rattle.sm_reopening.specs.States.{no_slot}
use Rattle.sm_reopening.specs.declared.party.FoundSlot.{FoundSlot}
use Rattle.smpland_lines.specs.Slots.{cell_word}
use Rattle.smpland_lines.specs.Values.{text_at, truth_at, whole_at}
use Rattle.smpland_lines.specs.declared.command_member.CommandMember.TheVariants as at
use Rattle.smpland_lines.specs.declared.slots.CellKind.{CellKind}
use Rattle.smpland_lines.specs.declared.slots.CellKind.TheVariants as kind
use Rattle.smpland_lines.specs.declared.slots.PartyText.{PartyText}
use Rattle.smpland_lines.specs.declared.slots.PartyText.TheVariants.{Missing, Null, Name}
use Rattle.smpland_lines.specs.declared.slots.SlotText.{SlotText}

-- ---- a row, and the slot that it tells

-- the number of a party that nobody knows, which is no server's
abbrev pub unknown_party : ℕ
unknown_party = 4294967295

-- the number of a party: that of the server with its name
abbrev pub party_number : Setup → List ℕ → ℕ
party_number numbering name = unwrap_or (server_named numbering name) unknown_party

-- the other party of a handover is the one that a row names
abbrev pub IsPartyOf : Setup → Data → ℕ → Type 0
IsPartyOf numbering row v = (name : List ℕ) × (text_at at.Party row ≡ Some name) × (v ≡ party_number numbering name)

-- the cell is the one that a row tells: its word, and in a handover the other party and the number
abbrev pub IsCellOf : Setup → Data → Cell → Type 0
IsCellOf numbering row cell.Absent = text_at at.Cell row ≡ Some (cell_word kind.Absent)
IsCellOf numbering row cell.Secondary = text_at at.Cell row ≡ Some (cell_word kind.Secondary)
IsCellOf numbering row cell.Primary = text_at at.Cell row ≡ Some (cell_word kind.Primary)
IsCellOf numbering row (cell.Prepared from number) =
    (text_at at.Cell row ≡ Some (cell_word kind.Prepared)) × IsPartyOf numbering row from
    × (whole_at at.Handover row ≡ Some number)
IsCellOf numbering row (cell.Forwarding to number) =
    (text_at at.Cell row ≡ Some (cell_word kind.Forwarding)) × IsPartyOf numbering row to
    × (whole_at at.Handover row ≡ Some number)

-- the copy that a row tells: what it leaves out is 0
abbrev pub copy_in : Data → ToldCopy
copy_in row = record { view = unwrap_or (whole_at at.View row) 0; position = unwrap_or (whole_at at.Position row) 0 }

-- the slot is the one that a row tells: its cell, the copy, and whether the cut is reached
pub record IsSlotOf (numbering : Setup) (row : Data) (slot : FoundSlot) : Type 0 where
  pub cell : IsCellOf numbering row slot.cell
  pub copy : slot.copy ≡ copy_in row
  pub reached : slot.reached ≡ unwrap_or (truth_at at.Reached row) false

-- ---- all rows, and the slots of all shards

-- the last item of a list that passes a test
abbrev pub last_with : {A : Type 0} → (A → Bool) → List A → Option A
last_with p [] = None
last_with p (x ∷ xs) = option_or (last_with p xs) (if p x then Some x else None)

-- a row names the shard with this number
abbrev pub is_row_of : Setup → ℕ → Tree → Bool
is_row_of numbering s row = is_the (option_and_then (shard_named numbering) (text_at at.Shard (view row))) s

-- the slot is what a row tells; without a row it is that of a server that has nothing
abbrev pub IsToldByRow : Setup → Option Tree → FoundSlot → Type 0
IsToldByRow numbering (Some row) slot = IsSlotOf numbering (view row) slot
IsToldByRow numbering None slot = slot ≡ no_slot

-- The slot of each shard is what the row with its name tells. No two rows have one name; of such the last would count.
abbrev pub AreSlotsOf : Setup → List Tree → (ℕ → FoundSlot) → Type 0
AreSlotsOf numbering rows slots = (s : ℕ) → IsToldByRow numbering (last_with (is_row_of numbering s) rows) (slots s)

-- ---- the same of rows that were read

-- the number of the other party of a handover
abbrev pub party_told : Setup → PartyText → ℕ
party_told numbering (Name name) = party_number numbering name.now
party_told numbering Null = unknown_party
party_told numbering Missing = unknown_party

-- the cell of a kind, with these of a handover
abbrev pub cell_by : CellKind → ℕ → ℕ → Cell
cell_by kind.Absent party number = cell.Absent
cell_by kind.Secondary party number = cell.Secondary
cell_by kind.Primary party number = cell.Primary
cell_by kind.Prepared party number = cell.Prepared party number
cell_by kind.Forwarding party number = cell.Forwarding party number

-- the cell that a slot tells
abbrev pub cell_told : Setup → SlotText → Cell
cell_told numbering slot = cell_by slot.cell (party_told numbering slot.party) (unwrap_or slot.handover 0)

-- the copy that a slot tells
abbrev pub copy_said : SlotText → ToldCopy
copy_said slot = record { view = unwrap_or slot.view 0; position = unwrap_or slot.position 0 }

-- the slot that a row tells
abbrev pub slot_told : Setup → SlotText → FoundSlot
slot_told numbering slot =
    record { cell = cell_told numbering slot; copy = copy_said slot; reached = unwrap_or slot.reached false }

-- a slot names the shard with this number
abbrev pub is_text_of : Setup → ℕ → SlotText → Bool
is_text_of numbering s slot = is_the (shard_named numbering slot.shard.now) s

-- what the last slot of a shard tells
abbrev pub slot_by : Setup → List SlotText → ℕ → FoundSlot
slot_by numbering slots s = option_map_or (slot_told numbering) (last_with (is_text_of numbering s) slots) no_slot
