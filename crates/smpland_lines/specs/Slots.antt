-- The slots that a server tells: what the rows of a line say, and what they have to.
use Rattle.std.specs.Prelude.{◌≡◌, ◌≤◌, ℕ, Bool, true, false, List, [], ◌∷◌, Some, IfSome, codes, is_some}
use Rattle.serde_json.specs.Data.{Data, null}
use Rattle.json_tree.specs.View.{view}
use Rattle.json_tree.specs.declared.tree.Tree.{Tree}
use Rattle.sm_placement.specs.Names.{is_name}
use Rattle.smpland_lines.specs.Values.{text_at, truth_at, value_at, whole_at}
use Rattle.smpland_lines.specs.declared.command_member.CommandMember.TheVariants as at
use Rattle.smpland_lines.specs.declared.form.TheConstants.{MOST_EXACT}
use Rattle.smpland_lines.specs.declared.slots.CellKind.{CellKind}
use Rattle.smpland_lines.specs.declared.slots.CellKind.TheVariants.{Absent, Prepared, Secondary, Primary, Forwarding}
use Rattle.smpland_lines.specs.declared.slots.PartyText.{PartyText}
use Rattle.smpland_lines.specs.declared.slots.PartyText.TheVariants.{Missing, Null, Name}
use Rattle.smpland_lines.specs.declared.slots.SlotNeeds.{SlotNeeds}
use Rattle.smpland_lines.specs.declared.slots.SlotNeeds.TheVariants.{Fence, Audit}
use Rattle.smpland_lines.specs.declared.slots.SlotText.{SlotText}

-- ---- what rows say

-- the word of a cell
abbrev pub cell_word : CellKind → List ℕ
cell_word Absent = codes "absent"
cell_word Prepared = codes "prepared"
cell_word Secondary = codes "secondary"
cell_word Primary = codes "primary"
cell_word Forwarding = codes "forwarding"

-- a row names the other party of a handover, or null for none; of a party that is missing nothing is said
abbrev pub TellsParty : Data → PartyText → Type 0
TellsParty row (Name name) = text_at at.Party row ≡ Some name.now
TellsParty row Null = value_at at.Party row ≡ Some null
TellsParty row Missing = Unit {0}

-- the slot is what a row tells, member by member
pub record TellsSlot (row : Data) (slot : SlotText) : Type 0 where
  pub shard : text_at at.Shard row ≡ Some slot.shard.now
  pub cell : text_at at.Cell row ≡ Some (cell_word slot.cell)
  pub party : TellsParty row slot.party
  pub handover : slot.handover ≡ whole_at at.Handover row
  pub last : slot.last ≡ whole_at at.Last row
  pub load : slot.load ≡ whole_at at.Load row
  pub cut : slot.cut ≡ whole_at at.Cut row
  pub position : slot.position ≡ whole_at at.Position row
  pub view : slot.view ≡ whole_at at.View row
  pub reached : slot.reached ≡ truth_at at.Reached row

-- the slots are what the rows tell, one for each, in their order
abbrev pub TellSlots : List Tree → List SlotText → Type 0
TellSlots [] [] = Unit {0}
TellSlots (row ∷ rows) (slot ∷ slots) = TellsSlot (view row) slot × TellSlots rows slots
TellSlots [] (slot ∷ slots) = ⊥
TellSlots (row ∷ rows) [] = ⊥

-- ---- what they have to say

-- the cell is in a handover, which has another party and a number
abbrev pub is_handover : CellKind → Bool
is_handover Prepared = true
is_handover Forwarding = true
is_handover Absent = false
is_handover Secondary = false
is_handover Primary = false

-- a fence asks how far the shard's writes are
abbrev pub needs_position : SlotNeeds → CellKind → Bool
needs_position Fence Prepared = true
needs_position Fence Forwarding = true
needs_position Fence Secondary = true
needs_position Fence Primary = true
needs_position Fence Absent = false
needs_position Audit _ = false

-- a fence asks whether the cut is reached
abbrev pub needs_reached : SlotNeeds → CellKind → Bool
needs_reached Fence Prepared = true
needs_reached Fence Forwarding = false
needs_reached Fence Secondary = false
needs_reached Fence Primary = false
needs_reached Fence Absent = false
needs_reached Audit _ = false

-- a party is named
abbrev pub is_named : PartyText → Bool
is_named (Name _) = true
is_named Missing = false
is_named Null = false

-- the slot tells what its cell needs, and what is asked of it, in numbers that a float holds
pub record IsSlotFor (needs : SlotNeeds) (slot : SlotText) : Type 0 where
  pub shard : is_name slot.shard.now ≡ true
  pub party : is_handover slot.cell ≡ true → is_named slot.party ≡ true
  pub handover : is_handover slot.cell ≡ true → is_some slot.handover ≡ true
  pub position : needs_position needs slot.cell ≡ true → is_some slot.position ≡ true
  pub reached : needs_reached needs slot.cell ≡ true → is_some slot.reached ≡ true
  pub handover_most : IfSome slot.handover (λ number. number ≤ MOST_EXACT)
  pub last_most : IfSome slot.last (λ number. number ≤ MOST_EXACT)
  pub cut_most : IfSome slot.cut (λ number. number ≤ MOST_EXACT)
  pub position_most : IfSome slot.position (λ number. number ≤ MOST_EXACT)
  pub view_most : IfSome slot.view (λ number. number ≤ MOST_EXACT)
