-- Settlements that may be confirmed, and why others may not.
-- `IsFairCell`, `IsFairSlot`, `IsFairAt`, `is_carried_up`, `IsTimely` and `moved_fault` are internal: you need not read
-- them for the public contracts.
use Rattle.std.specs.Prelude.{◌≡◌, ◌≢◌, ◌<◌, ◌≤◌, ◌⊎◌, ◌&&◌, ◌||◌, ℕ, Bool, true, false, not, Some, None, length}
use Rattle.std.specs.Prelude.{is_some, nat_lt}
use Rattle.sm_server.specs.declared.call.Cell.{Cell}
use Rattle.sm_server.specs.declared.call.Cell.TheVariants.{Absent, Primary}
use Rattle.sm_server.specs.Cell.{is_primary, is_secondary}
use Rattle.sm_placement.specs.Place.{Place, down_count}
use Rattle.sm_placement.specs.Setup.{sizes_of}
use Rattle.sm_placement.specs.Opening.{is_handing}
use Rattle.sm_plan_code.specs.declared.limits.TheConstants.{MOST_PLACES}
use Rattle.laws_network.specs.Reopening.{Server, Settlement, is_asked}
use Rattle.laws_network.specs.ReopeningLaws.{Keeps, MaySettle, is_carried}
use Rattle.sm_reopening.specs.declared.ongoing.OngoingReopening.{OngoingReopening}
use Rattle.sm_reopening.specs.Ongoing.{is_complete, is_missing, left_out_of, past_state, recorded_place, recorded_setup}
use Rattle.sm_reopening.specs.Ongoing.{net_reopening, told_slot}
use Rattle.sm_reopening.specs.Proposal.{has_known_lead}
use Rattle.sm_reopening.specs.Settles.{net_party}
use Rattle.sm_reopening.specs.Survivors.{standing_of, stands_above}
use Rattle.sm_reopening.specs.declared.party.FoundSlot.{FoundSlot}
use Rattle.sm_reopening.specs.declared.faults.ConfirmFault.{ConfirmFault}
use Rattle.sm_reopening.specs.declared.faults.ConfirmFault.TheVariants as fault

-- The server is no server of the record, and no reopening that was replaced has sent it a settle: slots that it has are
-- of before, when it was given up or of another service.
abbrev pub is_stranger : OngoingReopening → ℕ → Bool
is_stranger x v =
    (nat_lt 0 (length (recorded_setup x).servers) && not (nat_lt v (length (recorded_setup x).servers))) && not ((net_reopening x).promised v)

-- the server has to have nothing: the document leaves it out, or it is a stranger
abbrev pub is_barred : OngoingReopening → ℕ → Bool
is_barred x v = left_out_of x v || is_stranger x v

-- a secondary becomes the primary
abbrev pub is_appointed : Cell → Cell → Bool
is_appointed told next = is_secondary told && is_primary next

-- A told cell of the shard may become the other one: the network's laws let it, and a secondary is appointed only of a
-- shard that has a lead.
abbrev pub KeepsSlot : OngoingReopening → ℕ → Cell → Cell → Type 0
KeepsSlot x s told next = Keeps told next × (is_appointed told next ≡ true → has_known_lead x s ≡ true)

-- The controller may confirm the settlement: the network's laws let it, nobody of the same claim is passed over who has
-- more of a shard's writes, each server that the document leaves out has told, or is lost, it and a stranger have
-- nothing, and no secondary is appointed without a lead.
pub record MayConfirm (x : OngoingReopening) (s : Settlement) : Type 0 where
  pub allowed : MaySettle (net_reopening x) (past_state x) s
  pub best : (k u v : ℕ) → s.place.cells k v ≡ Primary → stands_above (standing_of x k u) (standing_of x k v) ≡ false
  pub told : (v : ℕ) → left_out_of x v ≡ true → is_asked (net_reopening x) (Server v) ≡ true
      → is_some ((net_reopening x).told (Server v)) ≡ true
  pub left : (k v : ℕ) (slot : FoundSlot) → is_barred x v ≡ true → told_slot x k v ≡ Some slot → slot.cell ≡ Absent
  pub appointed : (k v : ℕ) (slot : FoundSlot) → told_slot x k v ≡ Some slot
      → is_appointed slot.cell (s.place.cells k v) ≡ true → has_known_lead x k ≡ true

-- A settlement that is said to be fair to a server and a shard keeps what `MayConfirm` says of the two: of the cell
-- itself,
pub record IsFairCell (x : OngoingReopening) (p : Place) (k v : ℕ) : Type 0 where
  pub lost : (net_reopening x).lost v ≡ true → p.cells k v ≡ Absent
  pub carried : is_carried (net_reopening x) (past_state x) v ≡ true → p.cells k v ≡ (recorded_place x).cells k v
  pub best : p.cells k v ≡ Primary → (u : ℕ) → stands_above (standing_of x k u) (standing_of x k v) ≡ false

-- and by what the server has told.
pub record IsFairSlot (x : OngoingReopening) (p : Place) (k v : ℕ) : Type 0 where
  pub left : (slot : FoundSlot) → is_barred x v ≡ true → told_slot x k v ≡ Some slot → slot.cell ≡ Absent
  pub kept : (slot : FoundSlot) → told_slot x k v ≡ Some slot → KeepsSlot x k slot.cell (p.cells k v)
  pub handed : (slot : FoundSlot) → told_slot x k v ≡ Some slot → is_handing slot.cell ≡ true
      → (u : ℕ) × (p.cells k u ≡ Primary)

-- both
abbrev pub IsFairAt : OngoingReopening → Place → ℕ → ℕ → Type 0
IsFairAt x p k v = IsFairCell x p k v × IsFairSlot x p k v

-- the server is carried over, and up in the settlement
abbrev pub is_carried_up : OngoingReopening → Place → ℕ → Bool
is_carried_up x p v = is_carried (net_reopening x) (past_state x) v && not (p.down v)

-- a settlement may be confirmed now, but for its cells
pub record IsTimely (x : OngoingReopening) (s : Settlement) : Type 0 where
  pub first : (net_reopening x).settlement ≡ None
  pub complete : is_complete x ≡ true
  pub least : down_count (sizes_of s.setup) s.place ≤ s.room
  pub most : s.room ≤ MOST_PLACES
  pub down : (v : ℕ) → is_carried (net_reopening x) (past_state x) v ≡ true → v < length s.setup.servers
      → s.place.down v ≡ true

-- the fault of a cell that is not kept
abbrev pub moved_fault : Cell → ℕ → ℕ → ConfirmFault
moved_fault Primary k v = fault.Primary k v
moved_fault _ k v = fault.Moved k v

-- the settlement has that fault
abbrev pub IsFaultOf : OngoingReopening → Settlement → ConfirmFault → Type 0
IsFaultOf x s fault.Confirmed = is_some (net_reopening x).settlement ≡ true
IsFaultOf x s (fault.Missing p) = is_missing x (net_party p) ≡ true
IsFaultOf x s fault.LogFull = (s.room < down_count (sizes_of s.setup) s.place) ⊎ (MOST_PLACES < s.room)
IsFaultOf x s (fault.CarriedUp v) = (v < length s.setup.servers)
    × (is_carried (net_reopening x) (past_state x) v ≡ true) × (s.place.down v ≡ false)
IsFaultOf x s (fault.CarriedOver k v) = (is_carried (net_reopening x) (past_state x) v ≡ true)
    × (s.place.cells k v ≢ (recorded_place x).cells k v)
IsFaultOf x s (fault.AtLost k v) = ((net_reopening x).lost v ≡ true) × (s.place.cells k v ≢ Absent)
IsFaultOf x s (fault.LowerChoice k v) = (s.place.cells k v ≡ Primary)
    × ((u : ℕ) × (stands_above (standing_of x k u) (standing_of x k v) ≡ true))
IsFaultOf x s (fault.StillThere k v) = (is_barred x v ≡ true)
    × ((slot : FoundSlot) × (told_slot x k v ≡ Some slot) × (slot.cell ≢ Absent))
IsFaultOf x s (fault.Primary k v) = ((slot : FoundSlot) × (told_slot x k v ≡ Some slot) × (slot.cell ≡ Primary))
    × (s.place.cells k v ≢ Primary)
IsFaultOf x s (fault.Moved k v) = (slot : FoundSlot) × (told_slot x k v ≡ Some slot) × (slot.cell ≢ Primary)
    × (KeepsSlot x k slot.cell (s.place.cells k v) → ⊥)
IsFaultOf x s (fault.NoPrimary k) = ((v : ℕ) × (slot : FoundSlot) × (told_slot x k v ≡ Some slot)
    × (is_handing slot.cell ≡ true)) × ((u : ℕ) → s.place.cells k u ≢ Primary)
