-- The parties of a reopening: what they told, who is lost or left out, and the code's own lists of them.
-- `next_state` and `AreNextStates` are internal: you need not read them for the public contracts.
use Rattle.std.specs.Prelude.{◌≡◌, ℕ, ◌&&◌, ◌||◌, ◌==◌, ◌-◌, Bool, true, false, Option, Some, None, List, length, is_some, nat_le}
use Rattle.std.specs.Prelude.{option_map, slice_index_or, if◌then◌else◌}
use Rattle.sm_server.specs.declared.call.Cell.TheVariants.{Absent}
use Rattle.sm_copies.specs.declared.order.ToldCopy.{ToldCopy}
use Rattle.sm_placement.specs.Layout.{place_of}
use Rattle.laws_network.specs.Reopening.{Inventory, MapOwner, Party, Reopening, Server, Settlement, Slots, Unknown}
use Rattle.laws_network.specs.Reopening.{Entries}
use Rattle.sm_reopening.specs.declared.party.FoundSlot.{FoundSlot}
use Rattle.sm_reopening.specs.declared.party.Inventory.{Inventory as Told}
use Rattle.sm_reopening.specs.declared.slots.FoundSlots.{FoundSlots}
use Rattle.sm_reopening.specs.declared.party.Inventory.TheVariants as told
use Rattle.sm_reopening.specs.declared.party.Membership.{Membership}
use Rattle.sm_reopening.specs.declared.party.Membership.TheVariants.{Member, LeftOut, Lost}
use Rattle.sm_reopening.specs.declared.state.ServerState.{ServerState}
use Rattle.sm_reopening.specs.declared.state.Confirmed.{Confirmed}

-- ---- what is told

-- the copy of a server that has none, or tells of none
abbrev pub no_copy : ToldCopy
no_copy = record { view = 0; position = 0 }

-- a server has nothing of a shard of which it tells nothing
abbrev pub no_slot : FoundSlot
no_slot = record { cell = Absent; copy = no_copy; reached = false }

-- what was told at a place, counted from 1
abbrev pub slot_at : List FoundSlot → ℕ → FoundSlot
slot_at told place = if place == 0 then no_slot else slice_index_or told (place - 1) no_slot

-- what was told of a shard
abbrev pub slot_of : FoundSlots → ℕ → FoundSlot
slot_of slots s = slot_at slots.told.items (slice_index_or slots.places.items s 0)

-- of how many shards a server may tell something
abbrev pub shards_in : FoundSlots → ℕ
shards_in slots = length slots.places.items

-- an inventory as the network's laws speak of it
abbrev pub net_inventory : Told → Inventory
net_inventory (told.Slots slots) = Slots (λ s. (slot_of slots s).cell) (λ s. (slot_of slots s).reached)
net_inventory (told.Unknown nonce) = Unknown nonce

-- the copy of a shard that an inventory tells
abbrev pub told_copy : Option Told → ℕ → ToldCopy
told_copy (Some (told.Slots slots)) s = (slot_of slots s).copy
told_copy _ s = no_copy

-- no copy is told yet
abbrev pub no_copies : ℕ → ℕ → ToldCopy
no_copies s v = no_copy

-- ---- who takes part

-- it says that a server is lost
abbrev pub is_gone : Membership → Bool
is_gone Lost = true
is_gone _ = false

-- it says that the document leaves a server out
abbrev pub is_leaving : Membership → Bool
is_leaving LeftOut = true
is_leaving _ = false

-- the server is lost
abbrev pub says_lost : List Membership → ℕ → Bool
says_lost members v = is_gone (slice_index_or members v Member)

-- the document leaves the server out
abbrev pub is_left_out : List Membership → ℕ → Bool
is_left_out members v = is_leaving (slice_index_or members v Member)

-- ---- lists of servers

-- a server that has not answered yet
abbrev pub fresh_state : Membership → ServerState
fresh_state m = record { membership = m; told = None; settled = false; promised = false }

-- a server that has not answered yet, and may have been sent a settle by a reopening that this one replaces
abbrev pub next_state : Membership → Bool → ServerState
next_state m promised = record { membership = m; told = None; settled = false; promised = promised }

-- a server, by its number
abbrev pub state_by : List ServerState → ℕ → ServerState
state_by xs v = slice_index_or xs v (fresh_state Member)

-- the servers of a reopening that replaces another one, which has sent settles to these
abbrev pub AreNextStates : List Membership → (ℕ → Bool) → List ServerState → Type 0
AreNextStates members promised xs = (length xs ≡ length members)
    × ((v : ℕ) → state_by xs v ≡ next_state (slice_index_or members v Member) (promised v))

-- what the parties have told
abbrev pub told_by : List ServerState → Bool → Party → Option Inventory
told_by xs map (Server v) = option_map net_inventory (state_by xs v).told
told_by xs map MapOwner = if map then Some Entries else None

-- who has taken its settle
abbrev pub settled_by : List ServerState → Bool → Party → Bool
settled_by xs map (Server v) = (state_by xs v).settled
settled_by xs map MapOwner = map

-- what was confirmed
abbrev pub settlement_by : Confirmed → Settlement
settlement_by c = record { setup = c.placement.setup; place = place_of c.placement; room = c.log_room }

-- the servers to which a settle was sent
abbrev pub promised_by : List ServerState → Option Confirmed → ℕ → Bool
promised_by xs confirmed v = (state_by xs v).promised || (is_some confirmed && is_some (told_by xs false (Server v)))

-- the reopening of which the network's laws speak
abbrev pub reopening_by : ℕ → List ServerState → Bool → Bool → Option Confirmed → Reopening
reopening_by base xs map_told map_settled confirmed = record {
  base = base;
  servers = length xs;
  lost = λ v. is_gone (state_by xs v).membership;
  told = told_by xs map_told;
  settlement = option_map settlement_by confirmed;
  settled = settled_by xs map_settled;
  promised = promised_by xs confirmed;
}

-- the copies that were told
abbrev pub copy_by : List ServerState → ℕ → ℕ → ToldCopy
copy_by xs s v = told_copy (state_by xs v).told s

-- who is left out
abbrev pub left_out_by : List ServerState → ℕ → Bool
left_out_by xs v = is_leaving (state_by xs v).membership

-- an inventory tells of no more shards than there are
abbrev pub fits_told : ℕ → Option Told → Bool
fits_told shards (Some (told.Slots slots)) = nat_le (shards_in slots) shards
fits_told shards _ = true

-- so it is with each server
abbrev pub FitsShards : ℕ → List ServerState → Type 0
FitsShards shards xs = (v : ℕ) → fits_told shards (state_by xs v).told ≡ true
