-- A reopening under way, as contracts see it.
use Rattle.std.specs.Prelude.{◌≡◌, ℕ, ◌&&◌, ◌==◌, Bool, not, Option, Some, None, is_none, is_some, if◌then◌else◌}
use Rattle.sm_placement.specs.Layout.{place_of}
use Rattle.sm_placement.specs.Opening.{first_below}
use Rattle.sm_placement.specs.Place.{Place}
use Rattle.sm_placement.specs.Setup.{Setup, sizes_of}
use Rattle.sm_protocol.specs.State.{State, opened}
use Rattle.sm_copies.specs.declared.order.ToldCopy.{ToldCopy}
use Rattle.laws_network.specs.Reopening.{Inventory, MapOwner, Party, Reopening, Server, Slots, is_asked, is_first}
use Rattle.laws_network.specs.ReopeningLaws.{is_carried}
use Rattle.sm_reopening.specs.declared.ongoing.OngoingReopening.{OngoingReopening}
use Rattle.sm_reopening.specs.declared.party.FoundSlot.{FoundSlot}
use Rattle.sm_reopening.specs.declared.party.Inventory.{Inventory as Told}
use Rattle.sm_reopening.specs.States.{left_out_by, copy_by, reopening_by, told_copy}

-- the reopening of which the network's laws speak
abbrev pub net_reopening : OngoingReopening → Reopening
net_reopening x = reopening_by x.base x.servers.items x.map_told x.map_settled x.confirmed

-- by shard and server, the copy that was told
abbrev pub told_copies : OngoingReopening → ℕ → ℕ → ToldCopy
told_copies x = copy_by x.servers.items

-- who is left out of the document
abbrev pub left_out_of : OngoingReopening → ℕ → Bool
left_out_of x = left_out_by x.servers.items

-- the configuration and the placement that are recorded of the epoch before
abbrev pub recorded_setup : OngoingReopening → Setup
recorded_setup x = x.past.setup

-- the placement
abbrev pub recorded_place : OngoingReopening → Place
recorded_place x = place_of x.past

-- how many numbers of shards there are
abbrev pub shards_of : OngoingReopening → ℕ
shards_of x = x.shards

-- ---- what is known of a server

-- what is recorded, as a state of which the network's laws speak
abbrev pub past_state : OngoingReopening → State
past_state x = opened (sizes_of (recorded_setup x)) (recorded_place x) 0

-- a server that has not answered may be carried over as it is recorded, unless the document leaves it out
abbrev pub may_carry : OngoingReopening → ℕ → Bool
may_carry x v = is_carried (net_reopening x) (past_state x) v && not (left_out_of x v)

-- the server has to answer the fence before anything can be confirmed
abbrev pub is_waited_for : OngoingReopening → ℕ → Bool
is_waited_for x v = is_asked (net_reopening x) (Server v) && not (is_some ((net_reopening x).told (Server v))) && not (may_carry x v)

-- the party has to answer the fence before anything can be confirmed
abbrev pub is_missing : OngoingReopening → Party → Bool
is_missing x (Server v) = is_waited_for x v
is_missing x MapOwner = not (is_some ((net_reopening x).told MapOwner))

-- the lowest server that has to answer
abbrev pub first_awaited : OngoingReopening → Option ℕ
first_awaited x = first_below (net_reopening x).servers (is_waited_for x)

-- all have answered that have to
abbrev pub is_complete : OngoingReopening → Bool
is_complete x = is_some ((net_reopening x).told MapOwner) && is_none (first_awaited x)

-- what an inventory tells of a shard, if it has slots, with this copy
abbrev pub inventory_slot : Option Inventory → ToldCopy → ℕ → Option FoundSlot
inventory_slot (Some (Slots cells reached)) copy s = Some (record { cell = cells s; copy = copy; reached = reached s })
inventory_slot _ copy s = None

-- what a server has told of a shard, unless it is Unknown
abbrev pub told_slot : OngoingReopening → ℕ → ℕ → Option FoundSlot
told_slot x s v = inventory_slot ((net_reopening x).told (Server v)) (told_copies x s v) s

-- the copies with what a server has told
abbrev pub put_copy : (ℕ → ℕ → ToldCopy) → ℕ → Told → ℕ → ℕ → ToldCopy
put_copy f v inventory s u = if u == v then told_copy (Some inventory) s else f s u

-- the copies once a server has told what it has, if that counts
abbrev pub copies_after : OngoingReopening → ℕ → ℕ → Told → ℕ → ℕ → ToldCopy
copies_after x v base inventory =
    if is_first (net_reopening x) (Server v) base then put_copy (told_copies x) v inventory else told_copies x

-- nothing has changed but what was told
pub record IsSameButTold (old new : OngoingReopening) : Type 0 where
  pub left_out : left_out_of new ≡ left_out_of old
  pub setup : recorded_setup new ≡ recorded_setup old
  pub place : recorded_place new ≡ recorded_place old
  pub shards : shards_of new ≡ shards_of old
