-- The parcels of a plan: what a signal carries, and what a stream holds at its start.
-- `HaveIds` is internal: you need not read it for the public contracts.
use Rattle.std.specs.Prelude.{ℕ, ◌+◌, ◌≤◌, List, [], ◌∷◌, ◌++◌, length, codes, map, Option, Some, None, option_and_then}
use Rattle.std.specs.Prelude.{unwrap_or, is_some, if◌then◌else◌}
use Rattle.std.specs.Str.{bytes_eq}
use Rattle.serde_json.specs.Data.{Data}
use Rattle.sm_placement.specs.declared.lead.Lead.{Lead}
use Rattle.sm_placement.specs.declared.lead.Lead.TheVariants as lead
use Rattle.sm_reservation.specs.declared.right.PlainCell.{PlainCell}
use Rattle.sm_reservation.specs.declared.right.PlainCell.TheVariants as plain
use Rattle.sm_reservation.specs.declared.right.CellRight.{CellRight}
use Rattle.sm_reservation.specs.declared.right.Crown.{Crown}
use Rattle.sm_reservation.specs.declared.right.Room.{Room}
use Rattle.sm_reservation.specs.declared.right.Spare.{Spare}
use Rattle.sm_reservation.specs.Rights.{Rights}
use Rattle.sm_reservation.specs.InOrder.{in_order}
use Rattle.sm_plan_text.specs.declared.fault.TextFault.{TextFault}
use Rattle.sm_plan_text.specs.declared.member.Member.{Member}
use Rattle.sm_plan_text.specs.declared.member.Member.TheVariants as members
use Rattle.sm_plan_text.specs.Values.{text_found, number_in, id_in, entries_in}
use Rattle.sm_plan_text.specs.Tables.{Row, one, maybe, whole, text, known, known_or_null, keyed, own_faults}
use Rattle.sm_plan_text.specs.Tables.{worded_faults, walked}
use Rattle.sm_plan_text.specs.Shards.{listed_in}
use Rattle.sm_plan_code.specs.declared.limits.TheConstants.{MOST_AMOUNT, MOST_NUMBER, MOST_RIGHTS}

-- ---- rights to cells

-- what the word for a cell says, to which there may be a right
abbrev pub plain_named : List ℕ → Option PlainCell
plain_named word =
    if bytes_eq word (codes "absent") then Some plain.Absent
    else if bytes_eq word (codes "secondary") then Some plain.Secondary
    else None

-- the state of a cell right that a member says; Absent if it says none
abbrev pub plain_in : Member → Data → PlainCell
plain_in member d = unwrap_or (option_and_then plain_named (text_found member d)) plain.Absent

-- the members of a cell right
abbrev pub right_table : List (List ℕ) → List (List ℕ) → List Row
right_table shards servers =
    one members.Shard (known shards) ∷
    one members.Server (known servers) ∷
    one members.State (text (λ s. is_some (plain_named s))) ∷ []

-- the faults of a cell right, whatever stands before it in the list
abbrev pub right_faults : List (List ℕ) → List (List ℕ) → List Data → Data → List TextFault
right_faults shards servers before d = own_faults members.Cells (right_table shards servers) d

-- a cell right, as its object says it
abbrev pub right_in : List (List ℕ) → List (List ℕ) → Data → CellRight
right_in shards servers d = record { shard = id_in shards members.Shard d; server = id_in servers members.Server d; state = plain_in members.State d }

-- ---- crowns

-- the word that says where the primary of a crown's shard stands
pub data LeadWord : Type 0 where
  Gone : LeadWord
  At : LeadWord
  Ready : LeadWord
  Handing : LeadWord
  Handed : LeadWord

-- the lead that a word says
abbrev pub lead_word : List ℕ → Option LeadWord
lead_word s =
    if bytes_eq s (codes "gone") then Some Gone
    else if bytes_eq s (codes "at") then Some At
    else if bytes_eq s (codes "ready") then Some Ready
    else if bytes_eq s (codes "handing") then Some Handing
    else if bytes_eq s (codes "handed") then Some Handed
    else None

-- the members that a crown has by its word
abbrev pub lead_table : List (List ℕ) → LeadWord → List Row
lead_table servers Gone = []
lead_table servers At = one members.Server (known servers) ∷ []
lead_table servers Ready = one members.From (known servers) ∷ one members.To (known servers) ∷ []
lead_table servers Handing = one members.From (known servers) ∷ one members.To (known servers) ∷ []
lead_table servers Handed = one members.From (known servers) ∷ one members.To (known servers) ∷ []

-- the members that a crown has beside its word
abbrev pub crown_table : List (List ℕ) → List (List ℕ) → LeadWord → List Row
crown_table shards servers w = one members.Shard (known shards) ∷ maybe members.Listed (known_or_null servers) ∷ lead_table servers w

-- the faults of a crown, whatever stands before it in the list
abbrev pub crown_faults : List (List ℕ) → List (List ℕ) → List Data → Data → List TextFault
crown_faults shards servers before d = worded_faults members.Crowns members.Lead lead_word (crown_table shards servers) d

-- the lead that a crown's object says by its word
abbrev pub lead_worded : List (List ℕ) → Data → LeadWord → Lead
lead_worded servers d Gone = lead.Gone
lead_worded servers d At = lead.At (id_in servers members.Server d)
lead_worded servers d Ready = lead.Ready (id_in servers members.From d) (id_in servers members.To d)
lead_worded servers d Handing = lead.Handing (id_in servers members.From d) (id_in servers members.To d)
lead_worded servers d Handed = lead.Handed (id_in servers members.From d) (id_in servers members.To d)

-- a crown by its word; if that says no lead, what stands for it in a plan that is refused
abbrev pub crown_by : List (List ℕ) → List (List ℕ) → Data → Option LeadWord → Crown
crown_by shards servers d None = record { shard = 0; lead = lead.Gone; listed = None }
crown_by shards servers d (Some w) = record { shard = id_in shards members.Shard d; lead = lead_worded servers d w; listed = listed_in servers d }

-- a crown, as its object says it
abbrev pub crown_in : List (List ℕ) → List (List ℕ) → Data → Crown
crown_in shards servers d = crown_by shards servers d (option_and_then lead_word (text_found members.Lead d))

-- ---- room and spare replicas

-- the members of an amount of room at a server
abbrev pub room_table : List (List ℕ) → List Row
room_table servers = one members.Server (known servers) ∷ one members.Amount (whole MOST_AMOUNT) ∷ []

-- the faults of an amount of room, whatever stands before it in the list
abbrev pub room_faults : List (List ℕ) → List Data → Data → List TextFault
room_faults servers before d = own_faults members.Room (room_table servers) d

-- an amount of room at a server, as its object says it
abbrev pub room_in : List (List ℕ) → Data → Room
room_in servers d = record { server = id_in servers members.Server d; amount = number_in members.Amount MOST_AMOUNT d }

-- the members of an amount of spare replicas of a shard
abbrev pub spare_table : List (List ℕ) → List Row
spare_table shards = one members.Shard (known shards) ∷ one members.Amount (whole MOST_AMOUNT) ∷ []

-- the faults of an amount of spare replicas, whatever stands before it in the list
abbrev pub spare_faults : List (List ℕ) → List Data → Data → List TextFault
spare_faults shards before d = own_faults members.Spare (spare_table shards) d

-- an amount of spare replicas of a shard, as its object says it
abbrev pub spare_in : List (List ℕ) → Data → Spare
spare_in shards d = record { shard = id_in shards members.Shard d; amount = number_in members.Amount MOST_AMOUNT d }

-- ---- parcels

-- the members of a parcel. Each key stands once in its list: a cell's shard and server, a crown's shard, a room's
-- server, a spare's shard
abbrev pub parcel_table : List Row
parcel_table =
    maybe members.Cells (keyed MOST_RIGHTS (members.Shard ∷ members.Server ∷ [])) ∷
    maybe members.Crowns (keyed MOST_RIGHTS (members.Shard ∷ [])) ∷
    maybe members.Room (keyed MOST_RIGHTS (members.Server ∷ [])) ∷
    maybe members.Spare (keyed MOST_RIGHTS (members.Shard ∷ [])) ∷ []

-- the faults of the parcel that stands in this member, and then of its entries
abbrev pub parcel_faults : Member → List (List ℕ) → List (List ℕ) → List Data → Data → List TextFault
parcel_faults parent shards servers before d =
    own_faults parent parcel_table d
    ++ walked (right_faults shards servers) [] (entries_in members.Cells d)
    ++ walked (crown_faults shards servers) [] (entries_in members.Crowns d)
    ++ walked (room_faults servers) [] (entries_in members.Room d)
    ++ walked (spare_faults shards) [] (entries_in members.Spare d)

-- the rights of a parcel as they are written
abbrev pub parcel_lists_in : List (List ℕ) → List (List ℕ) → Data → Rights
parcel_lists_in shards servers d = record {
  cells = map (right_in shards servers) (entries_in members.Cells d);
  crowns = map (crown_in shards servers) (entries_in members.Crowns d);
  room = map (room_in servers) (entries_in members.Room d);
  spare = map (spare_in shards) (entries_in members.Spare d);
}

-- so few shards and servers that the number of each is an id
pub record HaveIds (shard_names server_names : List (List ℕ)) : Type 0 where
  pub shards : length shard_names ≤ MOST_NUMBER + 1
  pub servers : length server_names ≤ MOST_NUMBER + 1

-- the parcel: its rights in the order of their keys, without amounts of 0
abbrev pub parcel_in : List (List ℕ) → List (List ℕ) → Data → Rights
parcel_in shards servers d = in_order (parcel_lists_in shards servers d)
