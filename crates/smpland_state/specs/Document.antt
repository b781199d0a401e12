-- The service as a document.
use Rattle.std.specs.Prelude.{ℕ, Bool, List, [], ◌∷◌, ◌++◌, Option, Some, None, codes, is_some, length, option_map}
use Rattle.std.specs.Prelude.{slice_index_or, if◌then◌else◌}
use Rattle.std.specs.List.{flat_map, range_with_len}
use Rattle.std.specs.Option.{option_map_or}
use Rattle.json.specs.Token.{Token, boolean, key}
use Rattle.sm_server.specs.declared.call.Cell.{Cell}
use Rattle.sm_server.specs.Cell.{is_secondary}
use Rattle.sm_placement.specs.Lead.{lead_of}
use Rattle.sm_placement.specs.Place.{Place}
use Rattle.sm_placement.specs.Setup.{ServerRow, Setup, ShardRow, no_server, no_shard}
use Rattle.sm_driver.specs.Driver.{record_of}
use Rattle.sm_driver.specs.Permits.{permit_of}
use Rattle.smpland_lines.specs.Members.{list_member, name_member, number_member, object, object_member, server_text}
use Rattle.smpland_lines.specs.Members.{text_member}
use Rattle.smpland_state.specs.declared.journal_state.JournalState.{JournalState}
use Rattle.smpland_state.specs.Messages.{owner_under}
use Rattle.smpland_state.specs.Unserved.{is_owner}

-- a member that is true or false
abbrev pub flag_member : List ℕ → Bool → List Token
flag_member name flag = key name ∷ boolean flag ∷ []

-- ---- servers

-- a server: its name, its region, its room, and whether it is down
abbrev pub server_members : ServerRow → Bool → List Token
server_members row down =
    text_member (codes "name") row.name
    ++ text_member (codes "region") row.region
    ++ number_member (codes "room") row.room
    ++ flag_member (codes "down") down

-- a server, which is down if it has a permit
abbrev pub document_server : Setup → List (Option ℕ) → ℕ → List Token
document_server setup permits v = object (server_members (slice_index_or setup.servers v no_server) (is_some (permit_of permits v)))

-- ---- shards

-- the server that has a shard's data: in a handover the old owner until the new one has taken over
abbrev pub owner_in : Setup → (ℕ → Cell) → Option ℕ
owner_in setup row = owner_under (lead_of (length setup.servers) row)

-- the role of a server: the one that has the shard's data is the primary; the other one in a handover has none
abbrev pub role_word : Bool → Cell → Option (List ℕ)
role_word owns cell = if owns then Some (codes "primary") else if is_secondary cell then Some (codes "secondary") else None

-- a replica: its server and its role
abbrev pub role_members : List ℕ → List ℕ → List Token
role_members server role = text_member (codes "server") server ++ text_member (codes "state") role

-- the replica that a server has of a shard, if it has one
abbrev pub replica_row : Setup → (ℕ → Cell) → ℕ → List Token
replica_row setup row v =
    option_map_or (λ role. object (role_members (server_text setup v) role)) (role_word (is_owner (owner_in setup row) v) (row v)) []

-- those of all servers, as a member
abbrev pub replica_rows : Setup → (ℕ → Cell) → List Token
replica_rows setup row = list_member (codes "cells") (flat_map (replica_row setup row) (range_with_len 0 (length setup.servers)))

-- the server that the map lists, if it has the shard's data
abbrev pub listed_owner : Option ℕ → Option ℕ → Option ℕ
listed_owner None owner = None
listed_owner (Some v) owner = if is_owner owner v then Some v else None

-- a shard's numbers
abbrev pub shard_numbers : ShardRow → List Token
shard_numbers row =
    text_member (codes "name") row.name
    ++ number_member (codes "load") row.load
    ++ number_member (codes "want") row.want
    ++ number_member (codes "cap") row.cap
    ++ number_member (codes "spread") row.spread

-- these, the primary that the map lists, and the replicas
abbrev pub shard_members : Setup → Place → ℕ → List Token
shard_members setup place s =
    shard_numbers (slice_index_or setup.shards s no_shard)
    ++ name_member (codes "listed") (option_map (server_text setup) (listed_owner (place.listed s) (owner_in setup (place.cells s))))
    ++ replica_rows setup (place.cells s)

-- the same as an object
abbrev pub document_shard : Setup → Place → ℕ → List Token
document_shard setup place s = object (shard_members setup place s)

-- ---- the document

-- the servers, as a member
abbrev pub servers_member : Setup → List (Option ℕ) → List Token
servers_member setup permits = list_member (codes "servers") (flat_map (document_server setup permits) (range_with_len 0 (length setup.servers)))

-- the shards, as a member
abbrev pub shards_member : Setup → Place → List Token
shards_member setup place = list_member (codes "shards") (flat_map (document_shard setup place) (range_with_len 0 (length setup.shards)))

-- how many servers may be down at once, how many places the log has, the servers, and the shards
abbrev pub document_members : Setup → Place → List (Option ℕ) → ℕ → List Token
document_members setup place permits places =
    number_member (codes "limit") place.limit
    ++ number_member (codes "log") places
    ++ servers_member setup permits
    ++ shards_member setup place

-- the service of a journal that is open, as a document
abbrev pub document_member : JournalState → List Token
document_member o =
    object_member (codes "document")
    (document_members o.driver.machine.placement.setup (record_of o.driver).place o.driver.permits o.log_room)
