-- Replies to `state`: what is recorded of servers, shards and plans.
use Rattle.std.specs.Prelude.{◌≡◌, ℕ, ◌+◌, ◌-◌, ◌==◌, Bool, true, false, List, [], ◌∷◌, ◌++◌, Option, Some, None, codes}
use Rattle.std.specs.Prelude.{length, min, nat_lt, option_map, slice_get, slice_index_or, if◌then◌else◌}
use Rattle.std.specs.List.{flat_map, list_any, range_with_len}
use Rattle.std.specs.Option.{option_map_or}
use Rattle.json.specs.Token.{Token, key}
use Rattle.sm_server.specs.declared.call.Cell.{Cell}
use Rattle.sm_server.specs.Cell.{is_absent}
use Rattle.sm_placement.specs.Place.{down_count, live_at, load_at}
use Rattle.sm_placement.specs.Setup.{ServerRow, Setup, no_server, shard_named, sizes_of}
use Rattle.sm_placement.specs.declared.entry.Entry.{Entry}
use Rattle.sm_reservation.specs.declared.stream_id.StreamId.{StreamId}
use Rattle.sm_protocol.specs.State.{State, free_places, pool, progress_of, stream_count, stream_id, stream_parts}
use Rattle.sm_protocol.specs.Next.{blocked_on, unfinished_plans}
use Rattle.sm_driver.specs.Copies.{copies_of}
use Rattle.sm_driver.specs.Driver.{DriverModel, base, order_number, record_of}
use Rattle.sm_driver.specs.Orders.{message_of}
use Rattle.sm_driver.specs.Permits.{permit_of}
use Rattle.smpland_lines.specs.BadLines.{told_bad}
use Rattle.smpland_lines.specs.Members.{list_member, name_member, number_member, object, object_member, server_text}
use Rattle.smpland_lines.specs.Members.{shard_text, text_member}
use Rattle.smpland_lines.specs.Refusals.{TellsRefused}
use Rattle.smpland_lines.specs.declared.bad_line.BadLine.TheVariants as bad
use Rattle.smpland_lines.specs.declared.command_member.CommandMember.TheVariants as at
use Rattle.smpland_lines.specs.declared.line_part.LinePart.TheVariants as line
use Rattle.smpland_state.specs.declared.journal_state.JournalState.{JournalState}
use Rattle.smpland_state.specs.Audit.{recorded_cell}
use Rattle.smpland_state.specs.Cells.{cell_members}
use Rattle.smpland_state.specs.Document.{flag_member}
use Rattle.smpland_state.specs.Published.{recorded_entry}

-- ---- shards

-- what a server has of a shard: its name, and the cell
abbrev pub cell_row_members : Setup → ℕ → Cell → List Token
cell_row_members setup v c = text_member (codes "server") (server_text setup v) ++ cell_members setup (codes "state") c

-- the same, unless the server has nothing of the shard
abbrev pub cell_row : Setup → ℕ → Cell → List Token
cell_row setup v c = if is_absent c then [] else object (cell_row_members setup v c)

-- what all servers have of a shard, as a member
abbrev pub cell_rows : DriverModel → ℕ → List Token
cell_rows d s =
    list_member (codes "cells") (flat_map (λ v. cell_row d.machine.placement.setup v (recorded_cell d s v))
    (range_with_len 0 (length d.machine.placement.setup.servers)))

-- a shard: its load, how many live replicas it has and has to have, how many surely have each acknowledged write, and
-- its entry in the map
abbrev pub shard_head : DriverModel → ℕ → ℕ → Entry → List Token
shard_head d s live entry =
    text_member (codes "shard") (shard_text d.machine.placement.setup s)
    ++ number_member (codes "load") ((sizes_of d.machine.placement.setup).load s)
    ++ number_member (codes "live") live
    ++ number_member (codes "floor") ((sizes_of d.machine.placement.setup).floor s)
    ++ number_member (codes "copies") (copies_of d s)
    ++ name_member (codes "listed") (option_map (server_text d.machine.placement.setup) entry.server)
    ++ number_member (codes "version") entry.version

-- these, and what all servers have of it
abbrev pub shard_state_members : DriverModel → ℕ → List Token
shard_state_members d s = shard_head d s (live_at (record_of d).sizes (record_of d).place s) (recorded_entry d s)
    ++ cell_rows d s

-- the same as an object
abbrev pub shard_state : DriverModel → ℕ → List Token
shard_state d s = object (shard_state_members d s)

-- those of all shards, as a member
abbrev pub shards_state : DriverModel → List Token
shards_state d = list_member (codes "shards") (flat_map (shard_state d) (range_with_len 0 (length d.machine.placement.setup.shards)))

-- the state of one shard, as a member
abbrev pub shard_state_member : DriverModel → ℕ → List Token
shard_state_member d s = object_member (codes "state") (key (codes "shard") ∷ shard_state d s)

-- the reply to `state` of the shard with a name: this, or that there is no such shard
abbrev pub shard_state_reply : DriverModel → List ℕ → List Token
shard_state_reply d name =
    option_map_or (shard_state_member d) (shard_named d.machine.placement.setup name) (told_bad (bad.UnknownName line.Line at.Shard))

-- ---- servers

-- a member that is a number, or null for none
abbrev pub maybe_number : List ℕ → Option ℕ → List Token
maybe_number name (Some n) = number_member name n
maybe_number name None = name_member name None

-- the room of a server that streams hold: what is neither its load nor free; none, if a reopening has broken them off
abbrev pub held_room : DriverModel → Bool → ℕ → ℕ
held_room d is_reopening v =
    if is_reopening then 0
    else (sizes_of d.machine.placement.setup).room v - (load_at (record_of d).sizes (record_of d).place v + (pool (record_of d)).room v)

-- a server: its region, its room, its load, the room that streams hold, the permit under which it is down, and whether
-- it was carried over
abbrev pub server_state_members : ServerRow → ℕ → ℕ → Option ℕ → Bool → List Token
server_state_members row load held permit carried =
    text_member (codes "server") row.name
    ++ text_member (codes "region") row.region
    ++ number_member (codes "room") row.room
    ++ number_member (codes "load") load
    ++ number_member (codes "held") held
    ++ maybe_number (codes "permit") permit
    ++ flag_member (codes "carried") carried

-- that of a journal's server
abbrev pub server_state : DriverModel → Bool → ℕ → List Token
server_state d is_reopening v = object (
    server_state_members (slice_index_or d.machine.placement.setup.servers v no_server) (load_at (record_of d).sizes (record_of d).place v)
    (held_room d is_reopening v) (permit_of d.permits v) (slice_index_or d.carried v false)
    )

-- those of all servers, as a member
abbrev pub servers_state : DriverModel → Bool → List Token
servers_state d is_reopening =
    list_member (codes "servers") (flat_map (server_state d is_reopening) (range_with_len 0 (length d.machine.placement.setup.servers)))

-- ---- plans

-- the number of the order or the publication that a stream stands before, if it stands before one
abbrev pub number_now : DriverModel → StreamId → Option ℕ
number_now d id = option_map (λ m. order_number d id) (message_of (base d) (record_of d) id)

-- what a stream waits for: a signal that is not posted, or the answer to its order or publication
abbrev pub waits_members : Option ℕ → Option ℕ → List Token
waits_members (Some signal) number = text_member (codes "is") (codes "waiting") ++ number_member (codes "signal") signal
waits_members None (Some number) = text_member (codes "is") (codes "ordered") ++ number_member (codes "number") number
waits_members None None = []

-- whether a stream has ended, or a reopening has broken it off, and otherwise what it waits for
abbrev pub stage_members : DriverModel → Bool → StreamId → List Token
stage_members d is_reopening id =
    if (progress_of (record_of d) id).done then text_member (codes "is") (codes "done")
    else if is_reopening then text_member (codes "is") (codes "broken_off")
    else waits_members (blocked_on (record_of d) id) (number_now d id)

-- how many of its instructions a stream has made, of how many, and this
abbrev pub stream_members : DriverModel → Bool → StreamId → List Token
stream_members d is_reopening id =
    number_member (codes "at") (progress_of (record_of d) id).at
    ++ number_member (codes "of") (length (stream_parts (record_of d) id).code)
    ++ stage_members d is_reopening id

-- the same as an object
abbrev pub stream_state : DriverModel → Bool → StreamId → List Token
stream_state d is_reopening id = object (stream_members d is_reopening id)

-- those of all streams of a plan, as a member
abbrev pub streams_state : DriverModel → Bool → ℕ → List Token
streams_state d is_reopening k =
    list_member (codes "streams") (flat_map (λ i. stream_state d is_reopening (stream_id k i)) (range_with_len 0 (stream_count (record_of d) k)))

-- the word for whether a plan goes on
abbrev pub plan_word : State → Bool → ℕ → List ℕ
plan_word w is_reopening k =
    if is_reopening then codes "broken_off" else if list_any (λ j. j == k) (unfinished_plans w) then codes "running" else codes "ended"

-- a plan of the present epoch: its number, the name under which it began, whether it goes on, and its streams
abbrev pub plan_state_members : JournalState → Bool → ℕ → List Token
plan_state_members o is_reopening k =
    number_member (codes "plan") k
    ++ name_member (codes "name") (option_map (λ entry. entry.0) (slice_get o.plans.present k))
    ++ text_member (codes "is") (plan_word (record_of o.driver) is_reopening k)
    ++ streams_state o.driver is_reopening k

-- the same as an object
abbrev pub plan_state : JournalState → Bool → ℕ → List Token
plan_state o is_reopening k = object (plan_state_members o is_reopening k)

-- the state of one plan, as a member
abbrev pub plan_state_member : JournalState → Bool → ℕ → List Token
plan_state_member o is_reopening k = object_member (codes "state") (key (codes "plan") ∷ plan_state o is_reopening k)

-- the reply to `state` of a plan, by whether there is one: this, or a refusal
abbrev pub TellsPlanIf : Bool → JournalState → Bool → ℕ → List Token → List Token → Type 0
TellsPlanIf true o is_reopening k before after = after ≡ before ++ plan_state_member o is_reopening k
TellsPlanIf false o is_reopening k before after = TellsRefused before after

-- the same of the plan with a number
abbrev pub TellsPlanState : JournalState → Bool → ℕ → List Token → List Token → Type 0
TellsPlanState o is_reopening k before after = TellsPlanIf (nat_lt k (length (record_of o.driver).plans)) o is_reopening k before after

-- those of all plans of the present epoch, as a member: a journal has fewer plans than there are numbers of 32 bits
abbrev pub plans_state : JournalState → Bool → List Token
plans_state o is_reopening =
    list_member (codes "plans") (flat_map (plan_state o is_reopening) (range_with_len 0 (min (length (record_of o.driver).plans) 4294967295)))

-- ---- all that is recorded

-- the places of the log that are neither used nor set aside: of plans that a reopening has broken off nothing is set
-- aside
abbrev pub free_now : JournalState → Bool → ℕ
free_now o is_reopening =
    if is_reopening then o.log_room - length (record_of o.driver).log - down_count (record_of o.driver).sizes (record_of o.driver).place
    else free_places (record_of o.driver)

-- how many places the log has, how many are used, and how many free
abbrev pub log_members : JournalState → Bool → List Token
log_members o is_reopening =
    number_member (codes "places") o.log_room
    ++ number_member (codes "used") (length (record_of o.driver).log)
    ++ number_member (codes "free") (free_now o is_reopening)

-- the servers, the shards, and the plans
abbrev pub rows_members : JournalState → Bool → List Token
rows_members o is_reopening = servers_state o.driver is_reopening ++ shards_state o.driver ++ plans_state o is_reopening

-- how many servers may be down at once, the log, and these
abbrev pub recorded_members : JournalState → Bool → List Token
recorded_members o is_reopening =
    number_member (codes "limit") (record_of o.driver).place.limit
    ++ object_member (codes "log") (log_members o is_reopening)
    ++ rows_members o is_reopening
