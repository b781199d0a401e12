-- Replies to `audit`: what a server tells of its slots, against what is recorded.
use Rattle.std.specs.Prelude.{◌==◌, ◌+◌, ◌&&◌, ◌||◌, ℕ, Bool, true, false, List, [], ◌∷◌, ◌++◌, Option, Some, None}
use Rattle.std.specs.Prelude.{codes, is_some, length, map, nat_le, nat_lt, not, option_and_then, slice_index_or}
use Rattle.std.specs.Prelude.{unwrap_or, if◌then◌else◌}
use Rattle.std.specs.List.{filter, flat_map, list_any, range_with_len}
use Rattle.std.specs.Option.{option_map_or, option_or}
use Rattle.json.specs.Token.{Token}
use Rattle.sm_server.specs.declared.call.Cell.{Cell}
use Rattle.sm_server.specs.declared.call.Cell.TheVariants as cell
use Rattle.sm_server.specs.Call.{led_to}
use Rattle.sm_server.specs.Cell.{is_absent}
use Rattle.sm_reservation.specs.declared.stream_id.StreamId.{StreamId}
use Rattle.sm_placement.specs.Setup.{Setup, server_named, shard_named}
use Rattle.laws_network.specs.Net.{Order, cell_above, order_of}
use Rattle.sm_driver.specs.Driver.{DriverModel, base, record_of}
use Rattle.sm_driver.specs.Orders.{awaiting_of}
use Rattle.smpland_lines.specs.BadLines.{told_bad}
use Rattle.smpland_lines.specs.Members.{list_member, name_member, number_member, object, object_member, shard_text}
use Rattle.smpland_lines.specs.Members.{text_member}
use Rattle.smpland_lines.specs.Slots.{cell_word}
use Rattle.smpland_lines.specs.declared.bad_line.BadLine.TheVariants as bad
use Rattle.smpland_lines.specs.declared.command_member.CommandMember.TheVariants as at
use Rattle.smpland_lines.specs.declared.line_part.LinePart.TheVariants as line
use Rattle.smpland_lines.specs.declared.slots.CellKind.{CellKind}
use Rattle.smpland_lines.specs.declared.slots.CellKind.TheVariants as kind
use Rattle.smpland_lines.specs.declared.slots.PartyText.{PartyText}
use Rattle.smpland_lines.specs.declared.slots.PartyText.TheVariants as party
use Rattle.smpland_lines.specs.declared.slots.SlotText.{SlotText}
use Rattle.smpland_state.specs.declared.journal_state.JournalState.{JournalState}
use Rattle.smpland_state.specs.Cells.{cell_members}
use Rattle.smpland_state.specs.History.{recorded_at}

-- ---- what a slot tells

-- the other party of a handover is told as this server
abbrev pub is_party_named : Setup → PartyText → ℕ → Bool
is_party_named setup (party.Name name) v = option_map_or (λ u. u == v) (server_named setup name.now) false
is_party_named setup party.Null v = false
is_party_named setup party.Missing v = false

-- a slot tells of the handover with this party and number
abbrev pub tells_handover : Setup → SlotText → ℕ → ℕ → Bool
tells_handover setup slot v number = is_party_named setup slot.party v && option_map_or (λ n. n == number) slot.handover false

-- a cell is of a kind, and in a handover of the one that a slot tells of
abbrev pub is_of_kind : Setup → SlotText → CellKind → Cell → Bool
is_of_kind setup slot kind.Absent cell.Absent = true
is_of_kind setup slot kind.Secondary cell.Secondary = true
is_of_kind setup slot kind.Primary cell.Primary = true
is_of_kind setup slot kind.Prepared (cell.Prepared from number) = tells_handover setup slot from number
is_of_kind setup slot kind.Forwarding (cell.Forwarding to number) = tells_handover setup slot to number
is_of_kind setup slot k c = false

-- a slot tells this cell, and no slot tells that there is nothing
abbrev pub tells_cell : Setup → Option SlotText → Cell → Bool
tells_cell setup (Some slot) c = is_of_kind setup slot slot.cell c
tells_cell setup None c = is_absent c

-- ---- the two sides of a shard

-- the last item of a list that passes a test
abbrev pub last_passing : {A : Type 0} → (A → Bool) → List A → Option A
last_passing p [] = None
last_passing p (x ∷ xs) = option_or (last_passing p xs) (if p x then Some x else None)

-- a slot is told of the shard with this number
abbrev pub is_slot_of : Setup → ℕ → SlotText → Bool
is_slot_of setup s slot = option_map_or (λ n. n == s) (shard_named setup slot.shard.now) false

-- the slot that is told of a shard: of two the last
abbrev pub audited_slot : Setup → List SlotText → ℕ → Option SlotText
audited_slot setup slots s = last_passing (is_slot_of setup s) slots

-- those of all shards, by their numbers
abbrev pub audited_slots : Setup → List SlotText → List (Option SlotText)
audited_slots setup slots = map (audited_slot setup slots) (range_with_len 0 (length setup.shards))

-- a slot is told of a shard that is not recorded
abbrev pub is_unknown_shard : Setup → SlotText → Bool
is_unknown_shard setup slot = not (is_some (shard_named setup slot.shard.now))

-- a stream's present order is one to a server, for a shard
abbrev pub is_order_to : DriverModel → ℕ → ℕ → StreamId → Bool
is_order_to d v s id = option_map_or (λ o. (o.call.server == v) && (o.call.shard == s)) (order_of (base d) (record_of d) id) false

-- the stream that has a present order to a server for a shard: of two the last
abbrev pub stream_to : DriverModel → ℕ → ℕ → Option StreamId
stream_to d v s = last_passing (is_order_to d v s) (awaiting_of (record_of d))

-- those for all shards, by their numbers
abbrev pub streams_to : DriverModel → ℕ → List (Option StreamId)
streams_to d v = map (stream_to d v) (range_with_len 0 (length d.machine.placement.setup.shards))

-- the slot of a shard, by its number
abbrev pub slot_at_shard : List (Option SlotText) → ℕ → Option SlotText
slot_at_shard told s = slice_index_or told s None

-- the present order for a shard, by its number
abbrev pub order_at_shard : DriverModel → List (Option StreamId) → ℕ → Option Order
order_at_shard d streams s = option_and_then (order_of (base d) (record_of d)) (slice_index_or streams s None)

-- ---- slots that are ahead

-- the present order has this number
abbrev pub has_number : Option Order → ℕ → Bool
has_number order number = option_map_or (λ o. o.number == number) order false

-- the last order of a slot is none that this journal has sent: its number is above all of the log's, and not that of
-- the present order
abbrev pub is_slot_ahead : DriverModel → Option Order → SlotText → Bool
is_slot_ahead d order slot =
    nat_lt (base d + length (record_of d).log) (unwrap_or slot.last 0) && not (has_number order (unwrap_or slot.last 0))

-- the same of the slot of a shard, if one is told
abbrev pub is_shard_ahead : DriverModel → List (Option SlotText) → List (Option StreamId) → ℕ → Bool
is_shard_ahead d told streams s = option_map_or (is_slot_ahead d (order_at_shard d streams s)) (slot_at_shard told s) false

-- some slot is ahead, of a shard or of none
abbrev pub has_ahead : DriverModel → List (Option SlotText) → List (Option StreamId) → List SlotText → Bool
has_ahead d told streams unknown_shards =
    list_any (is_shard_ahead d told streams) (range_with_len 0 (length d.machine.placement.setup.shards))
    || list_any (is_slot_ahead d None) unknown_shards

-- ---- slots that differ

-- what is recorded of a shard at a server, with the base in a handover's number
abbrev pub recorded_cell : DriverModel → ℕ → ℕ → Cell
recorded_cell d s v = cell_above (base d) ((record_of d).place.cells s v)

-- the cell that the present order leads to
abbrev pub cell_after : Option Order → Cell → Option Cell
cell_after order c = option_and_then (λ o. led_to o.call.call c) order

-- what is told is what is recorded, or what the present order makes of that
abbrev pub tells_recorded : Setup → Option SlotText → Option Order → Cell → Bool
tells_recorded setup slot order c = tells_cell setup slot c || option_map_or (tells_cell setup slot) (cell_after order c) false

-- A server differs in a shard if it tells neither. What was recorded after the place at which it was read counts for
-- nothing.
abbrev pub differs : JournalState → ℕ → ℕ → List (Option SlotText) → List (Option StreamId) → ℕ → Bool
differs o v place told streams s =
    nat_le (recorded_at o.history s v) place
    && not (tells_recorded o.driver.machine.placement.setup (slot_at_shard told s) (order_at_shard o.driver streams s) (recorded_cell o.driver s v))

-- the shards in which it differs
abbrev pub differing : JournalState → ℕ → ℕ → List (Option SlotText) → List (Option StreamId) → List ℕ
differing o v place told streams =
    filter (differs o v place told streams) (range_with_len 0 (length o.driver.machine.placement.setup.shards))

-- a slot tells that there is nothing
abbrev pub is_nothing : CellKind → Bool
is_nothing kind.Absent = true
is_nothing kind.Prepared = false
is_nothing kind.Secondary = false
is_nothing kind.Primary = false
is_nothing kind.Forwarding = false

-- a slot tells something
abbrev pub tells_something : SlotText → Bool
tells_something slot = not (is_nothing slot.cell)

-- ---- the reply

-- the other party as it is told
abbrev pub told_party : PartyText → List Token
told_party party.Missing = []
told_party party.Null = name_member (codes "party") None
told_party (party.Name name) = text_member (codes "party") name.now

-- a slot as it is told: its cell, and in a handover the other party and the number
abbrev pub found_members : Option SlotText → List Token
found_members (Some slot) =
    text_member (codes "cell") (cell_word slot.cell)
    ++ told_party slot.party
    ++ option_map_or (number_member (codes "handover")) slot.handover []
found_members None = text_member (codes "cell") (cell_word kind.Absent)

-- a difference: the shard, what is recorded of it, and what is told
abbrev pub difference_members : Setup → List ℕ → Cell → Option SlotText → List Token
difference_members setup name c slot =
    text_member (codes "shard") name
    ++ object_member (codes "recorded") (cell_members setup (codes "cell") c)
    ++ object_member (codes "found") (found_members slot)

-- that of a shard
abbrev pub shard_difference : DriverModel → ℕ → List (Option SlotText) → ℕ → List Token
shard_difference d v told s =
    object (difference_members d.machine.placement.setup (shard_text d.machine.placement.setup s) (recorded_cell d s v) (slot_at_shard told s))

-- that of a shard that is not recorded, if the server has something of it
abbrev pub unknown_shard_difference : Setup → SlotText → List Token
unknown_shard_difference setup slot =
    if tells_something slot then object (difference_members setup slot.shard.now cell.Absent (Some slot)) else []

-- the differences of these shards and unknown shards, as a member
abbrev pub differences_member : DriverModel → ℕ → List (Option SlotText) → List ℕ → List SlotText → List Token
differences_member d v told shards unknown_shards =
    list_member (codes "slots") (flat_map (shard_difference d v told) shards ++ flat_map (unknown_shard_difference d.machine.placement.setup) unknown_shards)

-- what is found of a server, in a word
abbrev pub word_members : List ℕ → List ℕ → List Token
word_members name word = text_member (codes "server") name ++ text_member (codes "is") word

-- the same as a member
abbrev pub audited_member : List ℕ → List ℕ → List Token
audited_member name word = object_member (codes "audit") (word_members name word)

-- a server that differs: in which shards, and what else it has
abbrev pub differs_member : DriverModel → List ℕ → ℕ → List (Option SlotText) → List ℕ → List SlotText → List Token
differs_member d name v told shards unknown_shards =
    object_member (codes "audit")
    (word_members name (codes "differs") ++ differences_member d v told shards unknown_shards)

-- a server agrees if it differs in no shard and has nothing else
abbrev pub agrees : List ℕ → List SlotText → Bool
agrees [] unknown_shards = not (list_any tells_something unknown_shards)
agrees (s ∷ shards) unknown_shards = false

-- the same if it agrees
abbrev pub compared_member : DriverModel → List ℕ → ℕ → List (Option SlotText) → List ℕ → List SlotText → List Token
compared_member d name v told shards unknown_shards =
    if agrees shards unknown_shards then audited_member name (codes "agrees")
    else differs_member d name v told shards unknown_shards

-- what is found of a server, by the two sides of each shard and the unknown shards
abbrev pub audit_found : JournalState → List ℕ → ℕ → ℕ → List (Option SlotText) → List (Option StreamId)
    → List SlotText → List Token
audit_found o name v place told streams unknown_shards =
    if has_ahead o.driver told streams unknown_shards then audited_member name (codes "ahead")
    else compared_member o.driver name v told (differing o v place told streams) unknown_shards

-- what is found of a server by its slots, which were read at a place: they are ahead, or agree with what is recorded,
-- or differ from it
abbrev pub audit_member : JournalState → List ℕ → ℕ → ℕ → List SlotText → List Token
audit_member o name v place slots =
    audit_found o name v place (audited_slots o.driver.machine.placement.setup slots) (streams_to o.driver v)
    (filter (is_unknown_shard o.driver.machine.placement.setup) slots)

-- the reply to `audit` of the server with a name: this, or that there is no such server
abbrev pub audit_reply : JournalState → List ℕ → ℕ → List SlotText → List Token
audit_reply o name place slots =
    option_map_or (λ v. audit_member o name v place slots) (server_named o.driver.machine.placement.setup name)
    (told_bad (bad.UnknownName line.Line at.Server))
