-- Orders and publications as a journal tells them: the letters and the notices of the network's controller, in JSON.
-- `outgoing_text` is internal: you need not read it for the public contracts.
use Rattle.std.specs.Prelude.{ℕ, List, [], ◌∷◌, ◌++◌, Option, Some, None, codes, length, option_map, if◌then◌else◌}
use Rattle.std.specs.List.{flat_map, range_with_len}
use Rattle.std.specs.Option.{option_map_or}
use Rattle.json.specs.Token.{Token, string}
use Rattle.sm_server.specs.declared.call.Cell.{Cell}
use Rattle.sm_server.specs.Cell.{is_absent}
use Rattle.sm_placement.specs.declared.lead.Lead.{Lead}
use Rattle.sm_placement.specs.declared.lead.Lead.TheVariants.{Gone, At, Ready, Handing, Handed}
use Rattle.sm_placement.specs.Lead.{lead_of}
use Rattle.sm_placement.specs.Setup.{Setup}
use Rattle.sm_reservation.specs.declared.stream_id.StreamId.{StreamId}
use Rattle.laws_network.specs.Controller.{Letter, Notice}
use Rattle.laws_network.specs.Net.{Order}
use Rattle.laws_network.specs.World.{Publication}
use Rattle.sm_driver.specs.Driver.{DriverModel, base, order_number, record_of}
use Rattle.sm_driver.specs.Orders.{NetMessage, OfOrder, OfPublication, message_of, net_order, net_publication}
use Rattle.sm_driver.specs.declared.order.StreamMessage.{StreamMessage}
use Rattle.sm_driver.specs.declared.order.StreamMessage.TheVariants as outgoing
use Rattle.smpland_lines.specs.Members.{list_member, name_member, number_member, object, server_text}
use Rattle.smpland_state.specs.Bits.{bits_member}
use Rattle.smpland_state.specs.Calls.{asked_members, published_members, size_members}

-- an order as it leaves a driver: the network's letter
abbrev pub letter_by : DriverModel → Order → Letter
letter_by d o = record {
  order = o;
  journal = d.journal;
  fence = d.fence;
  load = (record_of d).sizes.load o.call.shard;
  room = (record_of d).sizes.room o.call.server;
}

-- a publication as it leaves a driver: the network's notice
abbrev pub notice_by : DriverModel → Publication → Notice
notice_by d p = record { publication = p; journal = d.journal; fence = d.fence }

-- of which stream a message is, under this journal, epoch and fence, and its number
abbrev pub head_members : ℕ → ℕ → ℕ → StreamId → ℕ → List Token
head_members journal epoch fence id number =
    bits_member (codes "journal") journal
    ++ number_member (codes "epoch") epoch
    ++ number_member (codes "fence") fence
    ++ number_member (codes "plan") id.plan
    ++ number_member (codes "stream") id.stream
    ++ number_member (codes "number") number

-- the server that has a shard's data under a lead: in a handover the old owner until the new one has taken over
abbrev pub owner_under : Option Lead → Option ℕ
owner_under (Some (At u)) = Some u
owner_under (Some (Ready u v)) = Some u
owner_under (Some (Handing u v)) = Some u
owner_under (Some (Handed u v)) = Some v
owner_under (Some Gone) = None
owner_under None = None

-- the name of a server, if it has a replica, or a place for one
abbrev pub replica_text : Setup → (ℕ → Cell) → ℕ → List Token
replica_text setup row v = if is_absent (row v) then [] else string (server_text setup v) ∷ []

-- all servers that have one, by these cells of a shard
abbrev pub replicas_member : Setup → (ℕ → Cell) → List Token
replicas_member setup row = list_member (codes "replicas") (flat_map (replica_text setup row) (range_with_len 0 (length setup.servers)))

-- the server that has the shard's data, and all that have a replica or a place for one
abbrev pub holder_members : Setup → (ℕ → Cell) → List Token
holder_members setup row =
    name_member (codes "primary") (option_map (server_text setup) (owner_under (lead_of (length setup.servers) row)))
    ++ replicas_member setup row

-- an order of a driver
abbrev pub letter_text : DriverModel → Letter → List Token
letter_text d l = object (
    head_members l.journal d.epoch l.fence l.order.stream l.order.number
    ++ asked_members d.machine.placement.setup l.order.call
    ++ size_members l.load l.room
    ++ holder_members d.machine.placement.setup ((record_of d).place.cells l.order.call.shard)
    )

-- a publication under a number
abbrev pub notice_text : DriverModel → Notice → ℕ → List Token
notice_text d n number = object (
    head_members n.journal d.epoch n.fence n.publication.stream number
    ++ published_members d.machine.placement.setup n.publication.shard n.publication.entry
    )

-- an order or a publication of a stream
abbrev pub message_text : DriverModel → StreamId → NetMessage → List Token
message_text d id (OfOrder o) = letter_text d (letter_by d o)
message_text d id (OfPublication p) = notice_text d (notice_by d p) (order_number d id)

-- an order or a publication as it leaves a driver, under its own number
abbrev pub outgoing_text : DriverModel → StreamMessage → List Token
outgoing_text d (outgoing.Order o) = letter_text d (letter_by d (net_order o))
outgoing_text d (outgoing.Publication p) = notice_text d (notice_by d (net_publication p)) p.number

-- the order or the publication that a stream stands before, if it stands before one
abbrev pub stream_message : DriverModel → StreamId → List Token
stream_message d id = option_map_or (message_text d id) (message_of (base d) (record_of d) id) []

-- those of streams, as a member
abbrev pub orders_member : DriverModel → List StreamId → List Token
orders_member d ids = list_member (codes "orders") (flat_map (stream_message d) ids)
