-- Orders and publications as they leave the driver: those of the network.
-- `handover_of` is internal: you need not read it for the public contracts.
use Rattle.std.specs.Prelude.{ℕ, ◌+◌, ◌*◌, ◌^◌, ◌||◌, Bool, List, Option, Some, None, is_some, length, option_map}
use Rattle.std.specs.Prelude.{if◌then◌else◌}
use Rattle.std.specs.List.{filter_map, flat_map, range_with_len}
use Rattle.std.specs.Option.{option_or}
use Rattle.sm_server.specs.declared.call.Call.{Call}
use Rattle.sm_server.specs.declared.call.Call.TheVariants.{PrepareAdd, PrepareDrop}
use Rattle.sm_reservation.specs.declared.stream_id.StreamId.{StreamId}
use Rattle.sm_protocol.specs.State.{State, stream_count, stream_id}
use Rattle.sm_protocol.specs.Next.{next_call_of, next_entry_of, since_of}
use Rattle.laws_network.specs.Net.{Order as NetOrder, order_of}
use Rattle.laws_network.specs.World.{Publication as NetPublication, publication_of}
use Rattle.sm_driver.specs.declared.order.StreamOrder.{StreamOrder}
use Rattle.sm_driver.specs.declared.order.StreamPublication.{StreamPublication}
use Rattle.sm_driver.specs.declared.order.StreamMessage.{StreamMessage}
use Rattle.sm_driver.specs.declared.order.StreamMessage.TheVariants as message

-- an order is the network's
abbrev pub net_order : StreamOrder → NetOrder
net_order o = record { stream = o.stream; at = o.at; call = o.call; number = o.number }

-- and so is a publication
abbrev pub net_publication : StreamPublication → NetPublication
net_publication p = record { stream = p.stream; shard = p.shard; entry = p.entry }

-- An order or a publication, as the network has them.
pub data NetMessage : Type 0 where
  OfOrder : (order : NetOrder) → NetMessage
  OfPublication : (publication : NetPublication) → NetMessage

-- the one or the other is the network's
abbrev pub net_message : StreamMessage → NetMessage
net_message (message.Order o) = OfOrder (net_order o)
net_message (message.Publication p) = OfPublication (net_publication p)

-- the order or the publication that a stream stands before
abbrev pub message_of : ℕ → State → StreamId → Option NetMessage
message_of base w id = option_or (option_map OfOrder (order_of base w id)) (option_map OfPublication (publication_of base w id))

-- the number of the order, or of the publication, that a stream stands before
abbrev pub number_above : ℕ → State → StreamId → ℕ
number_above base w id = base + since_of w id + 1

-- the number of an order or a publication, as it leaves the driver
abbrev pub message_number : StreamMessage → ℕ
message_number (message.Order o) = o.number
message_number (message.Publication p) = p.number

-- a stream stands before a call or an entry of the published map, so that its next step waits for an answer
abbrev pub awaits : State → StreamId → Bool
awaits w id = is_some (next_call_of w id) || is_some (next_entry_of w id)

-- the stream, if it does
abbrev pub awaiting : State → StreamId → Option StreamId
awaiting w id = if awaits w id then Some id else None

-- the streams of a plan that do
abbrev pub awaiting_in : State → ℕ → List StreamId
awaiting_in w k = filter_map (λ i. awaiting w (stream_id k i)) (range_with_len 0 (stream_count w k))

-- those of all plans, by plan, then by stream
abbrev pub awaiting_of : State → List StreamId
awaiting_of w = flat_map (awaiting_in w) (range_with_len 0 (length w.plans))

-- the handover number of a call, 0 if it has none
abbrev pub handover_of : Call → ℕ
handover_of (PrepareAdd owner number) = number
handover_of (PrepareDrop new_owner number) = number
handover_of _ = 0

-- each epoch's numbers begin above all of the one before: twice the longest log apart
abbrev pub epoch_base : ℕ → ℕ
epoch_base epoch = epoch * 2097152

-- above all bases: there are 2^32 epochs
abbrev pub bases_end : ℕ
bases_end = 2 ^ 53
