-- A server's verdict on an order, and that of the map's owner on a publication.
use Rattle.std.specs.Prelude.{ℕ, ◌==◌, true, Result, Ok, Err, nat_lt, if◌then◌else◌}
use Rattle.sm_server.specs.declared.call.Cell.{Cell}
use Rattle.sm_server.specs.declared.call.Call.{Call}
use Rattle.sm_server.specs.declared.call.Refusal.{Refusal}
use Rattle.sm_server.specs.Call.{served}
use Rattle.sm_placement.specs.declared.entry.Entry.{Entry}
use Rattle.laws_network.specs.declared.delivery.Delivery.{Delivery}

-- an order with a new number is served or refused
abbrev pub by_served : Result Cell Refusal → Delivery
by_served (Ok next) = Delivery.Served next
by_served (Err why) = Delivery.Refused why

-- An order with a lower number than the last one that had an effect on the cell has none; one with that number has had
-- its own before; and one with a higher number is served or refused, by a server that is up.
abbrev pub delivery_of : Cell → ℕ → ℕ → ℕ → ℕ → Call → Delivery
delivery_of cell last number free_room load call =
    if nat_lt number last then Delivery.Old
    else if number == last then Delivery.Again
    else by_served (served cell free_room load true call)

-- what the map shows once an entry has come to its owner: the one with the higher version
abbrev pub newer : Entry → Entry → Entry
newer shown sent = if nat_lt shown.version sent.version then sent else shown
