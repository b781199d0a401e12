-- Where a request is executed.
use Rattle.std.specs.Prelude.{ℕ, ◌==◌, Bool, not, ◌&&◌, ◌||◌, nat_lt, Option, Some, None, is_some, if◌then◌else◌}
use Rattle.sm_server.specs.declared.call.Cell.{Cell}
use Rattle.sm_server.specs.declared.call.Cell.TheVariants.{Prepared, Primary, Forwarding}
use Rattle.sm_agent.specs.declared.base.Base.{Base}
use Rattle.sm_agent.specs.declared.slot.Slot.{Slot}
use Rattle.sm_agent.specs.declared.request.Relay.{Relay}
use Rattle.sm_agent.specs.declared.request.Request.{Request}
use Rattle.sm_agent.specs.declared.request.Request.TheVariants.{Passed}
use Rattle.sm_agent.specs.declared.request.Routing.{Routing}
use Rattle.sm_agent.specs.declared.request.Routing.TheVariants.{Execute, PassOn, NotHere, NotYet}
use Rattle.sm_agent.specs.Base.{lacks_slots}

-- an old owner passes requests on together with its cut
abbrev pub passed_on : ℕ → ℕ → Bool → Option ℕ → Routing
passed_on to number frozen None = NotYet
passed_on to number frozen (Some cut) = if frozen then NotYet else PassOn to number cut

-- A new owner executes what the old one passes on in this handover, once it has applied all writes up to the cut.
abbrev pub received : ℕ → ℕ → Bool → ℕ → Relay → Routing
received from number frozen applied relay =
    if not (relay.from == from && relay.handover == number) then NotHere
    else if frozen || nat_lt applied relay.cut then NotYet
    else Execute

-- Where a request is executed, by the server's cell. A server that is frozen neither passes a request on nor executes
-- one that was. At a primary, whatever is at work ends its executing: requests wait for it.
abbrev by_cell : Cell → Slot → Bool → ℕ → Request → Routing
by_cell Primary slot frozen applied request = if is_some slot.at_work then NotYet else Execute
by_cell (Forwarding to number) slot frozen applied request = passed_on to number frozen slot.cut
by_cell (Prepared from number) slot frozen applied (Passed relay) = received from number frozen applied relay
by_cell _ slot frozen applied request = NotHere

-- Where a request is executed, at a server that has applied the shard's writes up to a position.
abbrev pub routed : Base → Slot → ℕ → Request → Routing
routed base slot applied request =
    if lacks_slots base then NotHere else by_cell slot.cell slot base.fenced applied request
