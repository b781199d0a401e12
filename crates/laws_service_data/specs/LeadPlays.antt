-- A worked play of orders for a shard's lead: a primary becomes a secondary, and its secondary the primary.
use Rattle.std.specs.Prelude.{◌≡◌, ◌++◌, Some, List, [], ◌∷◌}
use Rattle.sm_server.specs.declared.call.Role.TheVariants as role
use Rattle.sm_placement.specs.declared.lead.Lead.TheVariants.{At}
use Rattle.sm_reservation.specs.declared.right.PlainCell.TheVariants as plain
use Rattle.sm_plan_code.specs.declared.instruction.Instr.TheVariants as instr
use Rattle.sm_plan_code.specs.Plan.{PlanModel}
use Rattle.sm_protocol.specs.State.{stream_id}
use Rattle.sm_protocol.specs.Happens.{Begin}
use Rattle.sm_agent.specs.declared.request.Routing.TheVariants.{Execute}
use Rattle.laws_network.specs.Fleet.{HearOwner, Make, Publish, Routed, SendPublication, Serve, fleet_comes}
use Rattle.laws_data.specs.Shard.{Ends, Succeeds}
use Rattle.laws_service_data.specs.Joined.{Joined, JoinedEvent, OfFleet, joined_run}
use Rattle.laws_service_data.specs.Duties.{IsLeading}
use Rattle.laws_service_data.specs.NumbersLater.{IsAboveViews, KeepDutiesIfLater}
use Rattle.laws_service_data.specs.Plays.{FIRST, FIRST_WRITE, order_way}

-- Shard 0 goes from server 0 to server 2, which has a secondary: no server is listed while there is no primary.
abbrev pub lead_plan : PlanModel
lead_plan = record {
  budget = 2;
  streams = record {
    budget = 2;
    retries = 0;
    holds = record {
      cells = record { shard = 0; server = 2; state = plain.Secondary } ∷ [];
      crowns = record { shard = 0; lead = At 0; listed = Some 0 } ∷ [];
      room = [];
      spare = [];
    };
    code = instr.Unlist 0 ∷ instr.Change 0 0 role.Secondary ∷ instr.Change 0 2 role.Primary ∷ instr.Publish 0 ∷ [];
  } ∷ [];
  signals = [];
}

-- The plan begins, and the map shows no server.
abbrev pub UNLISTED : List JoinedEvent
UNLISTED =
    OfFleet (Make (Begin lead_plan)) [] ∷ OfFleet (SendPublication 0 (stream_id 0 0)) []
    ∷ OfFleet (Publish 0) [] ∷ OfFleet (HearOwner 0) [] ∷ []

-- By the order 2 server 0 ceases to be the primary, and by the order 3 server 2 becomes it, with the copy of server 0.
abbrev pub LEAD_MOVED : List JoinedEvent
LEAD_MOVED = UNLISTED ++ (order_way 0 [] (Ends 2 ∷ []) ++ order_way 1 [] (Succeeds 2 3 0 ∷ []))

-- so it comes behind an acknowledged write
abbrev pub WRITE_AND_MOVE : List JoinedEvent
WRITE_AND_MOVE = FIRST_WRITE ++ LEAD_MOVED

-- what there is then
abbrev pub MOVED : Joined
MOVED = joined_run WRITE_AND_MOVE FIRST

-- Servers keep their duties, but for the numbers of orders: then server 2 executes requests, and leads.
pub record LeadMoves : Type 0 where
  pub above : IsAboveViews FIRST
  pub kept : KeepDutiesIfLater 0 FIRST WRITE_AND_MOVE
  pub ended : MOVED.shard.ended ≡ 2
  pub view : MOVED.shard.view ≡ 3
  pub leading : IsLeading MOVED.shard 2
  pub executes : (fleet_comes MOVED.fleet (Serve 0 2 0)).0 ≡ Routed 0 2 Execute
