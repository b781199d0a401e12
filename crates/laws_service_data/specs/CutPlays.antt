-- A worked play of a cut: the old owner makes it at the end of its list, and the new one takes over there.
use Rattle.std.specs.Prelude.{◌≡◌, ◌++◌, List, [], ◌∷◌, Some}
use Rattle.sm_server.specs.declared.call.Call.TheVariants.{PrepareDrop}
use Rattle.sm_server.specs.declared.call.Cell.TheVariants.{Prepared}
use Rattle.sm_protocol.specs.State.{stream_id}
use Rattle.sm_protocol.specs.Happens.{Begin}
use Rattle.laws_network.specs.Net.{Order}
use Rattle.laws_network.specs.Fleet.{Commit, Committed, HearServer, Judge, Make, Receive, SendOrder, Serve, fleet_comes}
use Rattle.laws_network.specs.FleetPlays.{example_plan}
use Rattle.laws_data.specs.Shard.{Copies, Joins}
use Rattle.laws_service_data.specs.Joined.{Joined, JoinedEvent, OfData, OfFleet, joined_comes, joined_run}
use Rattle.laws_service_data.specs.Duties.{KeepDuties, KeepsDuties, cell_at}
use Rattle.laws_service_data.specs.Laws.{ForwardsAlong}
use Rattle.laws_service_data.specs.CutsTold.{TakesOverBy}
use Rattle.laws_service_data.specs.Plays.{FIRST, FIRST_WRITE, list_with, order_way}

-- The handover to server 1 begins behind the first write, and the order for the cut is at work.
abbrev pub UNTIL_CUT : List JoinedEvent
UNTIL_CUT =
    FIRST_WRITE
    ++ (OfFleet (Make (Begin (example_plan 0 0 1 4))) []
    ∷ (order_way 0 (OfData (Copies 1) ∷ []) (Joins 1 ∷ [])
    ++ (OfFleet (SendOrder 0 (stream_id 0 0)) [] ∷ OfFleet (Judge 1) [] ∷ [])))

-- what there is before the cut, which is made at the end of a list of two entries
abbrev pub UNCUT : Joined
UNCUT = joined_run UNTIL_CUT FIRST

-- once it is made
abbrev pub JUST_CUT : Joined
JUST_CUT = joined_comes UNCUT (OfFleet (Commit 1 2) [])

-- The answer comes, and a request is passed on.
abbrev pub PASSED_ON : List JoinedEvent
PASSED_ON = OfFleet (HearServer 1) [] ∷ OfFleet (Serve 0 0 0) [] ∷ []

-- Servers keep their duties, and the old owner forwards and leads, until the new one takes over at the end of its copy.
pub record HandoverCutsAtEnd : Type 0 where
  pub kept : KeepDuties 0 FIRST UNTIL_CUT
  pub order : Order
  pub commits : (fleet_comes UNCUT.fleet (Commit 1 2)).0 ≡ Committed order
  pub call : order.call.call ≡ PrepareDrop 1 1
  pub kept_cut : KeepsDuties 0 UNCUT (OfFleet (Commit 1 2) [])
  pub list : JUST_CUT.shard.copies 0 ≡ Some (list_with (7 ∷ []))
  pub kept_then : KeepDuties 0 JUST_CUT PASSED_ON
  pub forwards : ForwardsAlong 0 0 JUST_CUT PASSED_ON
  pub prepared : cell_at (joined_run PASSED_ON JUST_CUT).fleet 0 1 ≡ Prepared 0 1
  pub takes : TakesOverBy (joined_run PASSED_ON JUST_CUT).fleet 0 1 2 (Receive 0 2)
  pub copy : (joined_run PASSED_ON JUST_CUT).shard.copies 1 ≡ Some (list_with (7 ∷ []))
