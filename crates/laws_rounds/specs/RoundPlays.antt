-- A worked play of rounds: a whole handover, one round for each step that its stream has left.
use Rattle.std.specs.Prelude.{◌≡◌, true, false, List, [], ◌∷◌}
use Rattle.sm_placement.specs.Setup.{Setup}
use Rattle.sm_protocol.specs.State.{is_unfinished, stream_id}
use Rattle.sm_protocol.specs.Happens.{Begin, Step}
use Rattle.laws_network.specs.Fleet.{Fleet, FleetEvent, Make, Seal, Serve, controller, fleet_run}
use Rattle.laws_network.specs.FleetPlays.{example_fleet, example_plan, order_trip, publication_trip}
use Rattle.laws_rounds.specs.Round.{AreRounds, after_rounds, steps_left}

-- a handover of shard 0 from server 0 to server 1 has started
abbrev pub started_handover : Fleet
started_handover = fleet_run (Make (Begin (example_plan 0 0 1 4)) ∷ []) example_fleet

-- In each round one message makes its way, and in the third one the new owner hears the cut before.
abbrev pub handover_rounds : List (List FleetEvent)
handover_rounds =
    order_trip 0 (stream_id 0 0)
    ∷ order_trip 1 (stream_id 0 0)
    ∷ (Serve 0 0 0 ∷ Seal 0 ∷ order_trip 2 (stream_id 0 0))
    ∷ publication_trip 0 (stream_id 0 0)
    ∷ order_trip 3 (stream_id 0 0)
    ∷ (Make (Step (stream_id 0 0)) ∷ [])
    ∷ []

-- these are rounds, as many as there are steps left, and the plan is done after them
pub record EndsInSixRounds : Type 0 where
  pub rounds : (setup : Setup) → AreRounds setup started_handover handover_rounds
  pub left : steps_left (controller started_handover).w 0 ≡ 6
  pub before : is_unfinished (controller started_handover).w 0 ≡ true
  pub after : is_unfinished (controller (after_rounds handover_rounds started_handover)).w 0 ≡ false
