-- Worked plays, computed by the definitions.
use Rattle.std.specs.Prelude.{◌≡◌, refl, ℕ, ◌++◌, Bool, true, false, Some, None, List, [], ◌∷◌, length, map, replicate, slice_index_or}
use Rattle.std.specs.List.{range_with_len}
use Rattle.sm_server.specs.declared.call.Cell.{Cell}
use Rattle.sm_server.specs.declared.call.Cell.TheVariants.{Absent, Prepared, Secondary, Primary, Forwarding}
use Rattle.sm_server.specs.declared.call.Role.TheVariants as role
use Rattle.sm_placement.specs.declared.lead.Lead.TheVariants.{At}
use Rattle.sm_placement.specs.Setup.{Sizes}
use Rattle.sm_placement.specs.Place.{Place}
use Rattle.sm_reservation.specs.declared.right.PlainCell.TheVariants as plain
use Rattle.sm_reservation.specs.declared.right.Key.TheVariants as key
use Rattle.sm_reservation.specs.Rights.{Rights, no_rights}
use Rattle.sm_plan_code.specs.declared.instruction.Instr.{Instr}
use Rattle.sm_plan_code.specs.declared.instruction.Instr.TheVariants.{PrepareAdd, PrepareDrop, Add, Drop, Publish, Signal, Wait}
use Rattle.sm_reservation.specs.HoldOf.{hold_of}
use Rattle.sm_verifier.specs.FirstHolding.{first_holding}
use Rattle.sm_plan_code.specs.Plan.{PlanModel}
use Rattle.sm_verifier.specs.declared.admission.Holding.TheVariants as holding
use Rattle.sm_task_controller.specs.declared.decision.Denied.TheVariants as denied
use Rattle.sm_protocol.specs.declared.event.Event.{Event}
use Rattle.sm_protocol.specs.declared.event.Event.TheVariants as event
use Rattle.sm_protocol.specs.declared.event.Played.{Played}
use Rattle.sm_protocol.specs.declared.event.Played.TheVariants as played
use Rattle.sm_protocol.specs.declared.event.BeginFault.TheVariants as fault
use Rattle.sm_protocol.specs.declared.event.RefillFault.TheVariants as refill
use Rattle.sm_protocol.specs.State.{State, opened, stream_id}
use Rattle.sm_protocol.specs.Steps.{Outcome, Answered}
use Rattle.sm_protocol.specs.Hand.{Game, play, plays}

abbrev sizes : Sizes
sizes = record {
  servers = 3;
  shards = 2;
  room = λ v. slice_index_or (10 ∷ 10 ∷ 4 ∷ []) v 0;
  load = λ s. slice_index_or (4 ∷ 6 ∷ []) s 0;
  floor = λ s. slice_index_or (1 ∷ 1 ∷ []) s 0;
}

abbrev cells : List (List Cell)
cells = (Primary ∷ Absent ∷ Secondary ∷ []) ∷ (Absent ∷ Primary ∷ Absent ∷ []) ∷ []

abbrev place : Place
place = record {
  cells = λ s v. slice_index_or (slice_index_or cells s []) v Absent;
  last = λ s v. 0;
  down = λ v. false;
  listed = λ s. slice_index_or (Some 0 ∷ Some 1 ∷ []) s None;
  version = λ s. 0;
  limit = 1;
}

-- the handover of a shard's primary from u to v
abbrev handover : ℕ → ℕ → ℕ → List Instr
handover s u v = PrepareAdd s v u ∷ PrepareDrop s u v ∷ Add s v role.Primary ∷ Publish s ∷ Drop s u ∷ []

-- what it needs
abbrev for_handover : ℕ → ℕ → ℕ → ℕ → Rights
for_handover s u v load = record {
  cells = record { shard = s; server = v; state = plain.Absent } ∷ [];
  crowns = record { shard = s; lead = At u; listed = Some u } ∷ [];
  room = record { server = v; amount = load } ∷ [];
  spare = [];
}

abbrev one_stream : ℕ → ℕ → ℕ → Rights → List Instr → PlanModel
one_stream plan budget retries holds code = record {
  budget = plan;
  streams = record { budget = budget; retries = retries; holds = holds; code = code } ∷ [];
  signals = [];
}

abbrev plan_m : PlanModel
plan_m = one_stream 4 4 0 (for_handover 0 0 1 4) (handover 0 0 1)

abbrev plan_t : PlanModel
plan_t = one_stream 4 4 0 (for_handover 1 1 0 6) (handover 1 1 0)

-- the game at the opening, with plans in hand
abbrev game : ℕ → List PlanModel → Game
game room plans = record {
  state = opened sizes place room;
  hand = record { tokens = []; permits = []; tickets = []; plans = map (λ plan. Some plan) plans };
}

abbrev step : ℕ → Event
step k = event.Step (stream_id k 0)

abbrev answers : List Played → List Outcome
answers ps = map (λ a. Answered a) ps

-- what each server has of a shard
abbrev row : State → ℕ → List Cell
row w s = map (λ v. w.place.cells s v) (range_with_len 0 3)

-- the game after the events has these cells of the shard
abbrev shows : List Event → Game → ℕ → List Cell
shows es g s = row (play es g).state s

abbrev steps : ℕ → ℕ → List Event
steps n k = replicate n (step k)

abbrev moves : ℕ → List Played
moves n = replicate n played.Moved

-- ---- two restarts beside a handover, and one that it denies

restarts : plays (event.Begin 0 ∷ event.Approve 2 ∷ event.Approve 0 ∷ event.Done 2 ∷ event.Approve 2 ∷ []) (game 65536 (plan_m ∷ []))
    ≡ answers (played.Begun 0 ∷ played.Approved ∷ played.Denied (denied.Engaged (stream_id 0 0)) ∷ played.Up ∷ played.Approved ∷ [])
unfolding first_holding hold_of
restarts = refl

-- the other party of a prepare is engaged
abbrev plan_cancelled : PlanModel
plan_cancelled = one_stream 2 2 0 (for_handover 0 0 1 4) (PrepareAdd 0 1 0 ∷ Drop 0 1 ∷ [])

other_party : plays (event.Begin 0 ∷ event.Approve 0 ∷ []) (game 65536 (plan_cancelled ∷ []))
    ≡ answers (played.Begun 0 ∷ played.Denied (denied.Engaged (stream_id 0 0)) ∷ [])
unfolding first_holding hold_of
other_party = refl

-- a spare replica that a stream holds is not free for a restart
abbrev plan_of_secondaries : PlanModel
plan_of_secondaries = one_stream 2 2 0 (record {
  cells = record { shard = 0; server = 1; state = plain.Absent } ∷ record { shard = 0; server = 2; state = plain.Secondary } ∷ [];
  crowns = [];
  room = record { server = 1; amount = 4 } ∷ [];
  spare = record { shard = 0; amount = 1 } ∷ [];
}) (Drop 0 2 ∷ Add 0 1 role.Secondary ∷ [])

reserved : plays (event.Begin 0 ∷ event.Approve 0 ∷ []) (game 65536 (plan_of_secondaries ∷ []))
    ≡ answers (played.Begun 0 ∷ played.Denied (denied.ShardCap 0) ∷ [])
unfolding first_holding hold_of
reserved = refl

no_plan : plays (event.Approve 1 ∷ []) (game 65536 []) ≡ answers (played.Denied (denied.ShardCap 1) ∷ [])
unfolding first_holding hold_of
no_plan = refl

-- ---- requests that are passed on

-- the handover there and back, and one that is prepared and cancelled
abbrev plan_there_and_back : PlanModel
plan_there_and_back = one_stream 10 10 0 (for_handover 0 0 1 4) (handover 0 0 1 ++ handover 0 1 0 ++ PrepareAdd 0 1 0 ∷ Drop 0 1 ∷ [])

abbrev events_there_and_back : List Event
events_there_and_back = event.Begin 0 ∷ steps 2 0 ++ event.Arrive 0 0 ∷ steps 9 0 ++ event.PassOn 2 ∷ event.Arrive 0 0 ∷ []

there_and_back : plays events_there_and_back (game 65536 (plan_there_and_back ∷ []))
    ≡ answers (played.Begun 0 ∷ moves 2 ++ played.Passed 1 1 2 ∷ moves 9 ++ played.NotOwner ∷ played.Executed 0 ∷ [])
unfolding first_holding hold_of
there_and_back = refl

there_and_back_shows : shows events_there_and_back (game 65536 (plan_there_and_back ∷ [])) 0 ≡ Primary ∷ Prepared 0 3 ∷ Secondary ∷ []
unfolding first_holding hold_of
there_and_back_shows = refl

abbrev events_passed : List Event
events_passed = event.Begin 0 ∷ steps 2 0 ++ event.Arrive 0 0 ∷ event.PassOn 2 ∷ event.Arrive 0 1 ∷ event.PassOn 2 ∷ []

passed : plays events_passed (game 65536 (plan_m ∷ []))
    ≡ answers (played.Begun 0 ∷ moves 2 ++ played.Passed 1 1 2 ∷ played.Executed 1 ∷ played.NotOwner ∷ played.Unknown ∷ [])
unfolding first_holding hold_of
passed = refl

passed_shows : shows events_passed (game 65536 (plan_m ∷ [])) 0 ≡ Forwarding 1 1 ∷ Prepared 0 1 ∷ Secondary ∷ []
unfolding first_holding hold_of
passed_shows = refl

-- ---- plans at their ends

-- a stream without code ends once, and is recorded once
abbrev empty_stream : PlanModel
empty_stream = one_stream 0 0 0 no_rights []

empty : plays (event.Begin 0 ∷ steps 2 0) (game 65536 (empty_stream ∷ [])) ≡ answers (played.Begun 0 ∷ played.Done ∷ played.Done ∷ [])
unfolding first_holding hold_of
empty = refl

empty_log : length (play (event.Begin 0 ∷ steps 2 0) (game 65536 (empty_stream ∷ []))).state.log ≡ 1
unfolding first_holding hold_of
empty_log = refl

handed : plays (event.Begin 0 ∷ steps 6 0) (game 6 (plan_m ∷ [])) ≡ answers (played.Begun 0 ∷ moves 5 ++ played.Done ∷ [])
unfolding first_holding hold_of
handed = refl

handed_shows : shows (event.Begin 0 ∷ steps 6 0) (game 6 (plan_m ∷ [])) 0 ≡ Absent ∷ Primary ∷ Secondary ∷ []
unfolding first_holding hold_of
handed_shows = refl

-- ---- the log's last places

too_short : plays (event.Begin 0 ∷ []) (game 5 (plan_m ∷ [])) ≡ answers (played.NotBegun fault.LogFull ∷ [])
unfolding first_holding hold_of
too_short = refl

one_request : plays (event.Arrive 0 0 ∷ event.Arrive 0 0 ∷ []) (game 1 []) ≡ answers (played.Executed 0 ∷ played.LogFull ∷ [])
unfolding first_holding hold_of
one_request = refl

six_places : plays (event.Begin 0 ∷ event.Arrive 0 0 ∷ []) (game 6 (plan_m ∷ [])) ≡ answers (played.Begun 0 ∷ played.LogFull ∷ [])
unfolding first_holding hold_of
six_places = refl

seven_places : plays (event.Begin 0 ∷ event.Approve 2 ∷ event.Arrive 0 0 ∷ []) (game 7 (plan_m ∷ []))
    ≡ answers (played.Begun 0 ∷ played.Denied denied.LogFull ∷ played.Executed 0 ∷ [])
unfolding first_holding hold_of
seven_places = refl

eight_places : plays (event.Begin 0 ∷ event.Approve 2 ∷ []) (game 8 (plan_m ∷ [])) ≡ answers (played.Begun 0 ∷ played.Approved ∷ [])
unfolding first_holding hold_of
eight_places = refl

-- ---- lost calls

abbrev lose : Bool → Event
lose after = event.Lose (stream_id 0 0) after

abbrev plan_with_a_retry : PlanModel
plan_with_a_retry = one_stream 5 4 1 (for_handover 0 0 1 4) (handover 0 0 1)

answer_lost : plays (event.Begin 0 ∷ lose true ∷ steps 6 0) (game 7 (plan_with_a_retry ∷ []))
    ≡ answers (played.Begun 0 ∷ played.Lost ∷ moves 5 ++ played.Done ∷ [])
unfolding first_holding hold_of
answer_lost = refl

answer_lost_shows : shows (event.Begin 0 ∷ lose true ∷ steps 6 0) (game 7 (plan_with_a_retry ∷ [])) 0 ≡ Absent ∷ Primary ∷ Secondary ∷ []
unfolding first_holding hold_of
answer_lost_shows = refl

answer_lost_full : plays (event.Begin 0 ∷ []) (game 6 (plan_with_a_retry ∷ [])) ≡ answers (played.NotBegun fault.LogFull ∷ [])
unfolding first_holding hold_of
answer_lost_full = refl

abbrev events_refilled : List Event
events_refilled = event.Begin 0 ∷ lose false ∷ steps 5 0 ++ event.Refill (stream_id 0 0) 1 ∷ steps 2 0 ++ event.Refill (stream_id 0 0) 1 ∷ []

refilled : plays events_refilled (game 65536 (plan_m ∷ []))
    ≡ answers (played.Begun 0 ∷ played.Lost ∷ moves 4 ++ played.Spent ∷ played.Refilled ∷ played.Moved ∷ played.Done ∷ played.RefillRefused refill.Ended ∷ [])
unfolding first_holding hold_of
refilled = refl

-- ---- several plans

abbrev two_plans : List Event
two_plans = event.Begin 0 ∷ event.Begin 1 ∷ step 0 ∷ event.Approve 2 ∷ event.Approve 0 ∷ []

beside : plays two_plans (game 65536 (plan_m ∷ plan_t ∷ []))
    ≡ answers (played.Begun 0 ∷ played.Begun 1 ∷ played.Moved ∷ played.Approved ∷ played.Denied (denied.Engaged (stream_id 0 0)) ∷ [])
unfolding first_holding hold_of
beside = refl

taken : plays (event.Begin 0 ∷ event.Begin 1 ∷ step 0 ∷ event.Begin 1 ∷ event.Begin 0 ∷ []) (game 65536 (plan_m ∷ plan_m ∷ []))
    ≡ answers (played.Begun 0 ∷ played.NotBegun (fault.Holding (holding.Taken (key.CellRight 0 1))) ∷ played.Moved
    ∷ played.NotBegun (fault.Holding (holding.Untrue (key.CellRight 0 1))) ∷ played.Unknown ∷ [])
unfolding first_holding hold_of
taken = refl

-- sixteen plans run, and the seventeenth starts once one of them has ended
seventeen : plays (map event.Begin (range_with_len 0 17) ++ step 0 ∷ event.Begin 16 ∷ []) (game 65536 (replicate 17 empty_stream))
    ≡ answers (map played.Begun (range_with_len 0 16) ++ played.NotBegun fault.TooManyPlans ∷ played.Done ∷ played.Begun 16 ∷ [])
unfolding first_holding hold_of
seventeen = refl

-- ---- two streams, the second of which waits for the room that the first one frees

abbrev larger_sizes : Sizes
larger_sizes = record {
  servers = 4;
  shards = 3;
  room = λ v. slice_index_or (10 ∷ 10 ∷ 4 ∷ 8 ∷ []) v 0;
  load = λ s. slice_index_or (4 ∷ 6 ∷ 8 ∷ []) s 0;
  floor = λ s. slice_index_or (1 ∷ 1 ∷ 1 ∷ []) s 0;
}

abbrev larger_cells : List (List Cell)
larger_cells = (Primary ∷ Absent ∷ Secondary ∷ []) ∷ (Absent ∷ Primary ∷ []) ∷ (Absent ∷ Absent ∷ Absent ∷ Primary ∷ []) ∷ []

abbrev larger_place : Place
larger_place = record {
  cells = λ s v. slice_index_or (slice_index_or larger_cells s []) v Absent;
  last = λ s v. 0;
  down = λ v. false;
  listed = λ s. slice_index_or (Some 0 ∷ Some 1 ∷ Some 3 ∷ []) s None;
  version = λ s. 0;
  limit = 1;
}

abbrev plan_with_a_signal : PlanModel
plan_with_a_signal = record {
  budget = 8;
  streams = record { budget = 4; retries = 0; holds = for_handover 1 1 0 6; code = handover 1 1 0 ++ Signal 0 ∷ [] }
      ∷ record { budget = 4; retries = 0; holds = for_handover 2 3 1 4; code = Wait 0 ∷ handover 2 3 1 } ∷ [];
  signals = record { cells = []; crowns = []; room = record { server = 1; amount = 6 } ∷ []; spare = [] } ∷ [];
}

abbrev larger_game : Game
larger_game = record {
  state = opened larger_sizes larger_place 14;
  hand = record { tokens = []; permits = []; tickets = []; plans = Some plan_with_a_signal ∷ [] };
}

abbrev second : Event
second = event.Step (stream_id 0 1)

waiting : plays (event.Begin 0 ∷ second ∷ steps 7 0 ++ replicate 7 second) larger_game
    ≡ answers (played.Begun 0 ∷ played.Blocked 0 ∷ moves 6 ++ played.Done ∷ moves 6 ++ played.Done ∷ [])
unfolding first_holding hold_of
waiting = refl

waiting_shows : shows (event.Begin 0 ∷ second ∷ steps 7 0 ++ replicate 7 second) larger_game 2 ≡ Absent ∷ Primary ∷ Absent ∷ []
unfolding first_holding hold_of
waiting_shows = refl
