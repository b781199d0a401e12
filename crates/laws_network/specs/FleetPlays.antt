-- Worked plays of the fleet: three servers and two shards, what happens to them, and what is seen of it.
use Rattle.std.specs.Prelude.{◌≡◌, ℕ, ◌+◌, ◌*◌, ◌++◌, true, false, Some, None, List, [], ◌∷◌, map, slice_index_or}
use Rattle.std.specs.List.{range_with_len}
use Rattle.sm_server.specs.declared.call.Cell.{Cell}
use Rattle.sm_server.specs.declared.call.Cell.TheVariants.{Absent, Secondary, Primary, Prepared}
use Rattle.sm_server.specs.declared.call.Role.TheVariants as role
use Rattle.sm_server.specs.declared.call.Refusal.TheVariants as refusal
use Rattle.sm_placement.specs.Setup.{Sizes}
use Rattle.sm_placement.specs.Place.{Place}
use Rattle.sm_placement.specs.declared.lead.Lead.TheVariants.{At}
use Rattle.sm_reservation.specs.declared.right.PlainCell.TheVariants as plain
use Rattle.sm_plan_code.specs.declared.instruction.Instr.TheVariants.{PrepareAdd, PrepareDrop, Add, Publish, Drop}
use Rattle.sm_plan_code.specs.Plan.{PlanModel}
use Rattle.sm_protocol.specs.State.{opened, stream_id}
use Rattle.sm_protocol.specs.Happens.{Begin, Step}
use Rattle.sm_agent.specs.declared.base.Base.{Base}
use Rattle.sm_agent.specs.declared.order.Verdict.{Verdict}
use Rattle.sm_agent.specs.declared.order.Verdict.TheVariants as verdict
use Rattle.sm_agent.specs.declared.request.Routing.{Routing}
use Rattle.sm_agent.specs.declared.request.Routing.TheVariants as routing
use Rattle.sm_agent.specs.Order.{cell_load}
use Rattle.laws_network.specs.Fleet.{Abandon, StreamId, Commit, Committed, Fleet, FleetEvent, FleetOutcome, Forget}
use Rattle.laws_network.specs.Fleet.{HearAsk, HearOwner, HearServer, Judge, Judged, Make, Open, Publish, Receive}
use Rattle.laws_network.specs.Fleet.{Recover, Routed, Seal, SendOrder, SendPublication, Serve, Silent, controller}
use Rattle.laws_network.specs.Fleet.{fleet_comes, fleet_run, has_lost, held_cells}

-- ---- the fleet

-- three servers, and two shards with loads of 4 and 6
abbrev pub example_sizes : Sizes
example_sizes = record {
  servers = 3;
  shards = 2;
  room = λ v. slice_index_or (10 ∷ 10 ∷ 4 ∷ []) v 0;
  load = λ s. slice_index_or (4 ∷ 6 ∷ []) s 0;
  floor = λ s. 1;
}

-- shard 0 is primary at server 0 and secondary at server 2, and shard 1 is primary at server 1
abbrev pub example_cells : ℕ → ℕ → Cell
example_cells s v = slice_index_or (slice_index_or ((Primary ∷ Absent ∷ Secondary ∷ []) ∷ (Absent ∷ Primary ∷ Absent ∷ []) ∷ []) s []) v Absent

-- the placement, with each primary listed
abbrev pub example_place : Place
example_place = record {
  cells = example_cells;
  last = λ s v. 0;
  down = λ v. false;
  listed = λ s. slice_index_or (Some 0 ∷ Some 1 ∷ []) s None;
  version = λ s. 0;
  limit = 1;
}

-- a base of journal 7 that turns nothing away
abbrev pub example_base : Base
example_base = record { journal = 7; number = 0; fenced = false; nonce = None }

-- each server has its slots, and nothing was sent yet
abbrev pub example_fleet : Fleet
example_fleet = record {
  start = record { journal = 7; fence = 0; base = 0; w = opened example_sizes example_place 65536; permits = λ v. None; restores = [] };
  journal = [];
  servers = λ v. record {
    base = example_base;
    slots = λ s. record { cell = example_cells s v; last = 0; at_work = None; load = cell_load (example_cells s v) (example_sizes.load s); cut = None };
  };
  had = λ s v. Absent;
  owner = example_base;
  shown = λ s. record { server = example_place.listed s; version = 0 };
  sent = [];
  answers = [];
  published = [];
  stored = [];
  passes = [];
  asks = [];
}

-- the handover of a shard's primary from u to v, and what it needs
abbrev pub example_plan : ℕ → ℕ → ℕ → ℕ → PlanModel
example_plan s u v load = record {
  budget = 4;
  streams = record {
    budget = 4;
    retries = 0;
    holds = record {
      cells = record { shard = s; server = v; state = plain.Absent } ∷ [];
      crowns = record { shard = s; lead = At u; listed = Some u } ∷ [];
      room = record { server = v; amount = load } ∷ [];
      spare = [];
    };
    code = PrepareAdd s v u ∷ PrepareDrop s u v ∷ Add s v role.Primary ∷ Publish s ∷ Drop s u ∷ [];
  } ∷ [];
  signals = [];
}

-- ---- what is seen

-- The visible part of an event.
pub data Sight : Type 0 where
  Hears : (verdict : Verdict) → Sight
  Commits : (number : ℕ) → Sight
  Routes : (routing : Routing) → Sight
  Nothing : Sight

-- what is seen of an outcome
abbrev sight_of : FleetOutcome → Sight
sight_of (Judged l v) = Hears v
sight_of (Committed o) = Commits o.number
sight_of (Routed s v r) = Routes r
sight_of Silent = Nothing

-- what is seen of each event of a list
abbrev pub sights : List FleetEvent → Fleet → List Sight
sights [] f = []
sights (e ∷ es) f = sight_of (fleet_comes f e).0 ∷ sights es (fleet_comes f e).1

-- what the servers have of a shard
abbrev pub row_held : Fleet → ℕ → List Cell
row_held f s = map (λ v. held_cells f s v) (range_with_len 0 3)

-- what is recorded of it
abbrev pub row_recorded : Fleet → ℕ → List Cell
row_recorded f s = map (λ v. (controller f).w.place.cells s v) (range_with_len 0 3)

-- ---- plays

-- A handover begins. The answer to its first order is lost, and the order comes again: it is answered again, and only
-- then the step is recorded. Much later the order comes once more, and is answered again.
abbrev pub lost_answer : List FleetEvent
lost_answer =
    Make (Begin (example_plan 0 0 1 4)) ∷ SendOrder 0 (stream_id 0 0) ∷ Judge 0 ∷ Commit 0 0 ∷ Judge 0 ∷ HearServer 1 ∷ Judge 0 ∷ []

-- the order is answered again both times, and has its effect once
abbrev pub LostAnswerIsHarmless : Type 0
LostAnswerIsHarmless =
    (sights lost_answer example_fleet ≡
    Nothing ∷ Nothing ∷ Hears verdict.Begin ∷ Commits 1 ∷ Hears verdict.Again ∷ Nothing ∷ Hears verdict.Again ∷ [])
    × (row_held (fleet_run lost_answer example_fleet) 0 ≡ Primary ∷ Prepared 0 1 ∷ Secondary ∷ [])
    × (row_recorded (fleet_run lost_answer example_fleet) 0 ≡ Primary ∷ Prepared 0 1 ∷ Secondary ∷ [])

-- The server crashes while the first order of a handover is at work: the work begins anew. Then the order has its
-- effect, and the controller crashes before it hears of it. Once it has read its journal it sends the very same order,
-- which is answered again.
abbrev pub crashes : List FleetEvent
crashes =
    Make (Begin (example_plan 0 0 1 4)) ∷ SendOrder 0 (stream_id 0 0) ∷ Judge 0 ∷ Judge 0 ∷ Abandon 0 1 ∷ Commit 0 0 ∷ Judge 0 ∷ Commit 0 0
    ∷ SendOrder 0 (stream_id 0 0) ∷ Judge 1 ∷ HearServer 1 ∷ []

-- the work that was given up is not committed, and the order has its effect once
abbrev pub CrashesAreHarmless : Type 0
CrashesAreHarmless =
    (sights crashes example_fleet ≡
    Nothing ∷ Nothing ∷ Hears verdict.Begin ∷ Hears verdict.Working ∷ Nothing ∷ Nothing ∷ Hears verdict.Begin ∷ Commits 1
    ∷ Nothing ∷ Hears verdict.Again ∷ Nothing ∷ [])
    × (row_recorded (fleet_run crashes example_fleet) 0 ≡ Primary ∷ Prepared 0 1 ∷ Secondary ∷ [])

-- The first orders of two handovers cross: the second one comes first, and its answer comes last.
abbrev pub crossing : List FleetEvent
crossing =
    Make (Begin (example_plan 0 0 1 4)) ∷ Make (Begin (example_plan 1 1 0 6)) ∷ SendOrder 0 (stream_id 0 0) ∷ SendOrder 0 (stream_id 1 0)
    ∷ Judge 1 ∷ Judge 0 ∷ Commit 1 0 ∷ Commit 0 0 ∷ HearServer 1 ∷ HearServer 0 ∷ []

-- both have their effect, and both are recorded
abbrev pub CrossingIsHarmless : Type 0
CrossingIsHarmless =
    (sights crossing example_fleet ≡
    Nothing ∷ Nothing ∷ Nothing ∷ Nothing ∷ Hears verdict.Begin ∷ Hears verdict.Begin ∷ Commits 1 ∷ Commits 1 ∷ Nothing ∷ Nothing ∷ [])
    × (row_recorded (fleet_run crossing example_fleet) 0 ≡ Primary ∷ Prepared 0 1 ∷ Secondary ∷ [])
    × (row_recorded (fleet_run crossing example_fleet) 1 ≡ Prepared 1 1 ∷ Primary ∷ Absent ∷ [])

-- Server 2 forgets, and asks; it forgets again before the restore comes, and asks again. The earlier restore comes late
-- and is not taken, nor is the later one by another server.
abbrev pub lost_memory : List FleetEvent
lost_memory = Forget 2 ∷ HearAsk 0 ∷ Forget 2 ∷ HearAsk 1 ∷ Recover 0 2 ∷ Recover 1 0 ∷ []

-- the server is still Unknown then, and has its slots once the later restore comes
abbrev pub LateRestoreIsHarmless : Type 0
LateRestoreIsHarmless =
    (map (has_lost (fleet_run lost_memory example_fleet)) (range_with_len 0 3) ≡ false ∷ false ∷ true ∷ [])
    × (has_lost (fleet_run (Recover 1 2 ∷ []) (fleet_run lost_memory example_fleet)) 2 ≡ false)
    × (row_held (fleet_run (Recover 1 2 ∷ []) (fleet_run lost_memory example_fleet)) 0 ≡ Primary ∷ Absent ∷ Secondary ∷ [])

-- An order makes its way, as the k-th that is sent and answered; and so does a publication.
abbrev pub order_trip : ℕ → StreamId → List FleetEvent
order_trip k id = SendOrder 0 id ∷ Judge k ∷ Commit k 0 ∷ HearServer k ∷ []

-- a publication makes its way, as the k-th
abbrev pub publication_trip : ℕ → StreamId → List FleetEvent
publication_trip k id = SendPublication 0 id ∷ Publish k ∷ HearOwner k ∷ []

-- A whole handover from u to v, as the k-th. A request comes to the old owner while it forwards, is passed on, and
-- tells the cut.
abbrev pub whole_handover : ℕ → ℕ → ℕ → ℕ → ℕ → StreamId → List FleetEvent
whole_handover k s u v load id =
    Make (Begin (example_plan s u v load))
    ∷ (order_trip (4 * k) id ++ order_trip (4 * k + 1) id ++ (Serve s u 0 ∷ Seal k ∷ []) ++ order_trip (4 * k + 2) id
    ++ publication_trip k id ++ order_trip (4 * k + 3) id ++ (Make (Step id) ∷ []))

-- Shard 0 moves from server 0 to server 1 and back, and the next epoch opens. There the first handover begins anew, up
-- to where server 1 is prepared and server 0 still serves. Then a request comes that was passed on in the first
-- handover, and the first order of all.
abbrev pub across_epochs : List FleetEvent
across_epochs = whole_handover 0 0 0 1 4 (stream_id 0 0) ++ whole_handover 1 0 1 0 4 (stream_id 1 0)
    ++ (Open 65536 ∷ Make (Begin (example_plan 0 0 1 4)) ∷ order_trip 8 (stream_id 0 0))

-- the request is not executed, since handover numbers have the base added, and the order is old
abbrev pub OldMessagesAreHarmless : Type 0
OldMessagesAreHarmless =
    (row_held (fleet_run across_epochs example_fleet) 0 ≡ Primary ∷ Prepared 0 2097153 ∷ Secondary ∷ [])
    × (sights (Receive 0 0 ∷ Judge 0 ∷ []) (fleet_run across_epochs example_fleet) ≡ Routes routing.NotHere ∷ Hears verdict.Old ∷ [])

-- a plan that was not checked: it has the right to a cell that is absent, and drops it
abbrev pub unchecked_plan : PlanModel
unchecked_plan = record {
  budget = 1;
  streams = record {
    budget = 1;
    retries = 0;
    holds = record { cells = record { shard = 0; server = 1; state = plain.Absent } ∷ []; crowns = []; room = []; spare = [] };
    code = Drop 0 1 ∷ [];
  } ∷ [];
  signals = [];
}

-- with it a server refuses an order: so the laws need plans that were checked
abbrev pub UncheckedPlanIsRefused : Type 0
UncheckedPlanIsRefused =
    sights (Make (Begin unchecked_plan) ∷ SendOrder 0 (stream_id 0 0) ∷ Judge 0 ∷ []) example_fleet ≡
    Nothing ∷ Nothing ∷ Hears (verdict.Refused refusal.NotHeld) ∷ []
