-- A worked run, computed by the definitions: two handovers whose calls are under way together, with orders and answers that come late,
-- out of order and again, and requests while the primary moves.
use Rattle.std.specs.Prelude.{◌≡◌, refl, ℕ, ◌++◌, false, Some, None, Result, Ok, Err, List, [], ◌∷◌, map, option_map, slice_get, slice_index_or}
use Rattle.std.specs.List.{range_with_len}
use Rattle.sm_server.specs.declared.call.Cell.{Cell}
use Rattle.sm_server.specs.declared.call.Cell.TheVariants.{Absent, Prepared, Secondary, Primary, Forwarding}
use Rattle.sm_server.specs.declared.call.Role.TheVariants as role
use Rattle.sm_placement.specs.declared.lead.Lead.TheVariants.{At}
use Rattle.sm_placement.specs.Setup.{Sizes}
use Rattle.sm_placement.specs.Place.{CallEffect, Place, called_numbered}
use Rattle.sm_server.specs.declared.call.Refusal.{Refusal}
use Rattle.sm_reservation.specs.declared.right.PlainCell.TheVariants as plain
use Rattle.sm_reservation.specs.Rights.{Rights}
use Rattle.sm_reservation.specs.HoldOf.{hold_of}
use Rattle.sm_plan_code.specs.declared.instruction.Instr.{Instr}
use Rattle.sm_plan_code.specs.declared.instruction.Instr.TheVariants.{PrepareAdd, PrepareDrop, Add, Drop, Publish}
use Rattle.sm_plan_code.specs.Plan.{PlanModel}
use Rattle.sm_verifier.specs.FirstHolding.{first_holding}
use Rattle.sm_protocol.specs.declared.event.Played.{Played}
use Rattle.sm_protocol.specs.declared.event.Played.TheVariants as played
use Rattle.sm_protocol.specs.State.{stream_id}
use Rattle.sm_protocol.specs.Steps.{Answered}
use Rattle.sm_placement.specs.Place.{entry_at}
use Rattle.sm_protocol.specs.Happens.{answer_by}
use Rattle.sm_protocol.specs.Ticket.{Ticket}
use Rattle.laws_network.specs.World.{Inner, Propose, Store, Stored, World, WorldEvent, world_comes, world_run}
use Rattle.laws_network.specs.Net.{Answer, Ask, Begin, Control, Deliver, Made, Net, NetEvent, NetOutcome, Order, Pass, Quiet, Replied, Send, Served, Step, comes, net_run, real}
use Rattle.laws_network.proofs.Counted.{net_opened}

abbrev sizes : Sizes
sizes = record {
  servers = 3;
  shards = 2;
  room = λ v. slice_index_or (10 ∷ 10 ∷ 4 ∷ []) v 0;
  load = λ s. slice_index_or (4 ∷ 6 ∷ []) s 0;
  floor = λ s. slice_index_or (1 ∷ 1 ∷ []) s 0;
}

abbrev cells : List (List Cell)
cells = (Primary ∷ Absent ∷ Secondary ∷ []) ∷ (Absent ∷ Primary ∷ Absent ∷ []) ∷ []

abbrev place : Place
place = record {
  cells = λ s v. slice_index_or (slice_index_or cells s []) v Absent;
  last = λ s v. 0;
  down = λ v. false;
  listed = λ s. slice_index_or (Some 0 ∷ Some 1 ∷ []) s None;
  version = λ s. 0;
  limit = 1;
}

-- the handover of a shard's primary from u to v
abbrev handover : ℕ → ℕ → ℕ → List Instr
handover s u v = PrepareAdd s v u ∷ PrepareDrop s u v ∷ Add s v role.Primary ∷ Publish s ∷ Drop s u ∷ []

-- what it needs
abbrev for_handover : ℕ → ℕ → ℕ → ℕ → Rights
for_handover s u v load = record {
  cells = record { shard = s; server = v; state = plain.Absent } ∷ [];
  crowns = record { shard = s; lead = At u; listed = Some u } ∷ [];
  room = record { server = v; amount = load } ∷ [];
  spare = [];
}

abbrev one_stream : Rights → List Instr → PlanModel
one_stream holds code = record { budget = 4; streams = record { budget = 4; retries = 0; holds = holds; code = code } ∷ []; signals = [] }

abbrev plan_m : PlanModel
plan_m = one_stream (for_handover 0 0 1 4) (handover 0 0 1)

abbrev plan_t : PlanModel
plan_t = one_stream (for_handover 1 1 0 6) (handover 1 1 0)

abbrev opening : Net
opening = net_opened sizes place 65536

-- what is seen of an outcome: of an order that is served, its plan and its number
data Seen : Type 0 where
  Did : (answer : Played) → Seen
  Serves : (plan number : ℕ) → Seen
  Says : (answer : Played) → Seen
  Nothing : Seen
  Wrong : Seen

abbrev seen : NetOutcome → Seen
seen (Made (Answered answer)) = Did answer
seen (Served o) = Serves o.stream.plan o.number
seen (Replied answer) = Says answer
seen Quiet = Nothing
seen _ = Wrong

abbrev all_seen : List NetEvent → Net → List Seen
all_seen [] n = []
all_seen (e ∷ es) n = seen (comes n e).0 ∷ all_seen es (comes n e).1

-- what the servers have of a shard, and what is recorded of them
abbrev row : Net → ℕ → List Cell
row n s = map (λ v. n.cells s v) (range_with_len 0 3)

abbrev recorded_row : Net → ℕ → List Cell
recorded_row n s = map (λ v. n.w.place.cells s v) (range_with_len 0 3)

-- Both plans start, and both first calls are under way together. Their orders come in the other order, the first one twice; of its two
-- answers the second is not taken.
abbrev first_calls : List NetEvent
first_calls = Control (Begin plan_m) ∷ Control (Begin plan_t) ∷ Send (stream_id 0 0) ∷ Send (stream_id 1 0) ∷ Deliver 1 ∷ Deliver 0 ∷ Deliver 0 ∷ Answer 1 ∷ Answer 2 ∷ []

calls_together : all_seen first_calls opening
    ≡ Did (played.Begun 0) ∷ Did (played.Begun 1) ∷ Nothing ∷ Nothing ∷ Serves 1 1 ∷ Serves 0 1 ∷ Nothing ∷ Did played.Moved ∷ Nothing ∷ []
unfolding first_holding hold_of
calls_together = refl

-- the call of the second plan has had its effect at its server, and is not recorded yet
one_ahead : row (net_run first_calls opening) 1 ≡ Prepared 1 1 ∷ Primary ∷ Absent ∷ []
unfolding first_holding hold_of
one_ahead = refl

one_behind : recorded_row (net_run first_calls opening) 1 ≡ Absent ∷ Primary ∷ Absent ∷ []
unfolding first_holding hold_of
one_behind = refl

-- The old primary forwards before the controller knows of it: a request there is passed on, and the new one executes it. The pass
-- comes once more when the new one has become the primary; and the order of the first call comes long after, and changes nothing.
abbrev requests : List NetEvent
requests =
    Ask 0 0 ∷ Ask 0 1 ∷ Send (stream_id 0 0) ∷ Deliver 2 ∷ Ask 0 0 ∷ Pass 0 ∷ Answer 3 ∷ Send (stream_id 0 0) ∷ Deliver 3 ∷ Deliver 0 ∷ Deliver 2 ∷ Pass 0 ∷ Answer 4 ∷ Control (Step (stream_id 0 0)) ∷ []

requests_move : all_seen requests (net_run first_calls opening)
    ≡ Says (played.Executed 0) ∷ Says played.NotOwner ∷ Nothing ∷ Serves 0 2 ∷ Says (played.Passed 1 1 0) ∷ Says (played.Executed 1) ∷ Did played.Moved ∷ Nothing ∷ Serves 0 3
    ∷ Nothing ∷ Nothing ∷ Says (played.Executed 1) ∷ Did played.Moved ∷ Did played.Moved ∷ []
unfolding first_holding hold_of
requests_move = refl

moved : row (net_run (first_calls ++ requests) opening) 0 ≡ Forwarding 1 1 ∷ Primary ∷ Secondary ∷ []
unfolding first_holding hold_of
moved = refl

-- ---- why a server looks at the order of numbers

-- a server that does not serve the last number of a cell again, but each other one
abbrev served_by_equality : Net → Order → Net
served_by_equality n o = after_answer (called_numbered n.w.sizes (real n) o.call.shard o.call.server o.call.call o.number)
  where
    after_answer : Result CallEffect Refusal → Net
    after_answer (Ok effect) = record n { cells = effect.place.cells; last = effect.place.last }
    after_answer (Err why) = n

-- a stream that adds a replica and takes it away again
abbrev plan_of_two : PlanModel
plan_of_two = one_stream (record {
  cells = record { shard = 0; server = 1; state = plain.Absent } ∷ [];
  crowns = [];
  room = record { server = 1; amount = 4 } ∷ [];
  spare = [];
}) (Add 0 1 role.Secondary ∷ Drop 0 1 ∷ [])

-- its plan is done
abbrev two_calls : List NetEvent
two_calls =
    Control (Begin plan_of_two) ∷ Send (stream_id 0 0) ∷ Deliver 0 ∷ Answer 0 ∷ Send (stream_id 0 0) ∷ Deliver 1 ∷ Answer 1 ∷ Control (Step (stream_id 0 0)) ∷ []

two_are_done : all_seen two_calls opening
    ≡ Did (played.Begun 0) ∷ Nothing ∷ Serves 0 1 ∷ Did played.Moved ∷ Nothing ∷ Serves 0 2 ∷ Did played.Moved ∷ Did played.Done ∷ []
unfolding first_holding hold_of
two_are_done = refl

-- long after, the order of its first call comes again: it changes nothing
late_is_nothing : row (net_run (Deliver 0 ∷ []) (net_run two_calls opening)) 0 ≡ Primary ∷ Absent ∷ Secondary ∷ []
unfolding first_holding hold_of
late_is_nothing = refl

-- where the server only told its last number from others, the replica would be there again, with nobody's right to it
late_by_equality : option_map (λ o. row (served_by_equality (net_run two_calls opening) o) 0) (slice_get (net_run two_calls opening).sent 0) ≡ Some (Primary ∷ Secondary ∷ Secondary ∷ [])
unfolding first_holding hold_of
late_by_equality = refl

-- ---- the map's owner

abbrev world : World
world = record { net = opening; shown = λ s. entry_at place s; published = []; stored = [] }

abbrev world_seen : List WorldEvent → World → List Seen
world_seen [] x = []
world_seen (e ∷ es) x = seen (world_comes x e).0 ∷ world_seen es (world_comes x e).1

-- The same events, but for the last one: no controller steps over a publication by itself.
withheld : world_seen (map Inner (Control (Step (stream_id 0 0)) ∷ [])) (world_run (map Inner (first_calls ++ requests)) world) ≡ Nothing ∷ []
unfolding first_holding hold_of
withheld = refl

-- The publication is sent, and comes twice: the stream's drop is not sent until its answer has come, and the second answer is not taken.
abbrev publication : List WorldEvent
publication =
    Propose (stream_id 0 0) ∷ Inner (Send (stream_id 0 0)) ∷ Store 0 ∷ Store 0 ∷ Inner (Deliver 4) ∷ Stored 0 ∷ Stored 1 ∷ Inner (Send (stream_id 0 0)) ∷ Store 0 ∷ Inner (Deliver 4) ∷ Inner (Answer 6) ∷ Stored 2 ∷ []

publication_moves : world_seen publication (world_run (map Inner (first_calls ++ requests)) world)
    ≡ Nothing ∷ Nothing ∷ Nothing ∷ Nothing ∷ Nothing ∷ Did played.Moved ∷ Nothing ∷ Nothing ∷ Nothing ∷ Serves 0 5 ∷ Did played.Moved ∷ Nothing ∷ []
unfolding first_holding hold_of
publication_moves = refl

shown_after : (world_run (map Inner (first_calls ++ requests) ++ publication) world).shown 0 ≡ record { server = Some 1; version = 1 }
unfolding first_holding hold_of
shown_after = refl

-- ---- a request of an earlier controller's time

-- it was passed on to server 1 under the number 1
abbrev old_pass : Ticket
old_pass = record { place = 0; shard = 0; sender = 0; target = 1; number = 1 }

abbrev later_opening : Net
later_opening = record opening { base = 7; passes = old_pass ∷ [] }

-- it comes when server 1 is prepared, and server 0 is still the primary: it is not executed, since the handover has the number 8
old_pass_fits_nothing : all_seen (Pass 0 ∷ []) (net_run (Control (Begin plan_m) ∷ Send (stream_id 0 0) ∷ Deliver 0 ∷ []) later_opening) ≡ Says played.NotOwner ∷ []
unfolding first_holding hold_of
old_pass_fits_nothing = refl

prepared_above : row (net_run (Control (Begin plan_m) ∷ Send (stream_id 0 0) ∷ Deliver 0 ∷ []) later_opening) 0 ≡ Primary ∷ Prepared 0 8 ∷ Secondary ∷ []
unfolding first_holding hold_of
prepared_above = refl

-- where handover numbers began again at 1, it would be executed there, while the primary executes too
without_base : answer_by (Prepared 0 1) 1 (Some old_pass) 0 ≡ played.Executed 1
without_base = refl
