-- The notes of a journal on commands that change something, beside its driver.
use Rattle.std.specs.Prelude.{◌==◌, ℕ, List, fold, if◌then◌else◌}
use Rattle.std.specs.List.{list_any}
use Rattle.sm_reservation.specs.declared.stream_id.StreamId.{StreamId}
use Rattle.sm_protocol.specs.State.{State}
use Rattle.sm_protocol.specs.Next.{unfinished_plans}
use Rattle.sm_driver.specs.declared.order.StreamMessage.{StreamMessage}
use Rattle.sm_driver.specs.declared.order.StreamMessage.TheVariants as outgoing
use Rattle.smpland_state.specs.History.{HistoryModel, with_begun, with_ended, with_moved, with_published, with_recorded}
use Rattle.smpland_state.specs.declared.begun_plan.BegunPlan.{BegunPlan}

-- a plan has ended at a place, unless it is one of those that go on
abbrev pub with_end : HistoryModel → State → ℕ → ℕ → HistoryModel
with_end h w place k = if list_any (λ j. j == k) (unfinished_plans w) then h else with_ended h place k

-- the next plan has begun at a place, where a plan of nothing ends as well
abbrev pub with_new_plan : HistoryModel → State → ℕ → BegunPlan → HistoryModel
with_new_plan h w place plan = with_end (with_begun h place plan.streams) w place plan.number

-- the stream that stands before a message
abbrev pub stream_of_message : StreamMessage → StreamId
stream_of_message (outgoing.Order o) = o.stream
stream_of_message (outgoing.Publication p) = p.stream

-- the answer to an order has changed a cell at a place, and the answer to a publication an entry of the map
abbrev pub with_change : HistoryModel → ℕ → StreamMessage → HistoryModel
with_change h place (outgoing.Order o) = with_recorded h place o.call.shard o.call.server
with_change h place (outgoing.Publication p) = with_published h place p.shard

-- each of these streams has come to where it stands at a place
abbrev pub with_moves : HistoryModel → ℕ → List StreamId → HistoryModel
with_moves h place ids = fold (λ noted id. with_moved noted place id) h ids

-- a message was answered at a place: these streams of its plan have gone on, and the plan has ended or goes on
abbrev pub with_answered : HistoryModel → State → ℕ → StreamMessage → List StreamId → HistoryModel
with_answered h w place message ids = with_end (with_moves (with_change h place message) place ids) w place (stream_of_message message).plan
