-- Events of a document, which are played one after the other. The player has every right that a machine gives away: the
-- token of each stream that was begun, a permit for each server that is down, and the ticket of each pass that was
-- recorded. So what an event asks for hangs on the state alone, and on where the plans stand in the document: an event
-- names a plan by its place there, and a stream that runs has the number that the start of its plan was answered with.
use Rattle.std.specs.Prelude.{ℕ, ◌==◌, ◌++◌, Option, Some, None, List, [], ◌∷◌, map, option_map, option_and_then}
use Rattle.std.specs.Prelude.{slice_index_or, slice_set, if◌then◌else◌}
use Rattle.std.specs.List.{position}
use Rattle.sm_placement.specs.Setup.{Sizes}
use Rattle.sm_placement.specs.Place.{Place}
use Rattle.sm_reservation.specs.declared.stream_id.StreamId.{StreamId}
use Rattle.sm_plan_code.specs.Plan.{PlanModel}
use Rattle.sm_protocol.specs.declared.event.Played.{Played}
use Rattle.sm_protocol.specs.declared.event.Played.TheVariants as played
use Rattle.sm_protocol.specs.declared.event.Event.{Event}
use Rattle.sm_protocol.specs.declared.event.Event.TheVariants as event
use Rattle.sm_protocol.specs.Log.{named}
use Rattle.sm_protocol.specs.State.{State, opened, stream_id, is_begun}
use Rattle.sm_protocol.specs.Steps.{Outcome, Answered}
use Rattle.sm_protocol.specs.Happens.{Happening, Begin, happens}

-- The scene at which events are played: the state of the protocol, and which plans of the document have begun.
pub record Scene : Type 0 where
  pub state : State
  -- the plans by their places in the document, None once they have begun
  pub waiting : List (Option PlanModel)
  -- the places of the plans that have begun, by their numbers
  pub places : List ℕ

-- before any event: no plan has begun
abbrev pub opened_scene : Sizes → Place → ℕ → List PlanModel → Scene
opened_scene c p log plans = record { state = opened c p log; waiting = map (λ plan. Some plan) plans; places = [] }

-- ---- what an event asks for

-- the number of the plan at this place of the document, once it has begun
abbrev pub start_number : List ℕ → ℕ → Option ℕ
start_number places place = position (λ begun. begun == place) places

-- the stream, if it has begun
abbrev pub if_begun : State → StreamId → Option StreamId
if_begun w id = if is_begun w id then Some id else None

-- a stream of the document by its plan's number in place of the plan's place there, if it has begun
abbrev pub named_stream : Scene → StreamId → Option StreamId
named_stream x id = option_and_then (λ number. if_begun x.state (stream_id number id.stream)) (start_number x.places id.plan)

-- An event of the document with its stream as it has begun; None if that has not begun. A start is none, since it names
-- its plan by a place in the document.
abbrev pub event_named : Scene → Event → Option Event
event_named x (event.Step id) = option_map event.Step (named_stream x id)
event_named x (event.Lose id after) = option_map (λ begun. event.Lose begun after) (named_stream x id)
event_named x (event.Refill id more) = option_map (λ begun. event.Refill begun more) (named_stream x id)
event_named x (event.Begin place) = None
event_named x e = Some e

-- what an event asks for; None if there is nothing that it speaks of
abbrev pub asked_by : Scene → Event → Option Happening
asked_by x (event.Begin place) = option_map Begin (slice_index_or x.waiting place None)
asked_by x e = option_and_then (named x.state) (event_named x e)

-- ---- what becomes of it

-- a plan that has begun waits no longer, and has the next number
abbrev pub after_start : Scene → ℕ → Played → Scene
after_start x place (played.Begun number) = record x { waiting = slice_set x.waiting place None; places = x.places ++ place ∷ [] }
after_start x place _ = x

-- the scene after an event, with the state that it has led to
abbrev pub after_event : Scene → Event → Outcome → Scene
after_event x (event.Begin place) (Answered answer) = after_start x place answer
after_event x _ _ = x

-- an event that speaks of nothing is Unknown, and changes nothing
abbrev pub event_turn_by : Scene → Event → Option Happening → Outcome × Scene
event_turn_by x e None = (Answered played.Unknown, x)
event_turn_by x e (Some h) = ((happens x.state h).0, after_event (record x { state = (happens x.state h).1 }) e (happens x.state h).0)

-- an event, with its outcome
abbrev pub event_turn : Scene → Event → Outcome × Scene
event_turn x e = event_turn_by x e (asked_by x e)

-- the scene after a list of events
abbrev pub scene_after : List Event → Scene → Scene
scene_after [] x = x
scene_after (e ∷ es) x = scene_after es (event_turn x e).1
