-- The views that contracts have of the locked parts, of a runner, of an end and of a caller.
-- `recorded_more` is internal: you need not read it for the public contracts.
use Rattle.std.specs.Prelude.{◌≡◌, ◌<◌, ℕ, ◌-◌, List, [], length, map, slice_index_or}
use Rattle.sm_placement.specs.declared.entry.Entry.{Entry}
use Rattle.sm_reservation.specs.declared.stream_id.StreamId.{StreamId}
use Rattle.sm_protocol.specs.State.{State, stream_id, progress_of, allowance}
use Rattle.sm_machine.specs.Machine.{MachineModel}
use Rattle.sm_machine.specs.State.{state_of}
use Rattle.sm_machine.specs.Retired.{steps_at_end}

-- the machine, and how many runners and callers the board has given out
pub record HeldModel : Type 0 where
  pub machine : MachineModel
  pub runners : ℕ
  pub callers : ℕ

-- this machine, with these numbers of runners and callers given out
abbrev pub held_model : MachineModel → ℕ → ℕ → HeldModel
held_model machine runners callers = record { machine = machine; runners = runners; callers = callers }

-- the state of the protocol that the machine is in
abbrev pub state_in : HeldModel → State
state_in h = state_of h.machine

-- a runner's stream, and how many of its steps were recorded
pub record RunnerModel : Type 0 where
  pub stream : StreamId
  pub steps : ℕ

-- a runner of the stream, with this number of recorded steps
abbrev pub running : StreamId → ℕ → RunnerModel
running stream steps = record { stream = stream; steps = steps }

-- the runners are one for each of the first n streams of a plan, in their order, and none of their steps is recorded
pub record AreRunners (plan n : ℕ) (runners : List RunnerModel) : Type 0 where
  pub count : length runners ≡ n
  pub each : (i : ℕ) (d : RunnerModel) → i < n → slice_index_or runners i d ≡ running (stream_id plan i) 0

-- a stream that has finished: how many steps it made, how many of them were tries of calls, how many tries it was
-- allowed, and how many steps its runner has counted
pub record EndedModel : Type 0 where
  pub stream : StreamId
  pub steps : ℕ
  pub calls : ℕ
  pub budget : ℕ
  pub counted : ℕ

-- the end of the stream, with these counts
abbrev pub finished : StreamId → ℕ → ℕ → ℕ → ℕ → EndedModel
finished stream steps calls budget counted = record { stream = stream; steps = steps; calls = calls; budget = budget; counted = counted }

-- which streams these ends are of
abbrev pub streams_ended : List EndedModel → List StreamId
streams_ended ended = map (λ e. e.stream) ended

-- which streams these runners are of
abbrev pub streams_run : List RunnerModel → List StreamId
streams_run runners = map (λ r. r.stream) runners

-- the end that a runner of the stream comes to
abbrev pub end_in : State → RunnerModel → EndedModel
end_in w runner = finished runner.stream (steps_at_end w runner.stream) (progress_of w runner.stream).tries (allowance w runner.stream) runner.steps

-- how many events the one state has recorded more than the other
abbrev pub recorded_more : State → State → ℕ
recorded_more old new = length new.log - length old.log

-- the entries that a caller knows to have been in the map, one for each shard, what it has seen of the map, the last
-- first, and how many of its requests were executed and refused
pub record CallerModel : Type 0 where
  pub known : List Entry
  pub seen : List (ℕ × Entry)
  pub executed : ℕ
  pub refused : ℕ

-- a caller that knows and has seen this, with these counts
abbrev pub calling : List Entry → List (ℕ × Entry) → ℕ → ℕ → CallerModel
calling known seen executed refused = record { known = known; seen = seen; executed = executed; refused = refused }

-- a caller that has seen and counted nothing
abbrev pub IsNewCaller : CallerModel → Type 0
IsNewCaller caller = caller ≡ calling caller.known [] 0 0
