-- The facts that every machine keeps.
-- Internal definitions, and what a `Machine` keeps: you need not read them for the public contracts.
use Rattle.std.specs.Prelude.{◌≡◌, ◌<◌, ◌≤◌, ℕ, Option, Some, None, true, false, length}
use Rattle.sm_reservation.specs.Rights.{Rights, no_rights}
use Rattle.sm_reservation.specs.Capacity.{HoldModel, most_keys}
use Rattle.sm_reservation.specs.declared.stream_id.StreamId.{StreamId}
use Rattle.sm_verifier.specs.Stream.{Course, stream_at}
use Rattle.sm_verifier.specs.Peak.{IsPeak}
use Rattle.sm_protocol.specs.State.{plan_at, is_begun, progress_of, next_instruction, signal_count, parcel_at}
use Rattle.sm_protocol.specs.declared.event.Passage.{Passage}
use Rattle.sm_protocol.specs.declared.event.Played.{Played}
use Rattle.sm_protocol.specs.Steps.{Answered, step}
use Rattle.sm_plan_code.specs.declared.instruction.Instr.{Instr}
use Rattle.sm_protocol.specs.Laws.{IsReached}
use Rattle.sm_machine.specs.Course.{hold_in}
use Rattle.sm_machine.specs.State.{Whole}
use Rattle.sm_machine.specs.Tied.{IsTied, HasCounters}

-- a stream's grant has capacity for what the stream holds on its way
abbrev pub HasCapacityOn : Course → Option HoldModel → Type 0
HasCapacityOn s None = Unit {0}
HasCapacityOn s (Some kept) = (n : ℕ) × IsPeak s n × (n ≤ kept.capacity)

-- the grant of a signal that was not posted is empty, and has capacity for the parcel
abbrev pub IsUnsent : Option HoldModel → Rights → Type 0
IsUnsent None p = ⊥
IsUnsent (Some kept) p = (kept.rights ≡ no_rights) × (most_keys p ≤ kept.capacity)

-- Events led to the state from an opening of the machine's own configuration, the rights are those of the state, there
-- is capacity for all that streams and signals will have, and what is counted is the state's.
pub record IsWorking (x : Whole) : Type 0 where
  pub reached : IsReached x.setup x.state
  pub tied : IsTied x.state x.pool (λ k i. hold_in (x.grants k i)) (λ k q. hold_in (x.parcels k q))
  pub capacities : (id : StreamId) → is_begun x.state id ≡ true
      → HasCapacityOn (stream_at x.state.sizes (plan_at x.state id.plan) id.stream) (x.grants id.plan id.stream)
  pub unsent : (k q : ℕ) → k < length x.state.plans → q < signal_count x.state k → (x.state.marks k q).posted ≡ false
      → IsUnsent (x.parcels k q) (parcel_at x.state k q)
  pub counted : HasCounters x.state x.unfinished x.running x.free

-- A machine whose stream makes this next, or its end: it was begun, and hasn't finished.
pub record IsAt (x : Whole) (id : StreamId) (next : Option Instr) : Type 0 where
  pub working : IsWorking x
  pub awake : x.state.halted ≡ false
  pub begun : is_begun x.state id ≡ true
  pub running : (progress_of x.state id).done ≡ false
  pub next_is : next_instruction x.state id ≡ next

-- The stream has made its step, with this answer.
pub record IsStepped (x : Whole) (id : StreamId) (passage : Passage) (answer : Played) (y : Whole) : Type 0 where
  pub step : step x.state id passage ≡ (Answered answer, y.state)
  pub setup : y.setup ≡ x.setup
  pub working : IsWorking y
