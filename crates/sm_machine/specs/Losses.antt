-- Steps over links that may lose calls, refills, and how many steps were made.
-- `HasHappened` is internal: you need not read it for the public contracts.
use Rattle.std.specs.Prelude.{◌≡◌, ℕ, ◌==◌, ◌&&◌, not, Bool, true, false, Option, Some, None, Result, Ok, Err}
use Rattle.sm_reservation.specs.declared.stream_id.StreamId.{StreamId}
use Rattle.sm_plan_code.specs.declared.instruction.Instr.{Instr}
use Rattle.sm_plan_code.specs.Instr.{is_call}
use Rattle.sm_protocol.specs.declared.event.Passage.{Passage}
use Rattle.sm_protocol.specs.declared.event.Passage.TheVariants.{Through, LostBefore, LostAfter}
use Rattle.sm_protocol.specs.declared.event.Played.{Played}
use Rattle.sm_protocol.specs.declared.event.Played.TheVariants as played
use Rattle.sm_protocol.specs.declared.event.RefillFault.{RefillFault}
use Rattle.sm_protocol.specs.State.{State, progress_of, is_running, next_instruction, allowance}
use Rattle.sm_protocol.specs.Steps.{Answered, call_number}
use Rattle.sm_protocol.specs.Happens.{Happening, Step, Lose, happens}
use Rattle.sm_machine.specs.State.{Whole}
use Rattle.sm_machine.specs.Working.{IsWorking}

-- ---- links

-- the call of the try is lost, or its answer is
abbrev pub is_lost : Passage → Bool
is_lost Through = false
is_lost LostBefore = true
is_lost LostAfter = true

-- the event of a step, if the try of a call, if it makes one, has this passage
abbrev pub event_over : StreamId → Passage → Happening
event_over id Through = Step id
event_over id LostBefore = Lose id false
event_over id LostAfter = Lose id true

-- what a stream makes next is a call, and neither another instruction nor its end
abbrev pub is_call_next : Option Instr → Bool
is_call_next None = false
is_call_next (Some i) = is_call i

-- the stream's next step tries a call: streams are not stopped, it is running, its next instruction is a call, and its
-- tries are not spent
abbrev pub makes_try : State → StreamId → Bool
makes_try w id = not w.halted && (is_running w id && (is_call_next (next_instruction w id) && not ((progress_of w id).tries == allowance w id)))

-- a step is answered that its call, or the call's answer, was lost
abbrev pub is_lost_answer : Played → Bool
is_lost_answer played.Lost = true
is_lost_answer _ = false

-- A stream has made a step over a link. The link was asked once, under the number of the try, if the step tries a call,
-- and otherwise not at all.
pub record IsStepOver {L : Type 0} (asked : L → StreamId → ℕ → Passage → L → Type 0) (old new : L) (w : State) (id : StreamId) (answer : Played) (v : State) : Type 0 where
  pub passage : Passage
  pub event : happens w (event_over id passage) ≡ (Answered answer, v)
  pub lost : is_lost_answer answer ≡ is_lost passage
  pub tried : makes_try w id ≡ true → asked old id (call_number w (progress_of w id)) passage new
  pub untried : makes_try w id ≡ false → (new ≡ old) × (passage ≡ Through)

-- ---- refills

-- what a refill is answered, as the log has it
abbrev pub refill_answer : Result (Unit {0}) RefillFault → Played
refill_answer (Ok done) = played.Refilled
refill_answer (Err why) = played.RefillRefused why

-- The event has happened, with this answer, and what every machine keeps is kept.
pub record HasHappened (x : Whole) (e : Happening) (answer : Played) (y : Whole) : Type 0 where
  pub event : happens x.state e ≡ (Answered answer, y.state)
  pub setup : y.setup ≡ x.setup
  pub working : IsWorking y
