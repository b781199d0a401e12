-- The next try of a stream's call, and laws that it stays as it is: the call that a stream stands before changes only
-- with the stream's step, and if a try of it is lost, the next one is the same call under the same number.
use Rattle.std.specs.Prelude.{◌≡◌, ℕ, Bool, true, Option, Some, None, List}
use Rattle.sm_placement.specs.Setup.{Setup, sizes_of}
use Rattle.sm_reservation.specs.declared.stream_id.StreamId.{StreamId}
use Rattle.sm_plan_code.specs.declared.instruction.Instr.{Instr}
use Rattle.sm_plan_code.specs.declared.call.ServerCall.{ServerCall}
use Rattle.sm_protocol.specs.declared.event.Played.TheVariants as played
use Rattle.sm_protocol.specs.State.{State, progress_of}
use Rattle.sm_protocol.specs.Steps.{Answered, call_number, call_to_make}
use Rattle.sm_protocol.specs.Happens.{Happening, Lose, Step, happens, run}
use Rattle.sm_protocol.specs.Safe.{unhalted}
use Rattle.sm_protocol.specs.Log.{steps_in}
use Rattle.sm_protocol.specs.Next.{instruction_before}
use Rattle.sm_protocol.specs.Laws.{AllFit, IsReached}

-- A try of a call: the position of its instruction, the call with its shard, its server and the handover number that it
-- carries, and the number that the call is made under.
pub record Try : Type 0 where
  pub at : ℕ
  pub call : ServerCall
  pub number : ℕ

-- the call that a stream tries next if it stands before this instruction, none if that is no call
abbrev pub call_for : State → StreamId → Option Instr → Option ServerCall
call_for w id None = None
call_for w id (Some i) = call_to_make w (progress_of w id) i

-- the call that a running stream tries next
abbrev pub tried_next : State → StreamId → Option ServerCall
tried_next w id = call_for w id (instruction_before w id)

-- the stream's try of this call
abbrev pub try_of : State → StreamId → Option ServerCall → Option Try
try_of w id None = None
try_of w id (Some x) = Some (record { at = (progress_of w id).at; call = x; number = call_number w (progress_of w id) })

-- the try that a running stream makes next, none if it stands before no call
abbrev pub next_try : State → StreamId → Option Try
next_try w id = try_of w id (tried_next w id)

-- Any events that fit have led from one state to the other, the halt flag aside: it may have been set and cleared among
-- them. The log has no further step of the stream. So none of the stream's tries among them was answered.
pub record IsUnanswered (setup : Setup) (id : StreamId) (w new : State) : Type 0 where
  pub events : List Happening
  pub fit : AllFit (sizes_of setup) events
  pub state : unhalted new ≡ run events (unhalted w)
  pub steps : steps_in id new.log ≡ steps_in id w.log

-- The call that a running stream tries next stays the same until the stream makes its step.
abbrev pub CallsStay : Type 0
CallsStay = (setup : Setup) (w new : State) (id : StreamId) (x : ServerCall) → IsReached setup w
    → tried_next w id ≡ Some x → IsUnanswered setup id w new →
    tried_next new id ≡ Some x

-- An event by which a call of the stream is lost loses the try that the stream makes next. From then on its next try is
-- the same, until the stream makes its step.
abbrev pub FurtherTriesRepeat : Type 0
FurtherTriesRepeat = (setup : Setup) (w new : State) (id : StreamId) (after : Bool) → IsReached setup w
    → (happens w (Lose id after)).0 ≡ Answered played.Lost →
    IsUnanswered setup id (happens w (Lose id after)).1 new →
    (t : Try) × (next_try w id ≡ Some t) × (next_try new id ≡ Some t)

-- the server of the call has heard the try's number last: it is the last one of the cell that the call is for
abbrev pub HasHeard : State → Try → Type 0
HasHeard w t = w.place.last t.call.shard t.call.server ≡ t.number

-- A try that comes to its server leaves its number there, be it answered or its answer lost.
abbrev pub LeavesNumbers : State → Type 0
LeavesNumbers w = (id : StreamId) (t : Try) → next_try w id ≡ Some t →
    ((happens w (Step id)).0 ≡ Answered played.Moved → HasHeard (happens w (Step id)).1 t)
    × ((happens w (Lose id true)).0 ≡ Answered played.Lost → HasHeard (happens w (Lose id true)).1 t)
