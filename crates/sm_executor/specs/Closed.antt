-- The facts that hold when a board is closed, and why one is not.
-- `room_kept` is internal: you need not read it for the public contracts.
use Rattle.std.specs.Prelude.{◌≡◌, ◌≤◌, ◌*◌, ◌++◌, ◌∷◌, [], ℕ, zero, suc, Bool, true, List, Option, Some, None, Vec}
use Rattle.std.specs.Prelude.{length, map, sum, if◌then◌else◌, vec_capacity}
use Rattle.std.specs.Global.{Global}
use Rattle.sm_placement.specs.Setup.{Setup}
use Rattle.sm_reservation.specs.declared.stream_id.StreamId.{StreamId}
use Rattle.sm_plan_code.specs.declared.limits.TheConstants.{MOST_STREAMS}
use Rattle.sm_protocol.specs.State.{State, stream_id, stream_count, is_begun}
use Rattle.sm_protocol.specs.Happens.{Happening, happens}
use Rattle.sm_protocol.specs.Laws.{AreDone, FitsConfig, IsReached}
use Rattle.sm_protocol.specs.Log.{IsInLog, IsAtEnds}
use Rattle.sm_executor.specs.declared.closing.CloseFault.{CloseFault}
use Rattle.sm_executor.specs.declared.closing.CloseFault.TheVariants.{NotDone, BookDiffers}
use Rattle.sm_executor.specs.declared.limits.TheConstants.{MOST_CALLERS}
use Rattle.sm_executor.specs.Counting.{IsBooked}
use Rattle.sm_executor.specs.Views.{HeldModel, state_in, EndedModel, CallerModel}

-- ---- the streams that have not finished

-- the first n streams of a plan that have not finished, each with how many instructions it has made
abbrev pub unfinished_in : State → ℕ → ℕ → List (StreamId × ℕ)
unfinished_in w k zero = []
unfinished_in w k (suc i) = unfinished_in w k i
    ++ (if (w.progress k i).done then [] else (stream_id k i, (w.progress k i).at) ∷ [])

-- those of the first k plans
abbrev pub unfinished_to : State → ℕ → List (StreamId × ℕ)
unfinished_to w zero = []
unfinished_to w (suc k) = unfinished_to w k ++ unfinished_in w k (stream_count w k)

-- all of them, by their plans and then by their own numbers
abbrev pub unfinished_streams : State → List (StreamId × ℕ)
unfinished_streams w = unfinished_to w (length w.plans)

-- ---- the states of a board

-- Events have led from the opening to this state, and between them the halt flag may have been set and cleared.
pub data GoesOn (opened : State) : State → Type 0 where
  Stays : GoesOn opened opened
  Plays : (w : State) (e : Happening) → FitsConfig opened.sizes e → GoesOn opened w → GoesOn opened (happens w e).1
  Flags : (w : State) (flag : Bool) → GoesOn opened w → GoesOn opened (record w { halted = flag })

-- A state of a board with this configuration: events have led to it from a placement of the configuration, and from the
-- board's opening.
--
-- No contract has a name for the state that lay behind the lock at a moment, so a clause of the board tells what a call
-- does at some such state. It excludes what no list of events since the opening leads to: an answer by a server that
-- did not get the request, a ticket or a number of another pass, a count that does not rise with the answer, a link
-- that is asked otherwise than the step asks. It does not exclude what comes about at another of these states: a halted
-- board, a full log, a ticket that is spent, a caller too many, or a stream that has not finished if it had not at the
-- opening. That these come only from the state behind the lock is told by the code and by tests.
pub record IsBoardState (setup : Setup) (opened now : State) : Type 0 where
  pub reached : IsReached setup now
  pub goes_on : GoesOn opened now

-- A state of the board at which every stream has finished: the log has each stream's instructions in their order, each
-- once, and then its end; and the placement is the end of the plans in the order of their starts, whatever the schedule
-- was.
pub record IsDoneState (setup : Setup) (opened now : State) : Type 0 where
  pub state : IsBoardState setup opened now
  pub done : AreDone now
  pub in_log : (id : StreamId) → is_begun now id ≡ true → IsInLog now id
  pub at_ends : IsAtEnds now

-- ---- the account

-- The books, from the opening to now, are the sums of what these ends and callers have counted.
abbrev pub IsAccount : State → State → List EndedModel → List CallerModel → Type 0
IsAccount opened now ended callers = IsBooked opened now (sum (map (λ e. e.counted) ended)) (sum (map (λ c. c.executed) callers)) (sum (map (λ c. c.refused) callers))

-- What lies behind the lock has given out 64 runners at most for each plan, and 4,096 callers.
pub record HasGiven (h : HeldModel) : Type 0 where
  pub runners : h.runners ≤ MOST_STREAMS * length (state_in h).plans
  pub callers : h.callers ≤ MOST_CALLERS

-- as many ends and callers are handed in as runners and callers were given out
abbrev pub AreAllBack : HeldModel → ℕ → ℕ → Type 0
AreAllBack h ended callers = (ended ≡ h.runners) × (callers ≡ h.callers)

-- At this state of the board every stream has finished, as many ends and callers came back as runners and callers can
-- have been given out, and the log since the opening has as many steps, executed and refused requests as these have
-- counted.
pub record IsClosed (setup : Setup) (opened now : State) (ended : List EndedModel) (callers : List CallerModel) : Type 0 where
  pub state : IsDoneState setup opened now
  pub ends : length ended ≤ MOST_STREAMS * length now.plans
  pub most_callers : length callers ≤ MOST_CALLERS
  pub account : IsAccount opened now ended callers

-- Why a board is not closed with these numbers of ends and callers: streams have not finished, and all of these are
-- named; or each has finished, and not all runners and callers are back.
abbrev pub StaysOpenFor : HeldModel → ℕ → ℕ → CloseFault → Type 0
StaysOpenFor h ended callers (NotDone positions) = (positions.items ≡ unfinished_streams (state_in h))
    × ¬ AreDone (state_in h)
StaysOpenFor h ended callers BookDiffers = AreDone (state_in h) × ¬ AreAllBack h ended callers

-- the room for the streams that have not finished, which the fault has, or which is left over
abbrev pub room_kept : CloseFault → Option (Vec (StreamId × ℕ) Global) → ℕ
room_kept (NotDone positions) room = vec_capacity positions
room_kept BookDiffers (Some room) = vec_capacity room
room_kept BookDiffers None = 0

-- what a contract sees of a board that is not closed: why, and what came back
pub record NotClosedModel : Type 0 where
  pub fault : CloseFault
  pub ended : List EndedModel
  pub callers : List CallerModel

-- At a state of the board, with some numbers of runners and callers given out, it is not closed for this reason.
pub record IsNotClosed (setup : Setup) (opened : State) (ended callers : ℕ) (fault : CloseFault) : Type 0 where
  pub held : HeldModel
  pub state : IsBoardState setup opened (state_in held)
  pub given : HasGiven held
  pub why : StaysOpenFor held ended callers fault
