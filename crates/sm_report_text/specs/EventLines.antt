-- The lines of events that are played, and of the streams after them.
use Rattle.std.specs.Prelude.{ℕ, Bool, true, false, Option, Some, None, List, [], ◌∷◌, ◌++◌, codes, length}
use Rattle.std.specs.Prelude.{slice_index_or, if◌then◌else◌}
use Rattle.std.specs.Fmt.{decimal}
use Rattle.sm_placement.specs.Setup.{Setup}
use Rattle.sm_task_controller.specs.declared.decision.Denied.{Denied}
use Rattle.sm_task_controller.specs.declared.decision.Denied.TheVariants as denied
use Rattle.sm_protocol.specs.declared.event.BeginFault.{BeginFault}
use Rattle.sm_protocol.specs.declared.event.RefillFault.{RefillFault}
use Rattle.sm_protocol.specs.declared.event.RefillFault.TheVariants as refill_fault
use Rattle.sm_refusals.specs.Plans.{begin_refusal}
use Rattle.sm_refusals.specs.Restarts.{denied_refusal}
use Rattle.sm_report_text.specs.Lines.{line, refusal_line}

-- ---- plans and streams by their names

-- A plan in front of what is said of it: its place in the document, if that has a list of plans; one plan alone goes
-- without it.
abbrev pub plan_front : Bool → ℕ → List ℕ
plan_front true place = codes "plan " ++ decimal place ++ codes ": "
plan_front false place = []

-- a stream, with its plan's place if there may be several
abbrev pub stream_text : Bool → ℕ → ℕ → List ℕ
stream_text true place i = codes "plan " ++ decimal place ++ codes " stream " ++ decimal i
stream_text false place i = codes "stream " ++ decimal i

-- ---- answers

-- an answer that is told by words alone
abbrev pub word_line : List ℕ → List ℕ
word_line word = line (word ∷ [])

-- the stream waits for a signal that is not posted
abbrev pub blocked_line : ℕ → List ℕ
blocked_line signal = line (codes "blocked on signal " ∷ decimal signal ∷ [])

-- a server has executed the request
abbrev pub executed_line : List ℕ → List ℕ
executed_line server = line (codes "executed at " ∷ server ∷ [])

-- the request was passed on to a server: the handover's number, and the place of the pass in the log
abbrev pub passed_line : List ℕ → ℕ → ℕ → List ℕ
passed_line server number place = line (codes "passed to " ∷ server ∷ codes " number " ∷ decimal number ∷ codes " ticket " ∷ decimal place ∷ [])

-- The place in the document of the plan whose stream denies a restart, if the document has a list of plans. The plans
-- have begun from these places, by their numbers.
abbrev pub place_told : Bool → List ℕ → Denied → Option ℕ
place_told true places (denied.Engaged stream) = Some (slice_index_or places stream.plan 0)
place_told many places why = None

-- why a server may not be restarted
abbrev pub denied_line : Setup → Bool → List ℕ → Denied → List ℕ
denied_line setup many places why = refusal_line (denied_refusal setup (place_told many places why) why)

-- why a stream may not make this many more tries
abbrev pub refill_line : RefillFault → List ℕ
refill_line refill_fault.Ended = word_line (codes "refill refused 1 Ended")
refill_line refill_fault.TooMany = word_line (codes "refill refused 2 TooMany")
refill_line refill_fault.LogFull = word_line (codes "refill refused 3 LogFull")

-- the plan has begun: its codes have this many calls, and it has this many streams
abbrev pub begun_counts_line : ℕ → ℕ → List ℕ
begun_counts_line calls streams = line (codes "begun: calls " ∷ decimal calls ∷ codes " streams " ∷ decimal streams ∷ [])

-- Why a plan does not start. The line of NoMemory is in no report: if memory is short, nothing is written. Nor is that
-- of TooManyPlans, since a document has no more plans than may run at once.
abbrev pub not_begun_line : Setup → BeginFault → List ℕ
not_begun_line setup fault = refusal_line (begin_refusal setup fault)

-- the event in front of its answer
abbrev pub event_front : ℕ → List ℕ
event_front i = codes "event " ++ decimal i ++ codes ": "

-- ---- the streams after the events

-- a stream has not finished: how many instructions it has made, and how many its code has
abbrev pub stream_at_line : List ℕ → ℕ → ℕ → List ℕ
stream_at_line stream at length = line (stream ∷ codes ": at " ∷ decimal at ∷ codes " of " ∷ decimal length ∷ [])

-- a stream has finished
abbrev pub stream_done_line : List ℕ → List ℕ
stream_done_line stream = line (stream ∷ codes ": done" ∷ [])

-- no event has begun the plan at this place of the document
abbrev pub waiting_line : ℕ → List ℕ
waiting_line place = line (codes "plan " ∷ decimal place ∷ codes ": not begun" ∷ [])
