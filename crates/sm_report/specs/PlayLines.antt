-- The lines of events that are played, and of the streams after them.
use Rattle.std.specs.Prelude.{ℕ, ◌+◌, Bool, true, false, Option, Some, None, List, [], ◌∷◌, ◌++◌, codes, length}
use Rattle.std.specs.Prelude.{slice_index_or, if◌then◌else◌}
use Rattle.std.specs.List.{flat_map, range_with_len}
use Rattle.std.specs.Fmt.{decimal}
use Rattle.sm_placement.specs.Setup.{Setup}
use Rattle.sm_reservation.specs.declared.stream_id.StreamId.{StreamId}
use Rattle.sm_plan_code.specs.Plan.{PlanModel}
use Rattle.sm_task_controller.specs.declared.decision.Denied.{Denied}
use Rattle.sm_task_controller.specs.declared.decision.Denied.TheVariants as denied
use Rattle.sm_protocol.specs.declared.event.Event.{Event}
use Rattle.sm_protocol.specs.declared.event.Played.{Played}
use Rattle.sm_protocol.specs.declared.event.Played.TheVariants as played
use Rattle.sm_protocol.specs.declared.event.BeginFault.{BeginFault}
use Rattle.sm_protocol.specs.declared.event.BeginFault.TheVariants as begin_fault
use Rattle.sm_protocol.specs.declared.event.RefillFault.{RefillFault}
use Rattle.sm_protocol.specs.declared.event.RefillFault.TheVariants as refill_fault
use Rattle.sm_protocol.specs.State.{State, Progress, stream_id, stream_count, stream_parts, progress_of, plan_at}
use Rattle.sm_protocol.specs.Steps.{Outcome, Refused, Answered}
use Rattle.sm_report_text.specs.Ending.{server_name}
use Rattle.sm_report_text.specs.Checking.{call_count}
use Rattle.sm_report_text.specs.EventLines.{begun_counts_line, blocked_line, denied_line, event_front, executed_line}
use Rattle.sm_report_text.specs.EventLines.{not_begun_line, passed_line, refill_line, stream_at_line, stream_done_line}
use Rattle.sm_report_text.specs.EventLines.{stream_text, waiting_line, word_line}
use Rattle.sm_report.specs.Playing.{Scene, start_number, event_turn}

-- the plan has begun
abbrev pub begun_line : PlanModel → List ℕ
begun_line plan = begun_counts_line (call_count plan) (length plan.streams)

-- The answer to an event, at the scene after it. Halted has no line in any report: nothing halts the machine.
abbrev pub played_line : Setup → Bool → Scene → Played → List ℕ
played_line setup many x played.Moved = word_line (codes "moved")
played_line setup many x (played.Blocked signal) = blocked_line signal
played_line setup many x played.Done = word_line (codes "done")
played_line setup many x played.Halted = []
played_line setup many x played.Lost = word_line (codes "lost")
played_line setup many x played.Spent = word_line (codes "spent")
played_line setup many x played.Refilled = word_line (codes "refilled")
played_line setup many x (played.RefillRefused why) = refill_line why
played_line setup many x (played.Executed server) = executed_line (server_name setup server)
played_line setup many x (played.Passed to number place) = passed_line (server_name setup to) number place
played_line setup many x played.NotOwner = word_line (codes "not owner")
played_line setup many x played.Unavailable = word_line (codes "unavailable")
played_line setup many x played.LogFull = word_line (codes "log full")
played_line setup many x played.Approved = word_line (codes "approved")
played_line setup many x (played.Denied why) = denied_line setup many x.places why
played_line setup many x played.Up = word_line (codes "up")
played_line setup many x (played.Begun number) = begun_line (plan_at x.state number)
played_line setup many x (played.NotBegun why) = not_begun_line setup why
played_line setup many x played.Unknown = word_line (codes "unknown")

-- The line of an event. That a call is refused is in the model alone, and has no line.
abbrev pub outcome_line : Setup → Bool → ℕ → Scene → Outcome → List ℕ
outcome_line setup many i x Refused = []
outcome_line setup many i x (Answered answer) = event_front i ++ played_line setup many x answer

-- the lines of events that are played one after the other, numbered from i
abbrev pub event_lines : Setup → Bool → Scene → ℕ → List Event → List ℕ
event_lines setup many x i [] = []
event_lines setup many x i (e ∷ es) = outcome_line setup many i (event_turn x e).1 (event_turn x e).0
    ++ event_lines setup many (event_turn x e).1 (i + 1) es

-- ---- the streams after the events

-- how far a stream of this name has come, whose code is so long
abbrev pub progress_line_of : List ℕ → ℕ → Progress → List ℕ
progress_line_of stream length progress = if progress.done then stream_done_line stream else stream_at_line stream progress.at length

-- how far a stream of the plan at this place of the document has come
abbrev pub progress_line : Bool → ℕ → State → StreamId → List ℕ
progress_line many place w id = progress_line_of (stream_text many place id.stream) (length (stream_parts w id).code) (progress_of w id)

-- the lines of all streams of the plan with this number
abbrev pub progress_lines : Bool → ℕ → State → ℕ → List ℕ
progress_lines many place w number = flat_map (λ i. progress_line many place w (stream_id number i)) (range_with_len 0 (stream_count w number))

-- the lines of the plan at a place, which has begun with this number or has not
abbrev pub plan_lines_by : Bool → State → ℕ → Option ℕ → List ℕ
plan_lines_by many w place None = waiting_line place
plan_lines_by many w place (Some number) = progress_lines many place w number

-- the lines of the plan at a place
abbrev pub plan_lines : Bool → Scene → ℕ → List ℕ
plan_lines many x place = plan_lines_by many x.state place (start_number x.places place)

-- the lines of all plans, by their places
abbrev pub all_plan_lines : Bool → Scene → List ℕ
all_plan_lines many x = flat_map (plan_lines many x) (range_with_len 0 (length x.waiting))
