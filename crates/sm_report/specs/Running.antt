-- The report of a plan that is run, with a thread for each of its streams and each ask. The stages before the board are
-- those of the other commands. The outcome of threads depends on their schedule, so the rest is told by what is so at
-- the end.
use Rattle.std.specs.Prelude.{◌≡◌, ◌≢◌, ◌⊎◌, ℕ, Bool, true, false, List, [], ◌++◌, All, None, Option, map}
use Rattle.std.specs.List.{list_all, range_with_len}
use Rattle.sm_placement.specs.Setup.{Setup, sizes_of}
use Rattle.sm_placement.specs.Place.{Place}
use Rattle.sm_reservation.specs.declared.stream_id.StreamId.{StreamId}
use Rattle.sm_plan_code.specs.Plan.{PlanModel}
use Rattle.sm_protocol.specs.declared.event.Event.{Event}
use Rattle.sm_protocol.specs.declared.event.Event.TheVariants as event
use Rattle.sm_protocol.specs.declared.event.Logged.{Logged}
use Rattle.sm_protocol.specs.State.{State, opened, plan_at, stream_count, stream_id}
use Rattle.sm_executor.specs.Clients.{ClientModel, IsClient}
use Rattle.sm_executor.specs.Closed.{IsClosed}
use Rattle.sm_executor.specs.Views.{EndedModel, streams_ended}
use Rattle.sm_plan_text.specs.declared.member.Member.TheVariants as member
use Rattle.sm_plan_text.specs.Documents.{DocumentModel}
use Rattle.sm_report_text.specs.Checking.{accepted_line}
use Rattle.sm_report_text.specs.Ending.{ending}
use Rattle.sm_report.specs.Output.{IsInput}
use Rattle.sm_report.specs.Report.{Output, done}
use Rattle.sm_report.specs.RunLines.{run_lines, client_lines}
use Rattle.sm_report.specs.RunStop.{IsNotFinished}
use Rattle.sm_report.specs.Stages.{Then, read_stage, member_stage, placement_stage, log_stage, start_stage, AtCheck}

-- ---- what came of a run

-- the event is a step of a stream by which no call is lost, or a request
abbrev pub is_step_or_request : Event → Bool
is_step_or_request (event.Step stream) = true
is_step_or_request (event.Arrive shard server) = true
is_step_or_request (event.PassOn place) = true
is_step_or_request _ = false

-- all events of the log are so
abbrev pub are_steps_and_requests : List Logged → Bool
are_steps_and_requests log = list_all (λ line. is_step_or_request line.event) log

-- the first n streams of the plan that began first, in their order
abbrev pub first_streams : ℕ → List StreamId
first_streams n = map (stream_id 0) (range_with_len 0 n)

-- There is an end for each of the plan's streams, in their order, and each client has asked.
pub record HasRun (streams : ℕ) (ended : List EndedModel) (clients : List ClientModel) : Type 0 where
  pub ends : streams_ended ended ≡ first_streams streams
  pub answered : All (λ client. client.asked ≢ None) clients

-- The plan that has begun was run beside asks: with these ends and callers the board is closed at a state at which no
-- other plan has begun, all events of whose log are steps and requests, and at which the servers that are down are
-- those of the opening; there is a client for each ask, of its shard, and each client's answer is one that its ask may
-- come to. The report has the lines of the plan's streams, those of the asks, and the placement at this state.
pub record WasRun (begun : State) (setup : Setup) (asks : List ℕ) (output : Output) : Type 0 where
  pub now : State
  pub ended : List EndedModel
  pub clients : List ClientModel
  pub ran : HasRun (stream_count begun 0) ended clients
  pub shards : map (λ client. client.shard) clients ≡ asks
  pub ways : All (IsClient setup begun) clients
  pub closed : IsClosed setup begun now ended (map (λ client. client.caller) clients)
  pub alone : now.plans ≡ begun.plans
  pub own : are_steps_and_requests now.log ≡ true
  pub down : (v : ℕ) → now.place.down v ≡ begun.opening.down v
  pub told : output ≡ done (accepted_line (plan_at begun 0) ++ run_lines (plan_at begun 0) ++ client_lines setup 0 clients ++ ending setup now.place)

-- the plan that has begun was run beside asks, or it was not run to its end and the report says why
abbrev pub WasRunOrNot : State → Setup → List ℕ → Output → Type 0
WasRunOrNot begun setup asks output = WasRun begun setup asks output ⊎ IsNotFinished output

-- a plan begins from this state, if it may, and is then run beside asks
abbrev pub IsStartedForRun : State → Setup → PlanModel → List ℕ → Output → Type 0
IsStartedForRun opened setup plan asks = Then (start_stage setup opened plan) (λ begun. WasRunOrNot begun setup asks)

-- ---- the report

-- the plan passes the check, and then begins on a machine that is opened at the placement
abbrev pub IsLoggedForRun : DocumentModel → PlanModel → Place → Unit {0} → Output → Type 0
IsLoggedForRun d plan p _ = AtCheck (sizes_of d.setup) [] plan (IsStartedForRun (opened (sizes_of d.setup) p d.log) d.setup plan d.asks)

-- the plan of a document at its placement: the log has to have a place for each server that is down
abbrev pub IsPlacedForRun : DocumentModel → PlanModel → Place → Output → Type 0
IsPlacedForRun d plan p = Then (log_stage d p) (IsLoggedForRun d plan p)

-- the plan of a document: its placement is opened before the plan is run, or the report says why it is not
abbrev pub IsOpenedForRun : DocumentModel → PlanModel → Output → Type 0
IsOpenedForRun d plan = Then (placement_stage d) (IsPlacedForRun d plan)

-- what `run` reports of a document: it has to have a plan, and then the plan is run at its placement
abbrev pub IsRunReport : DocumentModel → Output → Type 0
IsRunReport d = Then (member_stage member.Plan d.plan) (IsOpenedForRun d)

-- what `run` reports of bytes that a reader may have given
abbrev pub IsRunReportOf : ℕ → Option (List ℕ) → Output → Type 0
IsRunReportOf most left output = (bytes : List ℕ) × IsInput left bytes × Then (read_stage most bytes) IsRunReport output
