-- The report of each command, for all the bytes that may be read.
-- `IsReadAs` is internal: you need not read it for the public contracts.
use Rattle.std.specs.Prelude.{◌≡◌, ℕ, Bool, true, false, List, [], ◌∷◌, ◌++◌, Option, Some, None, IfSome, Result}
use Rattle.sm_placement.specs.Setup.{Setup, sizes_of}
use Rattle.sm_placement.specs.Place.{Place}
use Rattle.sm_plan_code.specs.Plan.{PlanModel}
use Rattle.sm_plan_text.specs.declared.member.Member.TheVariants as member
use Rattle.sm_plan_text.specs.Calls.{NamedCall}
use Rattle.sm_plan_text.specs.Documents.{DocumentModel}
use Rattle.sm_report.specs.declared.command.Command.{Command}
use Rattle.sm_report.specs.declared.command.Command.TheVariants.{Calls, Check, Play, Plan}
use Rattle.sm_report.specs.Answers.{answer_lines, place_after_all}
use Rattle.sm_report_text.specs.Checking.{accepted_line}
use Rattle.sm_report_text.specs.Ending.{ending}
use Rattle.sm_report.specs.Report.{Output, done}
use Rattle.sm_report.specs.Stages.{Then, read_stage, member_stage, alone_stage, placement_stage, log_stage, begin_stage}
use Rattle.sm_report.specs.Stages.{AtCheck, AtChecks, AtStart}
use Rattle.sm_report.specs.Playing.{Scene, opened_scene, scene_after}
use Rattle.sm_report.specs.PlayLines.{event_lines, all_plan_lines}
use Rattle.sm_report.specs.Planning.{Aim, aim_stage, opened_basis, IsAnswered}
use Rattle.sm_protocol.specs.declared.event.Event.{Event}

-- ---- `calls`

-- the answers to calls that are made one after the other, and the placement after them
abbrev pub calls_output : Setup → Place → List NamedCall → Output
calls_output setup p calls = done (answer_lines (sizes_of setup) p 0 calls ++ ending setup (place_after_all (sizes_of setup) p calls))

-- the calls of a document at a placement
abbrev pub IsCalled : DocumentModel → List NamedCall → Place → Output → Type 0
IsCalled d calls p output = output ≡ calls_output d.setup p calls

-- the calls of a document: its placement is opened before they are made, or the report says why it is not
abbrev pub IsOpenedForCalls : DocumentModel → List NamedCall → Output → Type 0
IsOpenedForCalls d calls = Then (placement_stage d) (IsCalled d calls)

-- what `calls` reports of a document: it has to have calls, and then they are made at its placement
abbrev pub IsCallsReport : DocumentModel → Output → Type 0
IsCallsReport d = Then (member_stage member.Calls d.calls) (IsOpenedForCalls d)

-- ---- `check`

-- a plan that may start is accepted
abbrev pub IsAcceptedReport : PlanModel → Output → Type 0
IsAcceptedReport plan output = output ≡ done (accepted_line plan)

-- a plan at a placement
abbrev pub IsPlanReport : Setup → PlanModel → Place → Output → Type 0
IsPlanReport setup plan p = AtCheck (sizes_of setup) [] plan (AtStart setup p plan (IsAcceptedReport plan))

-- the plan of a document: its placement is opened before the plan is checked, or the report says why it is not
abbrev pub IsOpenedForCheck : DocumentModel → PlanModel → Output → Type 0
IsOpenedForCheck d plan = Then (placement_stage d) (IsPlanReport d.setup plan)

-- what `check` reports of a document: it has to have a plan, and then the plan is checked at its placement
abbrev pub IsCheckReport : DocumentModel → Output → Type 0
IsCheckReport d = Then (member_stage member.Plan d.plan) (IsOpenedForCheck d)

-- ---- `play`

-- The plans of a document that has one, or a list of them, or none.
abbrev pub plans_of : Option PlanModel → Option (List PlanModel) → List PlanModel
plans_of plan (Some plans) = plans
plans_of (Some plan) None = plan ∷ []
plans_of None None = []

-- it has a list of them
abbrev pub has_list : Option (List PlanModel) → Bool
has_list (Some plans) = true
has_list None = false

-- the answers to events that are played one after the other behind this front, how far the streams have come, and the
-- placement after them
abbrev pub played_output : Setup → Bool → List ℕ → List Event → Scene → Output
played_output setup many front events x =
    done (front ++ event_lines setup many x 0 events ++ all_plan_lines many (scene_after events x) ++ ending setup (scene_after events x).state.place)

-- the events are played at a scene
abbrev pub IsPlayedOutput : Setup → Bool → List ℕ → List Event → Scene → Output → Type 0
IsPlayedOutput setup many front events x output = output ≡ played_output setup many front events x

-- One plan has begun before any event, and is accepted then; the plans of a list are begun by events.
abbrev pub IsBegunForPlay : Setup → Option PlanModel → Option (List PlanModel) → List Event → Scene → Output → Type 0
IsBegunForPlay setup (Some plan) None events x = Then (begin_stage setup x) (IsPlayedOutput setup false (accepted_line plan) events)
IsBegunForPlay setup plan plans events x = IsPlayedOutput setup (has_list plans) [] events x

-- the plans of a document at its placement, which has room in the log
abbrev pub IsLoggedForPlay : DocumentModel → List Event → Place → Unit {0} → Output → Type 0
IsLoggedForPlay d events p _ =
    AtChecks (sizes_of d.setup) (has_list d.plans) 0 (plans_of d.plan d.plans)
    (IsBegunForPlay d.setup d.plan d.plans events (opened_scene (sizes_of d.setup) p d.log (plans_of d.plan d.plans)))

-- the events of a document at its placement: the log has to have a place for each server that is down
abbrev pub IsPlacedForPlay : DocumentModel → List Event → Place → Output → Type 0
IsPlacedForPlay d events p = Then (log_stage d p) (IsLoggedForPlay d events p)

-- the events of a document: its placement is opened before they are played, or the report says why it is not
abbrev pub IsOpenedForPlay : DocumentModel → List Event → Output → Type 0
IsOpenedForPlay d events = Then (placement_stage d) (IsPlacedForPlay d events)

-- a document that has not both a plan and a list of plans: it has to have events
abbrev pub IsAloneForPlay : DocumentModel → Unit {0} → Output → Type 0
IsAloneForPlay d _ = Then (member_stage member.Events d.events) (IsOpenedForPlay d)

-- what `play` reports of a document: it may not have both a plan and a list of plans, and then its events are played
abbrev pub IsPlayReport : DocumentModel → Output → Type 0
IsPlayReport d = Then (alone_stage d.plan d.plans) (IsAloneForPlay d)

-- ---- `plan`

-- a plan is made for a machine that is opened at a placement, whose log has room
abbrev pub IsLoggedForPlan : DocumentModel → Aim → Place → Unit {0} → Output → Type 0
IsLoggedForPlan d aim p _ = IsAnswered d.setup (opened_basis d.setup p d.log) aim

-- a plan is made for a document at its placement: the log has to have a place for each server that is down
abbrev pub IsPlacedForPlan : DocumentModel → Aim → Place → Output → Type 0
IsPlacedForPlan d aim p = Then (log_stage d p) (IsLoggedForPlan d aim p)

-- a plan is made for a document: its placement is opened before that, or the report says why it is not
abbrev pub IsOpenedForPlan : DocumentModel → Aim → Output → Type 0
IsOpenedForPlan d aim = Then (placement_stage d) (IsPlacedForPlan d aim)

-- what `plan` reports of a document: it has to have moves or a server to empty, and then a plan is made for that
abbrev pub IsPlanningReport : DocumentModel → Output → Type 0
IsPlanningReport d = Then (aim_stage d.moves d.drain) (IsOpenedForPlan d)

-- ---- all commands

-- what a command reports of a document that was read
abbrev pub IsDocumentReport : Command → DocumentModel → Output → Type 0
IsDocumentReport Calls d = IsCallsReport d
IsDocumentReport Check d = IsCheckReport d
IsDocumentReport Play d = IsPlayReport d
IsDocumentReport Plan d = IsPlanningReport d

-- what a command reports of the bytes that are read, if there are at most this many
abbrev pub IsReport : Command → ℕ → List ℕ → Output → Type 0
IsReport command most bytes = Then (read_stage most bytes) (IsDocumentReport command)

-- bytes that a reader may have given, which are those that were left in it where these are known
abbrev pub IsInput : Option (List ℕ) → List ℕ → Type 0
IsInput left bytes = IfSome left (λ known. bytes ≡ known)

-- bytes that a reader may have given are read as this document, or end the report so
abbrev pub IsReadAs : Option (List ℕ) → ℕ → Result DocumentModel Output → Type 0
IsReadAs left most found = (bytes : List ℕ) × IsInput left bytes × (read_stage most bytes ≡ found)

-- what a command reports of bytes that a reader may have given
abbrev pub IsReportOf : Command → ℕ → Option (List ℕ) → Output → Type 0
IsReportOf command most left output = (bytes : List ℕ) × IsInput left bytes × IsReport command most bytes output
