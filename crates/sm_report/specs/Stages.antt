-- The stages of a report. Every command takes them in this order, and leaves out those that it has no use for: the
-- bytes are read, no two members stand for one thing, the command's member is there, the placement is opened, the log
-- has room for it, the plans pass the check, the plan may start; then comes the command's own text. A stage finds what
-- the next ones need, or ends the report with its line.
use Rattle.std.specs.Prelude.{◌≡◌, ◌≢◌, ◌⊎◌, ◌+◌, ◌++◌, ◌∷◌, [], ℕ, Bool, List, codes, length, Option, Some, None}
use Rattle.std.specs.Prelude.{Result, Ok, Err, nat_lt, if◌then◌else◌}
use Rattle.sm_placement.specs.declared.opening.OpenFault.{OpenFault}
use Rattle.sm_placement.specs.Setup.{Setup, Sizes, sizes_of}
use Rattle.sm_placement.specs.Place.{Place, down_count}
use Rattle.sm_placement.specs.Opening.{opened_place, open_fault}
use Rattle.sm_reservation.specs.Pool.{true_rights}
use Rattle.sm_plan_code.specs.Plan.{PlanModel}
use Rattle.sm_verifier.specs.declared.checking.Fault.{Fault}
use Rattle.sm_verifier.specs.declared.checking.Fault.TheVariants as fault
use Rattle.sm_verifier.specs.declared.admission.Holding.{Holding}
use Rattle.sm_verifier.specs.Plan.{IsSound, IsFault}
use Rattle.sm_verifier.specs.Admission.{IsAdmitted, IsHolding}
use Rattle.sm_plan_text.specs.declared.fault.TextFault.{TextFault}
use Rattle.sm_plan_text.specs.declared.fault.TextFault.TheVariants.{Shape}
use Rattle.sm_plan_text.specs.declared.member.Member.{Member}
use Rattle.sm_plan_text.specs.declared.member.Member.TheVariants as members
use Rattle.sm_plan_text.specs.Documents.{DocumentModel}
use Rattle.sm_plan_text.specs.Opened.{opening_of}
use Rattle.sm_plan_text.specs.Reading.{read}
use Rattle.sm_report.specs.Report.{Output, bad_input, refused}
use Rattle.sm_report_text.specs.BadInput.{text_fault_line, too_long_line}
use Rattle.sm_report_text.specs.Opening.{open_fault_line}
use Rattle.sm_report_text.specs.Checking.{fault_line, holding_line}
use Rattle.sm_report_text.specs.Lines.{line}
use Rattle.sm_report.specs.Playing.{Scene, event_turn}
use Rattle.sm_report_text.specs.EventLines.{plan_front, not_begun_line}
use Rattle.sm_protocol.specs.declared.event.Event.TheVariants.{Begin}
use Rattle.sm_protocol.specs.declared.event.Played.TheVariants.{NotBegun}
use Rattle.sm_protocol.specs.State.{State}
use Rattle.sm_protocol.specs.Steps.{Outcome, Answered}
use Rattle.sm_protocol.specs.Happens.{happens}
use Rattle.sm_protocol.specs.Happens as happening

-- The report if a stage comes before the others: what the next ones say of what it found, or its own ending.
abbrev pub Then : {A : Type 0} → Result A Output → (A → Output → Type 0) → Output → Type 0
Then (Ok found) Next output = Next found output
Then (Err ending) Next output = output ≡ ending

-- ---- stages that are functions of what came before

-- the document that was read, or the report of what is wrong with the bytes
abbrev pub read_or_bad : Result DocumentModel TextFault → Result DocumentModel Output
read_or_bad (Ok d) = Ok d
read_or_bad (Err fault) = Err (bad_input (text_fault_line fault))

-- the bytes are read, if there are no more than may be
abbrev pub read_stage : ℕ → List ℕ → Result DocumentModel Output
read_stage most bytes = if nat_lt most (length bytes) then Err (bad_input too_long_line) else read_or_bad (read bytes)

-- the member that the command needs is there
abbrev pub member_stage : {A : Type 0} → Member → Option A → Result A Output
member_stage m (Some value) = Ok value
member_stage m None = Err (bad_input (text_fault_line (Shape m)))

-- a document has one plan, or a list of plans
abbrev pub alone_stage : Option PlanModel → Option (List PlanModel) → Result (Unit {0}) Output
alone_stage (Some plan) (Some plans) = Err (bad_input (text_fault_line (Shape members.Plans)))
alone_stage _ _ = Ok tt

-- the placement of the document, or the report of why it is not opened
abbrev pub opened_or_refused : DocumentModel → Option OpenFault → Result Place Output
opened_or_refused d None = Ok (opened_place (opening_of d))
opened_or_refused d (Some fault) = Err (refused (open_fault_line d.setup fault))

-- the placement is opened
abbrev pub placement_stage : DocumentModel → Result Place Output
placement_stage d = opened_or_refused d (open_fault (sizes_of d.setup) (opening_of d))

-- the line of a log that has fewer places than servers are down
abbrev pub log_refused_line : List ℕ
log_refused_line = line (codes "log refused: 2 LogFull" ∷ [])

-- the log has a place for the end of the restart of each server that is down
abbrev pub log_stage : DocumentModel → Place → Result (Unit {0}) Output
log_stage d p = if nat_lt d.log (down_count (sizes_of d.setup) p) then Err (refused log_refused_line) else Ok tt

-- what the start of a plan led to, or the report of why the plan does not start
abbrev pub begun_or_refused : {A : Type 0} → Setup → Outcome → A → Result A Output
begun_or_refused setup (Answered (NotBegun why)) x = Err (refused (not_begun_line setup why))
begun_or_refused setup _ x = Ok x

-- the plan at the first place has begun, before any event
abbrev pub begin_stage : Setup → Scene → Result Scene Output
begin_stage setup x = begun_or_refused setup (event_turn x (Begin 0)).0 (event_turn x (Begin 0)).1

-- a plan has begun from this state, before it is run
abbrev pub start_stage : Setup → State → PlanModel → Result State Output
start_stage setup w plan = begun_or_refused setup (happens w (happening.Begin plan)).0 (happens w (happening.Begin plan)).1

-- ---- stages that are told by what is true of the plan

-- the report ends with the plan's first fault, behind this front
abbrev pub IsFaultReport : Sizes → List ℕ → PlanModel → Output → Type 0
IsFaultReport c front plan output = (f : Fault) × IsFault c plan f × (f ≢ fault.NoMemory)
    × (output ≡ refused (front ++ fault_line f))

-- the plan passes the check
abbrev pub AtCheck : Sizes → List ℕ → PlanModel → (Output → Type 0) → Output → Type 0
AtCheck c front plan Next output = IsFaultReport c front plan output ⊎ (IsSound c plan × Next output)

-- each plan passes the check; a document with a list of plans names the one that does not by its place, which is
-- counted from k
abbrev pub AtChecks : Sizes → Bool → ℕ → List PlanModel → (Output → Type 0) → Output → Type 0
AtChecks c many k [] Next output = Next output
AtChecks c many k (plan ∷ plans) Next output = AtCheck c (plan_front many k) plan (AtChecks c many (k + 1) plans Next) output

-- the report ends with the first thing that holds the plan up at a placement whose pool has all rights
abbrev pub IsHoldingReport : Setup → Place → PlanModel → Output → Type 0
IsHoldingReport setup p plan output =
    (h : Holding) × IsHolding (sizes_of setup) p (true_rights (sizes_of setup) p) plan h
    × (output ≡ refused (holding_line setup h))

-- the plan may start at a placement whose pool has all rights
abbrev pub AtStart : Setup → Place → PlanModel → (Output → Type 0) → Output → Type 0
AtStart setup p plan Next output =
    IsHoldingReport setup p plan output
    ⊎ (IsAdmitted (sizes_of setup) p (true_rights (sizes_of setup) p) plan × Next output)
