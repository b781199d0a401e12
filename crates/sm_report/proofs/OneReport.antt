-- The report of the bytes that are read is one: each stage ends in one way or goes on with one thing, since the verdict on
-- a plan is one.
use Rattle.std.proofs.Common.{◌≡◌, ◌∙◌, ◌+◌, ◌++◌, ◌∷◌, [], ℕ, Bool, false, List, Option, Some, None, Result, Ok, Err, sym, ap, inl, inr}
use Rattle.std.specs.Prelude.{◌≢◌}
use Rattle.sm_placement.specs.Setup.{Setup, Sizes, sizes_of}
use Rattle.sm_placement.specs.Place.{Place}
use Rattle.sm_reservation.specs.Hold.{Hold}
use Rattle.sm_reservation.specs.Pool.{true_rights}
use Rattle.sm_plan_code.specs.Plan.{PlanModel}
use Rattle.sm_verifier.specs.declared.checking.Fault.{Fault}
use Rattle.sm_verifier.specs.declared.checking.Fault.TheVariants.{NoMemory, Budget, SignalNotOnce, Stream, Stuck}
use Rattle.sm_verifier.specs.declared.admission.Holding.{Holding}
use Rattle.sm_verifier.specs.Plan.{IsSound, IsFault}
use Rattle.sm_verifier.specs.Admission.{IsAdmitted, IsHolding}
use Rattle.sm_verifier.specs.Verdict.{IsSameFault}
use Rattle.sm_plan_text.specs.declared.member.Member.TheVariants as member
use Rattle.sm_plan_text.specs.Documents.{DocumentModel}
use Rattle.sm_report.specs.declared.command.Command.{Command}
use Rattle.sm_report.specs.declared.command.Command.TheVariants.{Calls, Check, Play, Plan}
use Rattle.sm_report.specs.Report.{Output, refused}
use Rattle.sm_refusals.specs.Plans.{stuck_refusal}
use Rattle.sm_report_text.specs.Checking.{fault_line, holding_line, accepted_line}
use Rattle.sm_report_text.specs.Lines.{refusal_line}
use Rattle.sm_report.specs.Playing.{Scene}
use Rattle.sm_report_text.specs.EventLines.{plan_front}
use Rattle.sm_protocol.specs.declared.event.Event.{Event}
use Rattle.sm_report.specs.Stages.{Then, read_stage, member_stage, alone_stage, placement_stage, log_stage, begin_stage, IsFaultReport, AtCheck, AtChecks, AtStart}
use Rattle.sm_report.specs.Output.{IsCalled, IsOpenedForCalls, IsAcceptedReport, IsPlanReport, IsOpenedForCheck, plans_of, has_list, IsPlayedOutput, IsBegunForPlay, IsLoggedForPlay, IsPlacedForPlay, IsOpenedForPlay, IsAloneForPlay, IsPlayReport, IsLoggedForPlan, IsPlacedForPlan, IsOpenedForPlan, IsPlanningReport, IsDocumentReport, IsReport}
use Rattle.sm_report.specs.Planning.{aim_stage, opened_basis}
use Rattle.sm_planner.specs.Laws.{RuleAnswersOnce}
use Rattle.sm_report.proofs.PlanAnswers.{answered_one}

-- the check's verdict on a plan is one
pub record IsOneCheck : Type 0 where
  pub fault : (c : Sizes) (plan : PlanModel) (f g : Fault) → IsFault c plan f → IsFault c plan g → f ≢ NoMemory → g ≢ NoMemory → IsSameFault f g
  pub sound : (c : Sizes) (plan : PlanModel) (f : Fault) → IsSound c plan → IsFault c plan f → f ≡ NoMemory

-- the verdict on a plan is one, and so is the planner's answer
pub record IsOneVerdict : Type 0 where
  pub check : IsOneCheck
  pub holding : (c : Sizes) (p : Place) (pool : Hold) (plan : PlanModel) (h k : Holding) → IsHolding c p pool plan h → IsHolding c p pool plan k → h ≡ k
  pub admitted : (c : Sizes) (p : Place) (pool : Hold) (plan : PlanModel) (h : Holding) → IsAdmitted c p pool plan → ¬ IsHolding c p pool plan h
  pub rule : RuleAnswersOnce

-- there is one output at most of which this holds
abbrev pub IsOne : (Output → Type 0) → Type 0
IsOne Is = (a b : Output) → Is a → Is b → a ≡ b

-- ---- each stage

-- one that is a function: the bytes are read, the member is there, the placement is opened
then_one : {A : Type 0} (stage : Result A Output) (Next : A → Output → Type 0) → ((found : A) → IsOne (Next found)) → IsOne (Then stage Next)
then_one (Ok found) Next one = one found
then_one (Err ending) Next one = λ a b x y. x ∙ sym y

-- the same fault has one line
same_line : (f g : Fault) → IsSameFault f g → fault_line f ≡ fault_line g
same_line NoMemory g e = ap fault_line e
same_line (Budget total most) g e = ap fault_line e
same_line (SignalNotOnce k posted awaited) g e = ap fault_line e
same_line (Stream i at why) g e = ap fault_line e
same_line (Stuck ps) NoMemory e = ap fault_line e
same_line (Stuck ps) (Budget total most) e = ap fault_line e
same_line (Stuck ps) (SignalNotOnce k posted awaited) e = ap fault_line e
same_line (Stuck ps) (Stream i at why) e = ap fault_line e
same_line (Stuck ps) (Stuck qs) e = ap (λ positions. refusal_line (stuck_refusal positions)) e

-- the report of a plan's fault is one
pub fault_one : IsOneCheck → (c : Sizes) (front : List ℕ) (plan : PlanModel) → IsOne (IsFaultReport c front plan)
fault_one check c front plan a b x y = x.3 ∙ ap (λ text. refused (front ++ text)) (same_line x.0 y.0 (check.fault c plan x.0 y.0 x.1 y.1 x.2 y.2)) ∙ sym y.3

-- a plan with such a report does not pass the check
pub fault_alone : IsOneCheck → (c : Sizes) (front : List ℕ) (plan : PlanModel) (a : Output) → IsFaultReport c front plan a → ¬ IsSound c plan
fault_alone check c front plan a x sound = x.2 (check.sound c plan x.0 sound x.1)

-- the plan passes the check
check_one : IsOneCheck → (c : Sizes) (front : List ℕ) (plan : PlanModel) (Next : Output → Type 0) → IsOne Next → IsOne (AtCheck c front plan Next)
check_one check c front plan Next one a b (inl x) (inl y) = fault_one check c front plan a b x y
check_one check c front plan Next one a b (inl x) (inr y) = absurd (fault_alone check c front plan a x y.0)
check_one check c front plan Next one a b (inr x) (inl y) = absurd (fault_alone check c front plan b y x.0)
check_one check c front plan Next one a b (inr x) (inr y) = one a b x.1 y.1

-- each plan passes the check
checks_one : IsOneCheck → (c : Sizes) (many : Bool) (k : ℕ) (plans : List PlanModel) (Next : Output → Type 0) → IsOne Next → IsOne (AtChecks c many k plans Next)
checks_one check c many k [] Next one = one
checks_one check c many k (plan ∷ plans) Next one =
    check_one check c (plan_front many k) plan (AtChecks c many (k + 1) plans Next) (checks_one check c many (k + 1) plans Next one)

-- the plan may start
start_one : IsOneVerdict → (setup : Setup) (p : Place) (plan : PlanModel) (Next : Output → Type 0) → IsOne Next → IsOne (AtStart setup p plan Next)
start_one verdict setup p plan Next one a b (inl x) (inl y) =
    x.2 ∙ ap (λ h. refused (holding_line setup h)) (verdict.holding (sizes_of setup) p (true_rights (sizes_of setup) p) plan x.0 y.0 x.1 y.1) ∙ sym y.2
start_one verdict setup p plan Next one a b (inl x) (inr y) = absurd (verdict.admitted (sizes_of setup) p (true_rights (sizes_of setup) p) plan x.0 y.0 x.1)
start_one verdict setup p plan Next one a b (inr x) (inl y) = absurd (verdict.admitted (sizes_of setup) p (true_rights (sizes_of setup) p) plan y.0 x.0 y.1)
start_one verdict setup p plan Next one a b (inr x) (inr y) = one a b x.1 y.1

-- ---- the commands

-- what is said by an equation is one output
given_one : (given : Output) → IsOne (λ output. output ≡ given)
given_one given = λ a b x y. x ∙ sym y

plan_one : IsOneVerdict → (setup : Setup) (plan : PlanModel) (p : Place) → IsOne (IsPlanReport setup plan p)
plan_one verdict setup plan p =
    check_one verdict.check (sizes_of setup) [] plan (AtStart setup p plan (IsAcceptedReport plan))
    (start_one verdict setup p plan (IsAcceptedReport plan) (given_one _))

begun_one : (setup : Setup) (plan : Option PlanModel) (plans : Option (List PlanModel)) (events : List Event) (x : Scene) → IsOne (IsBegunForPlay setup plan plans events x)
begun_one setup (Some plan) None events x = then_one (begin_stage setup x) (IsPlayedOutput setup false (accepted_line plan) events) (λ y. given_one _)
begun_one setup (Some plan) (Some plans) events x = given_one _
begun_one setup None plans events x = given_one _

pub play_one : IsOneVerdict → (d : DocumentModel) → IsOne (IsPlayReport d)
play_one verdict d =
    then_one (alone_stage d.plan d.plans) (IsAloneForPlay d) (λ alone.
    then_one (member_stage member.Events d.events) (IsOpenedForPlay d) (λ events.
    then_one (placement_stage d) (IsPlacedForPlay d events) (λ p.
    then_one (log_stage d p) (IsLoggedForPlay d events p) (λ room.
    checks_one verdict.check (sizes_of d.setup) (has_list d.plans) 0 (plans_of d.plan d.plans) _ (begun_one d.setup d.plan d.plans events _)))))

planning_one : IsOneVerdict → (d : DocumentModel) → IsOne (IsPlanningReport d)
planning_one verdict d =
    then_one (aim_stage d.moves d.drain) (IsOpenedForPlan d) (λ aim.
    then_one (placement_stage d) (IsPlacedForPlan d aim) (λ p.
    then_one (log_stage d p) (IsLoggedForPlan d aim p) (λ room.
    answered_one verdict.rule d.setup (opened_basis d.setup p d.log) aim)))

document_one : IsOneVerdict → (command : Command) (d : DocumentModel) → IsOne (IsDocumentReport command d)
document_one verdict Calls d =
    then_one (member_stage member.Calls d.calls) (IsOpenedForCalls d) (λ calls.
    then_one (placement_stage d) (IsCalled d calls) (λ p. given_one _))
document_one verdict Check d =
    then_one (member_stage member.Plan d.plan) (IsOpenedForCheck d) (λ plan.
    then_one (placement_stage d) (IsPlanReport d.setup plan) (plan_one verdict d.setup plan))
document_one verdict Play d = play_one verdict d
document_one verdict Plan d = planning_one verdict d

-- what a command reports of bytes is one output
pub same_report : IsOneVerdict → (command : Command) (most : ℕ) (bytes : List ℕ) (a b : Output) → IsReport command most bytes a → IsReport command most bytes b → a ≡ b
same_report verdict command most bytes = then_one (read_stage most bytes) (IsDocumentReport command) (document_one verdict command)
