-- The bytes that are read have a report: each stage ends or goes on, since a plan of a document is sound or has a fault, and
-- may start or is held up.
use Rattle.std.proofs.Common.{◌≡◌, ◌<◌, ◌+◌, ◌++◌, ◌∷◌, [], ℕ, zero, suc, Bool, true, false, All, IfSome, arith, Option, Some, None, Result, Ok, Err, List, length, nat_lt, refl, inl, inr}
use Rattle.std.specs.Prelude.{slice_index_or}
use Rattle.std.proofs.lemmas.Bool.{cases_Bool}
use Rattle.sm_placement.specs.Setup.{Setup, sizes_of}
use Rattle.sm_placement.specs.Place.{Place}
use Rattle.sm_reservation.specs.Pool.{true_rights}
use Rattle.sm_plan_code.specs.Plan.{PlanModel}
use Rattle.sm_verifier.specs.declared.admission.Holding.{Holding}
use Rattle.sm_verifier.specs.FirstHolding.{first_holding, DecidesHolding, FindsHolding}
use Rattle.sm_verifier.specs.Verdict.{FindsFault}
use Rattle.sm_plan_text.specs.declared.fault.TextFault.{TextFault}
use Rattle.sm_plan_text.specs.declared.member.Member.TheVariants as member
use Rattle.sm_plan_text.specs.Documents.{DocumentModel}
use Rattle.sm_plan_text.specs.Reading.{read}
use Rattle.sm_plan_text.proofs.ReadPlans.{IsPlanOf, HasItsPlans, read_has_plan}
use Rattle.sm_report.specs.declared.command.Command.{Command}
use Rattle.sm_report.specs.declared.command.Command.TheVariants.{Calls, Check, Play, Plan}
use Rattle.sm_report.specs.Report.{Output, refused, done}
use Rattle.sm_report.specs.Playing.{Scene}
use Rattle.sm_protocol.specs.declared.event.Event.{Event}
use Rattle.sm_report_text.specs.Checking.{fault_line, holding_line, accepted_line}
use Rattle.sm_report_text.specs.EventLines.{plan_front}
use Rattle.sm_report.specs.Stages.{Then, read_or_bad, read_stage, member_stage, alone_stage, placement_stage, log_stage, begin_stage, AtCheck, AtChecks, AtStart}
use Rattle.sm_report.specs.Output.{calls_output, IsCalled, IsOpenedForCalls, IsAcceptedReport, IsPlanReport, IsOpenedForCheck, plans_of, has_list, played_output, IsPlayedOutput, IsBegunForPlay, IsLoggedForPlay, IsPlacedForPlay, IsOpenedForPlay, IsAloneForPlay, IsPlayReport, IsLoggedForPlan, IsPlacedForPlan, IsOpenedForPlan, IsPlanningReport, IsDocumentReport, IsReport}
use Rattle.sm_report.specs.Planning.{aim_stage, opened_basis}
use Rattle.sm_planner.specs.Laws.{RuleAnswersOnce}
use Rattle.sm_report.proofs.PlanAnswers.{answered_some}
use Rattle.sm_report.proofs.Onward.{member_there}

-- each plan has its verdict, and the planner has its answer
pub record HasVerdicts : Type 0 where
  pub fault : FindsFault
  pub holding : FindsHolding
  pub rule : RuleAnswersOnce

-- there is an output of which this holds
abbrev pub IsMade : (Output → Type 0) → Type 0
IsMade Is = (output : Output) × Is output

-- ---- each stage

then_some : {A : Type 0} (stage : Result A Output) (Next : A → Output → Type 0) → ((found : A) → stage ≡ Ok found → IsMade (Next found)) → IsMade (Then stage Next)
then_some (Ok found) Next next = next found refl
then_some (Err ending) Next next = (ending, refl)

check_some : FindsFault → (setup : Setup) (front : List ℕ) (plan : PlanModel) (Next : Output → Type 0) → IsPlanOf setup plan → IsMade Next → IsMade (AtCheck (sizes_of setup) front plan Next)
check_some finds setup front plan Next it next = elim (finds (sizes_of setup) plan it.is it.fits) [
  | inl sound ↦ (next.0, inr (sound, next.1))
  | inr fault ↦ (refused (front ++ fault_line fault.0), inl (fault.0, fault.1, fault.2, refl))
]

start_some : FindsHolding → (setup : Setup) (p : Place) (plan : PlanModel) (Next : Output → Type 0) → IsPlanOf setup plan → IsMade Next → IsMade (AtStart setup p plan Next)
start_some finds setup p plan Next it next = go (first_holding (sizes_of setup) p (true_rights (sizes_of setup) p) plan) refl
  where
    decides : DecidesHolding (sizes_of setup) p (true_rights (sizes_of setup) p) plan
    decides = finds (sizes_of setup) p (true_rights (sizes_of setup) p) plan it.is.parcels it.fits

    go : (found : Option Holding) → first_holding (sizes_of setup) p (true_rights (sizes_of setup) p) plan ≡ found → IsMade (AtStart setup p plan Next)
    go None is = (next.0, inr (decides.none.0 is, next.1))
    go (Some h) is = (refused (holding_line setup h), inl (h, (decides.some h).0 is, refl))

-- ---- the commands

plan_some : HasVerdicts → (setup : Setup) (plan : PlanModel) (p : Place) → IsPlanOf setup plan → IsMade (IsPlanReport setup plan p)
plan_some verdicts setup plan p it =
    check_some verdicts.fault setup [] plan (AtStart setup p plan (IsAcceptedReport plan)) it
    (start_some verdicts.holding setup p plan (IsAcceptedReport plan) it (done (accepted_line plan), refl))

-- each plan of a list passes the check, or the report ends with the first that does not
checks_some : FindsFault → (setup : Setup) (many : Bool) (k : ℕ) (plans : List PlanModel) (Next : Output → Type 0) → All (IsPlanOf setup) plans → IsMade Next → IsMade (AtChecks (sizes_of setup) many k plans Next)
checks_some finds setup many k [] Next all next = next
checks_some finds setup many k (plan ∷ plans) Next all next =
    check_some finds setup (plan_front many k) plan (AtChecks (sizes_of setup) many (k + 1) plans Next) (all 0 plan (omega arith))
    (checks_some finds setup many (k + 1) plans Next (λ i d below. all (suc i) d (omega arith)) next)

begun_some : (setup : Setup) (plan : Option PlanModel) (plans : Option (List PlanModel)) (events : List Event) (x : Scene) → IsMade (IsBegunForPlay setup plan plans events x)
begun_some setup (Some plan) None events x = then_some (begin_stage setup x) (IsPlayedOutput setup false (accepted_line plan) events) (λ y begun. (played_output setup false (accepted_line plan) events y, refl))
begun_some setup (Some plan) (Some plans) events x = (played_output setup true [] events x, refl)
begun_some setup None None events x = (played_output setup false [] events x, refl)
begun_some setup None (Some plans) events x = (played_output setup true [] events x, refl)

all_plans : (setup : Setup) (plan : Option PlanModel) (plans : Option (List PlanModel)) → IfSome plan (IsPlanOf setup) → IfSome plans (All (IsPlanOf setup)) → All (IsPlanOf setup) (plans_of plan plans)
all_plans setup plan (Some plans) one all = all
all_plans setup (Some plan) None one all = by_place
  where
    by_place : (k : ℕ) (d : PlanModel) → k < 1 → IsPlanOf setup (slice_index_or (plan ∷ []) k d)
    by_place zero d below = one
    by_place (suc k) d below = absurd (omega arith)
all_plans setup None None one all = λ k d below. absurd (omega arith)

play_some : HasVerdicts → (d : DocumentModel) → HasItsPlans d → IsMade (IsPlayReport d)
play_some verdicts d has =
    then_some (alone_stage d.plan d.plans) (IsAloneForPlay d) (λ alone first.
    then_some (member_stage member.Events d.events) (IsOpenedForPlay d) (λ events there.
    then_some (placement_stage d) (IsPlacedForPlay d events) (λ p opened.
    then_some (log_stage d p) (IsLoggedForPlay d events p) (λ room logged.
    checks_some verdicts.fault d.setup (has_list d.plans) 0 (plans_of d.plan d.plans) _ (all_plans d.setup d.plan d.plans has.plan has.plans)
    (begun_some d.setup d.plan d.plans events _)))))

planning_some : HasVerdicts → (d : DocumentModel) → HasItsPlans d → IsMade (IsPlanningReport d)
planning_some verdicts d has =
    then_some (aim_stage d.moves d.drain) (IsOpenedForPlan d) (λ aim there.
    then_some (placement_stage d) (IsPlacedForPlan d aim) (λ p opened.
    then_some (log_stage d p) (IsLoggedForPlan d aim p) (λ room logged.
    answered_some verdicts.rule d.setup (opened_basis d.setup p d.log) aim (let few = has.shards in omega arith))))

document_some : HasVerdicts → (command : Command) (d : DocumentModel) → HasItsPlans d → IsMade (IsDocumentReport command d)
document_some verdicts Calls d has =
    then_some (member_stage member.Calls d.calls) (IsOpenedForCalls d) (λ calls there.
    then_some (placement_stage d) (IsCalled d calls) (λ p opened. (calls_output d.setup p calls, refl)))
document_some verdicts Check d has =
    then_some (member_stage member.Plan d.plan) (IsOpenedForCheck d) (λ plan there.
    then_some (placement_stage d) (IsPlanReport d.setup plan) (λ p opened.
    plan_some verdicts d.setup plan p (member_there (IsPlanOf d.setup) member.Plan d.plan plan there has.plan)))
document_some verdicts Play d has = play_some verdicts d has
document_some verdicts Plan d has = planning_some verdicts d has

-- ---- what is read

read_or_bad_ok : (found : Result DocumentModel TextFault) (d : DocumentModel) → read_or_bad found ≡ Ok d → found ≡ Ok d
read_or_bad_ok (Ok rows) d e = cc
read_or_bad_ok (Err fault) d e = absurd (cc)

stage_has_plan : (most : ℕ) (bytes : List ℕ) (d : DocumentModel) → read_stage most bytes ≡ Ok d → HasItsPlans d
stage_has_plan most bytes d e = elim (cases_Bool (nat_lt most (length bytes))) [
  | inl long ↦ absurd (let ended = rw long at e in cc)
  | inr short ↦ read_has_plan bytes d (read_or_bad_ok (read bytes) d (rw short at e))
]

-- what a command reports of bytes is some output
pub some_report : HasVerdicts → (command : Command) (most : ℕ) (bytes : List ℕ) → (output : Output) × IsReport command most bytes output
some_report verdicts command most bytes =
    then_some (read_stage most bytes) (IsDocumentReport command) (λ d read. document_some verdicts command d (stage_has_plan most bytes d read))
