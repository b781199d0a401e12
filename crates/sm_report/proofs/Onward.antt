-- A stage of the code does what the stage of the definition says: it goes on, or it ends the report.
use Rattle.std.proofs.Common.{◌≡◌, ◌∙◌, Option, Some, None, Result, Ok, Err, IfSome, [], sym, ap, subst, refl, inl, inr}
use Rattle.sm_placement.specs.Setup.{Setup, sizes_of}
use Rattle.sm_placement.specs.Place.{Place}
use Rattle.sm_reservation.specs.Pool.{true_rights}
use Rattle.sm_plan_code.specs.Plan.{PlanModel}
use Rattle.sm_verifier.specs.Plan.{IsSound}
use Rattle.sm_verifier.specs.Admission.{IsAdmitted}
use Rattle.sm_plan_text.specs.declared.member.Member.{Member}
use Rattle.sm_report.specs.declared.stop.Stop.{Stop}
use Rattle.sm_report.specs.declared.stop.Stop.TheVariants.{NoMemory, ReadFailed, Report}
use Rattle.sm_report.specs.Report.{Output, done}
use Rattle.sm_report_text.specs.Checking.{accepted_line}
use Rattle.sm_report.specs.Stop.{IfEnded, IfMade}
use Rattle.sm_report.specs.Stages.{Then, member_stage, IsFaultReport, IsHoldingReport}
use Rattle.sm_report.specs.Output.{IsPlanReport}

-- a stage that ended the report is its whole report
pub ends_there : {A : Type 0} (stage : Result A Output) (Next : A → Output → Type 0) (made : Output) → stage ≡ Err made → Then stage Next made
ends_there stage Next made is = subst (λ s. Then s Next made) (sym is) refl

-- after a stage that went on, the report is that of the next ones
pub goes_on : {A : Type 0} (stage : Result A Output) (Next : A → Output → Type 0) (found : A) (made : Output) → stage ≡ Ok found → Next found made → Then stage Next made
goes_on stage Next found made is next = subst (λ s. Then s Next made) (sym is) next

-- what is said of the report with which a stage ended is said of it in weaker words
pub ended_weaker : (stop : Stop) (P Q : Output → Type 0) → ((made : Output) → P made → Q made) → IfEnded stop P → IfEnded stop Q
ended_weaker NoMemory P Q weaker h = tt
ended_weaker ReadFailed P Q weaker h = h
ended_weaker (Report made) P Q weaker h = weaker made h

-- the same of a report that was made, to its end or to that of an earlier stage
pub made_weaker : (result : Result Output Stop) (P Q : Output → Type 0) → ((made : Output) → P made → Q made) → IfMade result P → IfMade result Q
made_weaker (Ok made) P Q weaker h = weaker made h
made_weaker (Err stop) P Q weaker h = ended_weaker stop P Q weaker h

-- where a stage ended the report, it is that of the command
pub stage_ended : {A : Type 0} (stage : Result A Output) (Next : A → Output → Type 0) (stop : Stop) (result : Result Output Stop) → result ≡ Err stop
    → IfEnded stop (λ made. stage ≡ Err made) → IfMade result (Then stage Next)
stage_ended stage Next stop result is ends =
    subst (λ r. IfMade r (Then stage Next)) (sym is)
    (ended_weaker stop (λ made. stage ≡ Err made) (Then stage Next) (λ made h. ends_there stage Next made h) ends)

-- where a stage went on, the report that the next ones make is that of the command
pub stage_went_on : {A : Type 0} (stage : Result A Output) (Next : A → Output → Type 0) (found : A) (result : Result Output Stop) → stage ≡ Ok found
    → IfMade result (Next found) → IfMade result (Then stage Next)
stage_went_on stage Next found result is next = made_weaker result (Next found) (Then stage Next) (λ made h. goes_on stage Next found made is h) next

-- what is known of a member that may be missing is known of the one that is there
pub member_there : {A : Type 0} (P : A → Type 0) (m : Member) (value : Option A) (found : A) → member_stage m value ≡ Ok found → IfSome value P → P found
member_there P m None found is h = absurd cc
member_there P m (Some v) found is h = let same : v ≡ found = cc in subst P same h

-- ---- a plan at a placement

-- a plan that does not pass the check is reported with its fault
pub plan_refused : (setup : Setup) (p : Place) (plan : PlanModel) (stop : Stop) (result : Result Output Stop) → result ≡ Err stop
    → IfEnded stop (IsFaultReport (sizes_of setup) [] plan) → IfMade result (IsPlanReport setup plan p)
plan_refused setup p plan stop result is ends =
    subst (λ r. IfMade r (IsPlanReport setup plan p)) (sym is)
    (ended_weaker stop (IsFaultReport (sizes_of setup) [] plan) (IsPlanReport setup plan p) (λ made h. inl h) ends)

-- a plan that passed the check and may not start is reported with what holds it up
pub plan_held : (setup : Setup) (p : Place) (plan checked : PlanModel) (stop : Stop) (result : Result Output Stop) → result ≡ Err stop → checked ≡ plan
    → IsSound (sizes_of setup) plan → IfEnded stop (IsHoldingReport setup p checked) → IfMade result (IsPlanReport setup plan p)
plan_held setup p plan checked stop result is same sound ends =
    subst (λ r. IfMade r (IsPlanReport setup plan p)) (sym is)
    (ended_weaker stop (IsHoldingReport setup p plan) (IsPlanReport setup plan p) (λ made h. inr (sound, inl h))
    (subst (λ x. IfEnded stop (IsHoldingReport setup p x)) same ends))

-- a plan that may start is reported as accepted
pub plan_accepted : (setup : Setup) (p : Place) (plan checked told : PlanModel) (made : Output) → checked ≡ plan → told ≡ checked
    → IsSound (sizes_of setup) plan → IsAdmitted (sizes_of setup) p (true_rights (sizes_of setup) p) checked → made ≡ done (accepted_line told) → IsPlanReport setup plan p made
plan_accepted setup p plan checked told made same is_told sound admitted accepted =
    inr (
      sound,
      inr (
        subst (λ x. IsAdmitted (sizes_of setup) p (true_rights (sizes_of setup) p) x) same admitted,
        accepted ∙ ap (λ x. done (accepted_line x)) (is_told ∙ same),
      ),
    )
