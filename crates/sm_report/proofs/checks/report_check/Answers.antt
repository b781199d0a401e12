use Rattle.std.proofs.Common.{◌≡◌, ◌∙◌, Ok, Err, length, ap, sym, subst, rules}
use Rattle.sm_placement.specs.Layout.{place_of}
use Rattle.sm_plan_code.specs.Plan.{IsKnownPlan}
use Rattle.sm_plan_text.specs.declared.member.Member.TheVariants as members
use Rattle.sm_plan_text.specs.Reading.{rows_of}
use Rattle.sm_report.specs.Stop.{IfEnded}
use Rattle.sm_report.specs.Stages.{member_stage, placement_stage}
use Rattle.sm_report.specs.Output.{IsPlanReport, IsOpenedForCheck}
use Rattle.sm_report.proofs.Onward.{stage_ended, stage_went_on, member_there, made_weaker}
use Rattle.sm_report.proofs.checks.report_check.Goals as goal

pub returns-in_err-plan : goal.returns-in_err-plan
returns-in_err-plan c =
    let rows = rows_of c.args.document.now in
    let stop = c.in_err-plan.field-0.0 in
    let result = c.from_residual.result in
    let is : result ≡ Err stop = search rules in
    stage_ended (member_stage members.Plan rows.plan) (IsOpenedForCheck rows) stop result is
    (subst (λ o. IfEnded stop (λ made. member_stage members.Plan o ≡ Err made)) c.take.ensures.value c.in_err-plan.ensures.ends)

pub returns-in_err-placement : goal.returns-in_err-placement
returns-in_err-placement c =
    let rows = rows_of c.args.document.now in
    let plan = c.in_ok-plan.plan in
    let there : member_stage members.Plan rows.plan ≡ Ok plan = ap (member_stage members.Plan) (sym c.take.ensures.value) ∙ c.in_ok-plan.ensures.ok in
    let stop = c.in_err-placement.field-0.0 in
    let result = c.from_residual-in_err-placement.result in
    let is : result ≡ Err stop = search rules in
    stage_went_on (member_stage members.Plan rows.plan) (IsOpenedForCheck rows) plan result there
    (stage_ended (placement_stage rows) (IsPlanReport rows.setup plan) stop result is c.in_err-placement.ensures.ends)

pub report_plan-requires-clause-fits : goal.report_plan-requires-clause-fits
report_plan-requires-clause-fits c =
    let rows = rows_of c.args.document.now in
    let plan = c.in_ok-plan.plan in
    let there : member_stage members.Plan rows.plan ≡ Ok plan = ap (member_stage members.Plan) (sym c.take.ensures.value) ∙ c.in_ok-plan.ensures.ok in
    subst (λ s. IsKnownPlan (length s.shards) (length s.servers) plan) (sym c.in_ok-placement.ensures.setup)
    (member_there (IsKnownPlan (length rows.setup.shards) (length rows.setup.servers)) members.Plan rows.plan plan there c.requires.plan)

pub returns : goal.returns
returns c =
    let rows = rows_of c.args.document.now in
    let plan = c.in_ok-plan.plan in
    let there : member_stage members.Plan rows.plan ≡ Ok plan = ap (member_stage members.Plan) (sym c.take.ensures.value) ∙ c.in_ok-plan.ensures.ok in
    let place = place_of c.in_ok-placement.placement in
    let result = c.report_plan.result in
    stage_went_on (member_stage members.Plan rows.plan) (IsOpenedForCheck rows) plan result there
    (stage_went_on (placement_stage rows) (IsPlanReport rows.setup plan) place result c.in_ok-placement.ensures.ok
    (made_weaker result (IsPlanReport c.in_ok-placement.placement.setup plan place) (IsPlanReport rows.setup plan place)
    (λ made h. subst (λ s. IsPlanReport s plan place made) c.in_ok-placement.ensures.setup h) c.report_plan.ensures))
