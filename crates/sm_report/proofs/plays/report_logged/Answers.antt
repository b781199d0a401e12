use Rattle.std.proofs.Common.{◌≡◌, ◌∙◌, Some, length, sym, subst}
use Rattle.std.specs.Prelude.{All}
use Rattle.sm_plan_code.specs.Plan.{IsKnownPlan}
use Rattle.sm_plan_text.specs.Reading.{rows_of}
use Rattle.sm_report.proofs.PlayStages.{some_known}
use Rattle.sm_report.proofs.plays.report_logged.Goals as goal

pub report_list-requires-clause-known : goal.report_list-requires-clause-known
report_list-requires-clause-known c =
    let rows = rows_of c.args.document.now in
    let there : c.args.document.now.plans ≡ Some c.in_default-Some.plans = sym c.take-plans.ensures.value ∙ c.in_default-Some.is-1 in
    subst (λ s. All (IsKnownPlan (length s.shards) (length s.servers)) c.in_default-Some.plans.items) (sym c.requires.setup)
    (some_known _ (All (IsKnownPlan (length rows.setup.shards) (length rows.setup.servers))) c.args.document.now.plans c.in_default-Some.plans there c.requires.document.plans)
