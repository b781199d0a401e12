use Rattle.sm_plan_text.specs.declared.member.Member.TheVariants as members
use Rattle.sm_report.proofs.KnownNames.{calls_known}
use Rattle.sm_report.proofs.calls.report_calls.Goals as goal

pub report_made-requires : goal.report_made-requires
report_made-requires c =
    calls_known (λ calls. calls.items) members.Calls c.args.document.now.calls c.take.result c.in_ok-calls.calls c.as_slice.result.now
    c.args.document.now.config c.in_ok-placement.placement.setup
    c.take.ensures.value c.in_ok-calls.ensures.ok c.as_slice.ensures.value c.in_ok-placement.ensures.setup c.requires.calls
