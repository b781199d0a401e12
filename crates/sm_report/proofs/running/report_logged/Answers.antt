use Rattle.sm_placement.specs.Layout.{place_of}
use Rattle.sm_plan_text.specs.Reading.{rows_of}
use Rattle.sm_report.proofs.RunStages.{run_checked}
use Rattle.sm_report.proofs.running.report_logged.Goals as goal

pub returns : goal.returns
returns g c =
    let rows = rows_of c.args.document.now in
    run_checked rows.setup c.args.placement.setup (place_of c.args.placement) rows.log c.args.plan c.in_ok-checked.checked.plan rows.asks c.as_slice-asks.result.now c.report_checked.result
    c.requires.setup c.in_ok-checked.ensures.plan c.as_slice-asks.ensures.value c.in_ok-checked.ensures.sound c.report_checked.ensures
