use Rattle.std.proofs.Common.{◌≡◌, Err, rules}
use Rattle.sm_plan_text.specs.Reading.{rows_of}
use Rattle.sm_report.specs.declared.limits.TheConstants.{MOST_BYTES}
use Rattle.sm_report.specs.declared.run_stop.RunStop.TheVariants as run_stop
use Rattle.sm_report.proofs.RunStages.{run_unread, run_read}
use Rattle.sm_report.proofs.running.report_reader.Goals as goal

pub returns-in_err-document : goal.returns-in_err-document
returns-in_err-document g c =
    let stop = c.in_err-document.field-0.0 in
    let result = c.from_residual.result in
    let is : result ≡ Err (run_stop.Stop stop) = search rules in
    run_unread MOST_BYTES (g.I.Read.remaining c.args.reader.now) stop result is c.in_err-document.ensures.ends

pub returns : goal.returns
returns g c =
    run_read MOST_BYTES (g.I.Read.remaining c.args.reader.now) (rows_of c.in_ok-document.document) c.report_document.result
    c.in_ok-document.ensures.ok c.report_document.ensures
