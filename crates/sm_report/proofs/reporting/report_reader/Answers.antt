use Rattle.std.proofs.Common.{◌≡◌, Err, rules}
use Rattle.sm_plan_text.specs.Reading.{rows_of}
use Rattle.sm_report.specs.declared.limits.TheConstants.{MOST_BYTES}
use Rattle.sm_report.proofs.Inputs.{read_ended, read_went_on}
use Rattle.sm_report.proofs.reporting.report_reader.Goals as goal

pub returns-in_err-document : goal.returns-in_err-document
returns-in_err-document g c =
    let stop = c.in_err-document.field-0.0 in
    let result = c.from_residual.result in
    let is : result ≡ Err stop = search rules in
    read_ended c.args.command MOST_BYTES (g.R.Read.remaining c.args.reader.now) stop result is c.in_err-document.ensures.ends

pub returns : goal.returns
returns g c =
    read_went_on c.args.command MOST_BYTES (g.R.Read.remaining c.args.reader.now) (rows_of c.in_ok-document.document) c.report_document.result
    c.in_ok-document.ensures.ok c.report_document.ensures
