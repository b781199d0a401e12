use Rattle.std.proofs.Common.{Err, ap, ◌∙◌}
use Rattle.sm_report.specs.declared.limits.TheConstants.{MOST_BYTES}
use Rattle.sm_report.proofs.Inputs.{too_long_read}
use Rattle.sm_report.proofs.reporting.read_input.Goals as goal

pub returns-in_ok-too_long-in-Err-TooLong-clause-ends : goal.returns-in_ok-too_long-in-Err-TooLong-clause-ends
returns-in_ok-too_long-in-Err-TooLong-clause-ends g c =
    too_long_read (g.R.Read.remaining c.args.reader.now) MOST_BYTES c.in_ok-too_long-in-Err-TooLong.field-0
    (c.take_input.ensures.too_long (c.in-Err-TooLong.is ∙ ap Err c.in-Err-TooLong.field-0-is)) c.in_ok-too_long-in-Err-TooLong.ensures
