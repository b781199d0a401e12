use Rattle.sm_report.proofs.SomeReport.{some_report}
use Rattle.sm_report.proofs.reporting.some_report.Goals as goal

pub returns : goal.returns
returns c = some_report record { fault = c.finds_fault.ensures; holding = c.finds_holding.ensures; rule = c.rule_answers_once.ensures }
