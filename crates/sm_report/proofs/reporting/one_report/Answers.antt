use Rattle.sm_report.proofs.OneReport.{same_report}
use Rattle.sm_report.proofs.reporting.one_report.Goals as goal

pub returns : goal.returns
returns c = same_report record {
  check = record { fault = c.one_fault.ensures.same; sound = c.one_fault.ensures.sound };
  holding = c.one_holding.ensures.same;
  admitted = c.one_holding.ensures.admitted;
  rule = c.rule_answers_once.ensures;
}
