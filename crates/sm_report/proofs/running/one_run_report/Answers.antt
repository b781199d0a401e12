use Rattle.sm_report.proofs.OneRun.{one_run}
use Rattle.sm_report.proofs.running.one_run_report.Goals as goal

pub returns : goal.returns
returns c = one_run record { fault = c.one_fault.ensures.same; sound = c.one_fault.ensures.sound }
