use Rattle.sm_report.proofs.KnownNames.{asks_known}
use Rattle.sm_report.proofs.running.report_checked.Goals as goal

pub report_started-requires-clause-known : goal.report_started-requires-clause-known
report_started-requires-clause-known g c κs within =
    asks_known c.args.placement.setup c.in-Ok.machine.placement.setup c.args.asks.now c.in-Ok.ensures.setup c.requires.known
