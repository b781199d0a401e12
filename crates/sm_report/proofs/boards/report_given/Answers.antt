use Rattle.std.proofs.Common.{string_bytes}
use Rattle.sm_report.proofs.RunStages.{was_run, was_not_run}
use Rattle.sm_report.proofs.boards.report_given.Goals as goal

pub returns-in-Ok : goal.returns-in-Ok
returns-in-Ok g c =
    let given = c.run_told.new.given in
    was_run g.N.Naming.opened g.N.Naming.setup c.args.asks.now given.ended.items given.clients.items (string_bytes c.args.accepted) (string_bytes c.in-Ok.asked) c.report_ran.result
    c.requires.one c.in-Ok.ensures.ran c.in-Ok.ensures.shards c.in-Ok.ensures.ways c.requires.accepted c.in-Ok.ensures.asked c.report_ran.ensures.told c.report_ran.ensures.why

pub returns-in-Err : goal.returns-in-Err
returns-in-Err g c = was_not_run g.N.Naming.opened g.N.Naming.setup c.args.asks.now c.in-Err.why c.in-Err.ensures.why
