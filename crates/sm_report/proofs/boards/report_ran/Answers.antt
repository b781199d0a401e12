use Rattle.std.proofs.Common.{subst, string_bytes}
use Rattle.sm_machine.specs.State.{state_of}
use Rattle.sm_executor.specs.Closed.{IsClosed}
use Rattle.sm_report.proofs.RunStages.{callers_of, is_told}
use Rattle.sm_report.proofs.boards.report_ran.Goals as goal

pub returns-in-Ok-clause-told : goal.returns-in-Ok-clause-told
returns-in-Ok-clause-told g c =
    let machine = c.in-Ok.machine in
    let closed : IsClosed g.N.Naming.setup g.N.Naming.opened (state_of machine) c.args.given.ended.items (callers_of c.args.given.clients.items) =
    subst (IsClosed g.N.Naming.setup g.N.Naming.opened (state_of machine) c.args.given.ended.items) c.take_callers.ensures c.in-Ok.ensures.closed in
    is_told g.N.Naming.opened (state_of machine) g.N.Naming.setup machine.placement.setup c.args.given.ended.items c.args.given.clients.items
    (string_bytes c.args.accepted) (string_bytes c.args.asked) c.report_machine.result
    c.in-Ok.ensures.setup closed c.report_machine.ensures.alone c.report_machine.ensures.own c.report_machine.ensures.text
