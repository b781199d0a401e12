use Rattle.std.proofs.Common.{◌∙◌, length, sym, ap, arith}
use Rattle.sm_protocol.specs.Ticket.{Ticket}
use Rattle.sm_machine.specs.Journal.{JournalModel}
use Rattle.sm_protocol.proofs.Scripts.{pass_below}
use Rattle.sm_machine.proofs.Records.{open_by_flag}
use Rattle.sm_machine.proofs.journal.Journal.is_open.Goals as goal

pub index-requires : goal.index-requires
index-requires c =
    let l = pass_below c.args.self.now.log c.ticket.inside.place c.in-Some.pass (sym c.pass_at.ensures ∙ c.in-Some.is) in
    omega (arith, l, c.self.invariant.indexed.within, c.self.invariant.indexed.width, ap (λ (j : JournalModel). length j.log) c.self.view_is, c.self.inside.passed_on.ok)

pub returns-then-is_same-clause-open : goal.returns-then-is_same-clause-open
returns-then-is_same-clause-open c =
    open_by_flag c.args.self.now c.args.ticket.now c.in-Some.pass c.self.inside.log.items c.self.inside.room c.ticket.inside.place c.self.inside.passes.items c.self.inside.passed_on.items c.index.result.now
    c.self.invariant.indexed (ap (λ (j : JournalModel). j.log) c.self.view_is) (ap (λ (t : Ticket). t.place) c.ticket.view_is) (sym c.pass_at.ensures ∙ c.in-Some.is) (sym c.is_same.ensures ∙ c.if-is_same.true)
    c.index.ensures

pub returns-then-is_same-clause-earlier : goal.returns-then-is_same-clause-earlier
returns-then-is_same-clause-earlier c h =
    let l = pass_below c.args.self.now.log c.ticket.inside.place c.in-Some.pass (sym c.pass_at.ensures ∙ c.in-Some.is) in
    omega (arith, l, ap (λ (t : Ticket). t.place) c.ticket.view_is)
