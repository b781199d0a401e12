-- An event is recorded that is no step.
use Rattle.std.proofs.Common.{ap, arith, length, length-append, subst, sym, ◌∙◌, ◌∷◌, []}
use Rattle.sm_protocol.specs.declared.event.Logged.{Logged}
use Rattle.sm_machine.specs.Journal.{JournalModel}
use Rattle.sm_machine.specs.Since.{KeepsSince}
use Rattle.sm_machine.specs.contracts.engine.Engine.{the_view}
use Rattle.sm_machine.proofs.Since.{since_logged}
use Rattle.sm_machine.proofs.Writes.{place_left}
use Rattle.sm_machine.proofs.engine.Engine.record.Goals as goal

pub invariant_of-self : goal.invariant_of-self
invariant_of-self c =
    let line : Logged = record { event = c.args.event; answer = c.args.answer } in
    let old = (the_view c.self.inside).journal.log in
    let log = ap (λ (j : JournalModel). j.log) c.record.ensures in
    let room = ap (λ (j : JournalModel). j.room) c.record.ensures in
    let more = ap length log ∙ length-append old (line ∷ []) in
    let left = place_left (the_view c.self.inside) c.args.self.now c.self.view_is c.requires.room in
    let entries = c.self.invariant.0 in
    let places = c.self.invariant.2 in
    let since = subst (KeepsSince c.self.inside.plans) (sym log) (since_logged c.self.inside.plans old line c.requires.other c.self.invariant.8) in
    (omega arith, omega arith, omega arith, c.self.invariant.3, c.self.invariant.4, c.self.invariant.5, c.self.invariant.6, c.self.invariant.7, since, c.self.invariant.9)
