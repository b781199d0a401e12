-- A stream's step is recorded.
use Rattle.std.proofs.Common.{ap, arith, length, length-append, subst, sym, ◌+◌, ◌∙◌, ◌∷◌, []}
use Rattle.std.specs.Prelude.{◌==◌}
use Rattle.sm_protocol.specs.declared.event.Logged.{Logged}
use Rattle.sm_protocol.specs.declared.event.Event.TheVariants.{Step}
use Rattle.sm_machine.specs.Journal.{JournalModel}
use Rattle.sm_machine.specs.Begun.{BegunModel, no_begun}
use Rattle.sm_machine.specs.Since.{KeepsSince}
use Rattle.sm_machine.specs.contracts.engine.Engine.{the_view}
use Rattle.sm_machine.proofs.Writes.{read_here, laid_back, place_left, plan_known, courses_there, step-recorded}
use Rattle.sm_machine.proofs.Desk.{cleared, still_there, stream_here}
use Rattle.sm_machine.proofs.Unfinished.{swapped}
use Rattle.sm_machine.proofs.Since.{since_on}
use Rattle.sm_machine.proofs.engine.Engine.record_step.Goals as goal

pub returns : goal.returns
returns c =
    rw (laid_back _ _ _ _ _ _ c.swap-2.ensures.others c.swap.ensures.others) (step-recorded (the_view c.self.inside) c.args.self.now c.args.id c.self.view_is c.requires.known _ c.set_since.new.self
    (read_here (the_view c.self.inside).plans c.args.id.plan _ no_begun c.swap.ensures.here) c.set_since.ensures.parts _ _ c.record.new.self c.set_since.ensures.value c.record.ensures)

pub invariant_of-self : goal.invariant_of-self
invariant_of-self c =
    let line : Logged = record { event = Step c.args.id; answer = c.args.answer } in
    let old = (the_view c.self.inside).journal.log in
    let log = ap (λ (j : JournalModel). j.log) c.record.ensures in
    let room = ap (λ (j : JournalModel). j.room) c.record.ensures in
    let more = ap length log ∙ length-append old (line ∷ []) in
    let left = place_left (the_view c.self.inside) c.args.self.now c.self.view_is c.requires.room in
    let entries = c.self.invariant.0 in
    let places = c.self.invariant.2 in
    let known = plan_known (the_view c.self.inside) c.args.self.now c.args.id c.self.view_is c.requires.known in
    let plans = swapped c.self.inside.plans c.swap.new.self c.swap-2.new.self c.args.id.plan _ c.swap.new.other c.set_since.new.self c.self.inside.unfinished.items known
    c.swap-2.ensures.others c.swap.ensures.others c.swap.ensures.here (ap (λ (x : BegunModel). x.unfinished == 0) c.set_since.ensures.value) c.self.invariant.6 in
    let there = courses_there c.swap.new.other c.args.id (stream_here (the_view c.self.inside) c.args.self.now c.args.id c.self.view_is _ c.swap.ensures.here c.requires.known) c.set_since.ensures.parts in
    let since = subst (KeepsSince c.swap-2.new.self) (sym log)
    (since_on c.self.inside.plans c.swap.new.self c.swap-2.new.self c.args.id _ c.swap.new.other c.set_since.new.self old _ c.args.answer known there
    c.swap-2.ensures.others c.swap.ensures.others c.swap.ensures.here (ap (λ (x : BegunModel). x.courses) c.set_since.ensures.value)
    (ap (λ n. n + 1) c.next_place-since.ensures) c.self.invariant.8) in
    (omega arith, omega arith, omega arith, c.self.invariant.3, c.self.invariant.4, c.self.invariant.5, plans, c.self.invariant.7, since, cleared c.self.inside.plans _ c.args.id.plan _ _ c.swap.ensures.others c.swap-2.ensures.here c.self.invariant.9)

pub swap-requires : goal.swap-requires
swap-requires c = plan_known (the_view c.self.inside) c.args.self.now c.args.id c.self.view_is c.requires.known

pub swap-requires-2 : goal.swap-requires-2
swap-requires-2 c = still_there _ _ _ _ c.swap.ensures.others (plan_known (the_view c.self.inside) c.args.self.now c.args.id c.self.view_is c.requires.known)

pub set_since-requires : goal.set_since-requires
set_since-requires c = stream_here (the_view c.self.inside) c.args.self.now c.args.id c.self.view_is _ c.swap.ensures.here c.requires.known
