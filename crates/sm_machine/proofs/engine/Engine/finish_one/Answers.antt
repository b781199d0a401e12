-- A stream less is unfinished.
use Rattle.std.proofs.Common.{ap, arith, true, false, sym, ◌∙◌}
use Rattle.sm_machine.specs.Begun.{BegunModel, no_begun}
use Rattle.sm_machine.specs.contracts.engine.Engine.{the_view}
use Rattle.sm_machine.proofs.Writes.{read_here, laid_back, finished-last, plan_known}
use Rattle.sm_machine.proofs.Desk.{cleared}
use Rattle.sm_machine.proofs.Unfinished.{swapped, swapped_last, one_less_of}
use Rattle.sm_machine.proofs.Since.{same_courses, since_swapped}
use Rattle.sm_machine.proofs.engine.Engine.finish_one.Goals as goal

pub returns-then-last : goal.returns-then-last
returns-then-last c =
    rw (laid_back _ _ _ _ _ _ c.swap-2.ensures.others c.swap.ensures.others, c.saturating_sub-self-inside.ensures) (finished-last (the_view c.self.inside) c.args.self.now c.args.id c.self.view_is c.requires.begun _ c.finish_one-last.new.self
    (read_here (the_view c.self.inside).plans c.args.id.plan _ no_begun c.swap.ensures.here) c.finish_one-last.ensures.parts c.finish_one-last.ensures.left true (sym c.finish_one-last.ensures.last ∙ c.if-last.true))

pub returns-else-last : goal.returns-else-last
returns-else-last c =
    rw (laid_back _ _ _ _ _ _ c.swap-2.ensures.others c.swap.ensures.others) (finished-last (the_view c.self.inside) c.args.self.now c.args.id c.self.view_is c.requires.begun _ c.finish_one-last.new.self
    (read_here (the_view c.self.inside).plans c.args.id.plan _ no_begun c.swap.ensures.here) c.finish_one-last.ensures.parts c.finish_one-last.ensures.left false (sym c.finish_one-last.ensures.last ∙ c.if-last.false))

pub invariant_of-self : goal.invariant_of-self
invariant_of-self c =
    let plans = swapped_last c.self.inside.plans c.swap.new.self c.swap-2.new.self c.args.id.plan _ c.swap.new.other c.finish_one-last.new.self c.finish_one-last.result c.self.inside.unfinished.items c.take_out.new.numbers.items
    (plan_known (the_view c.self.inside) c.args.self.now c.args.id c.self.view_is c.requires.begun) c.swap-2.ensures.others c.swap.ensures.others c.swap.ensures.here
    c.finish_one-last.ensures.left c.finish_one-last.ensures.last c.if-last.true c.take_out.ensures.items c.self.invariant.6 in
    let places = c.self.invariant.7 in
    let more = c.take_out.ensures.capacity in
    let since = since_swapped c.self.inside.plans c.swap.new.self c.swap-2.new.self c.args.id.plan _ c.swap.new.other c.finish_one-last.new.self (the_view c.self.inside).journal.log
    (plan_known (the_view c.self.inside) c.args.self.now c.args.id c.self.view_is c.requires.begun) c.swap-2.ensures.others c.swap.ensures.others c.swap.ensures.here
    (same_courses c.swap.new.other c.finish_one-last.new.self (ap (λ (x : BegunModel). x.courses) c.finish_one-last.ensures.left)) c.self.invariant.8 in
    (c.self.invariant.0, c.self.invariant.1, c.self.invariant.2, c.self.invariant.3, c.self.invariant.4, c.self.invariant.5, plans, omega arith, since, cleared c.self.inside.plans _ c.args.id.plan _ _ c.swap.ensures.others c.swap-2.ensures.here c.self.invariant.9)

pub invariant_of-self-else-last : goal.invariant_of-self-else-last
invariant_of-self-else-last c =
    let plans = swapped c.self.inside.plans c.swap.new.self c.swap-2.new.self c.args.id.plan _ c.swap.new.other c.finish_one-last.new.self c.self.inside.unfinished.items
    (plan_known (the_view c.self.inside) c.args.self.now c.args.id c.self.view_is c.requires.begun) c.swap-2.ensures.others c.swap.ensures.others c.swap.ensures.here
    (one_less_of c.swap.new.other c.finish_one-last.new.self c.finish_one-last.result c.finish_one-last.ensures.left c.finish_one-last.ensures.last c.if-last.false) c.self.invariant.6 in
    let since = since_swapped c.self.inside.plans c.swap.new.self c.swap-2.new.self c.args.id.plan _ c.swap.new.other c.finish_one-last.new.self (the_view c.self.inside).journal.log
    (plan_known (the_view c.self.inside) c.args.self.now c.args.id c.self.view_is c.requires.begun) c.swap-2.ensures.others c.swap.ensures.others c.swap.ensures.here
    (same_courses c.swap.new.other c.finish_one-last.new.self (ap (λ (x : BegunModel). x.courses) c.finish_one-last.ensures.left)) c.self.invariant.8 in
    (c.self.invariant.0, c.self.invariant.1, c.self.invariant.2, c.self.invariant.3, c.self.invariant.4, c.self.invariant.5, plans, c.self.invariant.7, since, cleared c.self.inside.plans _ c.args.id.plan _ _ c.swap.ensures.others c.swap-2.ensures.here c.self.invariant.9)
