-- A stream comes to another place.
use Rattle.std.proofs.Common.{ap, sym, ◌∙◌, refl}
use Rattle.sm_machine.specs.Begun.{BegunModel, no_begun}
use Rattle.sm_machine.specs.contracts.engine.Engine.{the_view}
use Rattle.sm_machine.proofs.Writes.{read_here, laid_back, progress-written, plan_known}
use Rattle.sm_protocol.specs.State.{Progress}
use Rattle.sm_machine.proofs.Desk.{cleared, still_there, progress_here, stream_here}
use Rattle.sm_machine.proofs.Unfinished.{swapped}
use Rattle.sm_machine.proofs.Since.{same_since, since_swapped}
use Rattle.std.specs.Prelude.{◌==◌}
use Rattle.sm_machine.proofs.engine.Engine.set_progress.Goals as goal

pub returns : goal.returns
returns c =
    rw (laid_back _ _ _ _ _ _ c.swap-2.ensures.others c.swap.ensures.others) (progress-written (the_view c.self.inside) c.args.self.now c.args.id c.self.view_is c.requires.known _ c.set_progress.new.self
    (read_here (the_view c.self.inside).plans c.args.id.plan _ no_begun c.swap.ensures.here) c.set_progress.ensures.parts c.args.progress c.set_progress.ensures.value)

pub invariant_of-self : goal.invariant_of-self
invariant_of-self c =
    let plans = swapped c.self.inside.plans c.swap.new.self c.swap-2.new.self c.args.id.plan _ c.swap.new.other c.set_progress.new.self c.self.inside.unfinished.items
    (plan_known (the_view c.self.inside) c.args.self.now c.args.id c.self.view_is c.requires.known) c.swap-2.ensures.others c.swap.ensures.others c.swap.ensures.here
    (ap (λ (x : BegunModel). x.unfinished == 0) c.set_progress.ensures.value) c.self.invariant.6 in
    let since = since_swapped c.self.inside.plans c.swap.new.self c.swap-2.new.self c.args.id.plan _ c.swap.new.other c.set_progress.new.self (the_view c.self.inside).journal.log
    (plan_known (the_view c.self.inside) c.args.self.now c.args.id c.self.view_is c.requires.known) c.swap-2.ensures.others c.swap.ensures.others c.swap.ensures.here
    (same_since c.swap.new.other c.set_progress.new.self c.args.id.stream _ (ap (λ (x : BegunModel). x.courses) c.set_progress.ensures.value) refl) c.self.invariant.8 in
    (c.self.invariant.0, c.self.invariant.1, c.self.invariant.2, c.self.invariant.3, c.self.invariant.4, c.self.invariant.5, plans, c.self.invariant.7, since, cleared c.self.inside.plans _ c.args.id.plan _ _ c.swap.ensures.others c.swap-2.ensures.here c.self.invariant.9)

pub swap-requires : goal.swap-requires
swap-requires c = plan_known (the_view c.self.inside) c.args.self.now c.args.id c.self.view_is c.requires.known

pub swap-requires-2 : goal.swap-requires-2
swap-requires-2 c = still_there _ _ _ _ c.swap.ensures.others (plan_known (the_view c.self.inside) c.args.self.now c.args.id c.self.view_is c.requires.known)

pub set_progress-requires-clause-known : goal.set_progress-requires-clause-known
set_progress-requires-clause-known c = stream_here (the_view c.self.inside) c.args.self.now c.args.id c.self.view_is _ c.swap.ensures.here c.requires.known

pub set_progress-requires-clause-done : goal.set_progress-requires-clause-done
set_progress-requires-clause-done c = c.requires.done ∙ sym (ap (λ (p : Progress). p.done) (progress_here (the_view c.self.inside) c.args.self.now c.args.id c.self.view_is _ c.swap.ensures.here))
