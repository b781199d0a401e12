-- A parcel is taken.
use Rattle.std.proofs.Common.{ap, true, ◌∙◌, refl}
use Rattle.sm_machine.specs.Begun.{BegunModel, no_begun}
use Rattle.sm_machine.specs.contracts.engine.Engine.{the_view}
use Rattle.sm_protocol.specs.State.{Progress, Mark}
use Rattle.sm_machine.specs.Course.{hold_in, capacity_in}
use Rattle.sm_machine.proofs.Writes.{read_here, laid_back, signal-kept, holder_then, plan_known}
use Rattle.sm_machine.proofs.Desk.{cleared, still_there, progress_here, grant_here, mark_here, stream_here, signal_here, taken_fits, taken_capacity, taken_there}
use Rattle.sm_machine.proofs.Unfinished.{swapped}
use Rattle.sm_machine.proofs.Since.{same_since, since_swapped}
use Rattle.std.specs.Prelude.{◌==◌}
use Rattle.sm_machine.proofs.engine.Engine.wait.Goals as goal

pub returns-clause-whole : goal.returns-clause-whole
returns-clause-whole c =
    rw (laid_back _ _ _ _ _ _ c.swap-2.ensures.others c.swap.ensures.others) (signal-kept (the_view c.self.inside) c.args.self.now c.args.id c.self.view_is c.requires.begun _ c.wait.new.self
    (read_here (the_view c.self.inside).plans c.args.id.plan _ no_begun c.swap.ensures.here) c.wait.ensures.parts c.args.signal c.requires.signal (λ m. record m { awaited = true }) _ _ c.wait.ensures.others)

pub invariant_of-self : goal.invariant_of-self
invariant_of-self c =
    let plans = swapped c.self.inside.plans c.swap.new.self c.swap-2.new.self c.args.id.plan _ c.swap.new.other c.wait.new.self c.self.inside.unfinished.items
    (plan_known (the_view c.self.inside) c.args.self.now c.args.id c.self.view_is c.requires.begun) c.swap-2.ensures.others c.swap.ensures.others c.swap.ensures.here
    (ap (λ (x : BegunModel). x.unfinished == 0) c.wait.ensures.others) c.self.invariant.6 in
    let since = since_swapped c.self.inside.plans c.swap.new.self c.swap-2.new.self c.args.id.plan _ c.swap.new.other c.wait.new.self (the_view c.self.inside).journal.log
    (plan_known (the_view c.self.inside) c.args.self.now c.args.id c.self.view_is c.requires.begun) c.swap-2.ensures.others c.swap.ensures.others c.swap.ensures.here
    (same_since c.swap.new.other c.wait.new.self c.args.id.stream _ (ap (λ (x : BegunModel). x.courses) c.wait.ensures.others) refl) c.self.invariant.8 in
    (c.self.invariant.0, c.self.invariant.1, c.self.invariant.2, c.self.invariant.3, c.self.invariant.4, c.self.invariant.5, plans, c.self.invariant.7, since, cleared c.self.inside.plans _ c.args.id.plan _ _ c.swap.ensures.others c.swap-2.ensures.here c.self.invariant.9)

pub swap-requires : goal.swap-requires
swap-requires c = plan_known (the_view c.self.inside) c.args.self.now c.args.id c.self.view_is c.requires.begun

pub swap-requires-2 : goal.swap-requires-2
swap-requires-2 c = still_there _ _ _ _ c.swap.ensures.others (plan_known (the_view c.self.inside) c.args.self.now c.args.id c.self.view_is c.requires.begun)

pub wait-requires-clause-known : goal.wait-requires-clause-known
wait-requires-clause-known c = stream_here (the_view c.self.inside) c.args.self.now c.args.id c.self.view_is _ c.swap.ensures.here c.requires.begun

pub wait-requires-clause-signal : goal.wait-requires-clause-signal
wait-requires-clause-signal c = signal_here (the_view c.self.inside) c.args.self.now c.args.id c.self.view_is _ c.swap.ensures.here c.args.signal c.requires.signal

pub wait-requires-clause-running : goal.wait-requires-clause-running
wait-requires-clause-running c = ap (λ (p : Progress). p.done) (progress_here (the_view c.self.inside) c.args.self.now c.args.id c.self.view_is _ c.swap.ensures.here) ∙ c.requires.running

pub wait-requires-clause-there : goal.wait-requires-clause-there
wait-requires-clause-there c = ap (λ (m : Mark). m.awaited) (mark_here (the_view c.self.inside) c.args.self.now c.args.id c.self.view_is _ c.swap.ensures.here c.args.signal) ∙ c.requires.there

pub wait-requires-clause-fits : goal.wait-requires-clause-fits
wait-requires-clause-fits c = taken_fits (the_view c.self.inside) c.args.self.now c.args.id c.self.view_is _ c.swap.ensures.here c.args.signal c.requires.fits

pub wait-requires-clause-capacity : goal.wait-requires-clause-capacity
wait-requires-clause-capacity c = taken_capacity (the_view c.self.inside) c.args.self.now c.args.id c.self.view_is _ c.swap.ensures.here c.args.signal c.requires.capacity

pub returns-clause-hold : goal.returns-clause-hold
returns-clause-hold c =
    rw (laid_back _ _ _ _ _ _ c.swap-2.ensures.others c.swap.ensures.others) (ap hold_in (holder_then (the_view c.self.inside) c.args.self.now c.args.id c.self.view_is c.requires.begun _ c.wait.new.self
    (read_here (the_view c.self.inside).plans c.args.id.plan _ no_begun c.swap.ensures.here) c.wait.ensures.parts c.args.signal c.requires.signal _ _ c.wait.ensures.others)
    ∙ c.wait.ensures.hold ∙ taken_there (the_view c.self.inside) c.args.self.now c.args.id c.self.view_is _ c.swap.ensures.here c.args.signal)

pub returns-clause-capacity : goal.returns-clause-capacity
returns-clause-capacity c =
    rw (laid_back _ _ _ _ _ _ c.swap-2.ensures.others c.swap.ensures.others) (ap capacity_in (holder_then (the_view c.self.inside) c.args.self.now c.args.id c.self.view_is c.requires.begun _ c.wait.new.self
    (read_here (the_view c.self.inside).plans c.args.id.plan _ no_begun c.swap.ensures.here) c.wait.ensures.parts c.args.signal c.requires.signal _ _ c.wait.ensures.others)
    ∙ c.wait.ensures.capacity ∙ ap capacity_in (grant_here (the_view c.self.inside) c.args.self.now c.args.id c.self.view_is _ c.swap.ensures.here))
