-- A signal is posted.
use Rattle.std.proofs.Common.{ap, true, ◌∙◌, refl}
use Rattle.sm_machine.specs.Begun.{BegunModel, no_begun}
use Rattle.sm_machine.specs.contracts.engine.Engine.{the_view}
use Rattle.sm_protocol.specs.State.{Progress, Mark}
use Rattle.sm_machine.specs.Course.{hold_in, capacity_in}
use Rattle.sm_machine.proofs.Writes.{read_here, laid_back, signal-read, signal_then, holder_then, plan_known}
use Rattle.sm_machine.proofs.Desk.{cleared, still_there, progress_here, grant_here, mark_here, stream_here, signal_here, held_here, sent_fits, sent_capacity, sent_there, left_there}
use Rattle.sm_machine.proofs.Unfinished.{swapped}
use Rattle.sm_machine.proofs.Since.{same_since, since_swapped}
use Rattle.std.specs.Prelude.{◌==◌}
use Rattle.sm_machine.proofs.engine.Engine.post.Goals as goal

pub returns-clause-whole : goal.returns-clause-whole
returns-clause-whole c =
    rw (laid_back _ _ _ _ _ _ c.swap-2.ensures.others c.swap.ensures.others) (signal-read (the_view c.self.inside) c.args.self.now c.args.id c.self.view_is c.requires.begun _ c.post.new.self
    (read_here (the_view c.self.inside).plans c.args.id.plan _ no_begun c.swap.ensures.here) c.post.ensures.parts c.args.signal c.requires.signal (λ m. record m { posted = true }) _ _ c.post.ensures.others)

pub invariant_of-self : goal.invariant_of-self
invariant_of-self c =
    let plans = swapped c.self.inside.plans c.swap.new.self c.swap-2.new.self c.args.id.plan _ c.swap.new.other c.post.new.self c.self.inside.unfinished.items
    (plan_known (the_view c.self.inside) c.args.self.now c.args.id c.self.view_is c.requires.begun) c.swap-2.ensures.others c.swap.ensures.others c.swap.ensures.here
    (ap (λ (x : BegunModel). x.unfinished == 0) c.post.ensures.others) c.self.invariant.6 in
    let since = since_swapped c.self.inside.plans c.swap.new.self c.swap-2.new.self c.args.id.plan _ c.swap.new.other c.post.new.self (the_view c.self.inside).journal.log
    (plan_known (the_view c.self.inside) c.args.self.now c.args.id c.self.view_is c.requires.begun) c.swap-2.ensures.others c.swap.ensures.others c.swap.ensures.here
    (same_since c.swap.new.other c.post.new.self c.args.id.stream _ (ap (λ (x : BegunModel). x.courses) c.post.ensures.others) refl) c.self.invariant.8 in
    (c.self.invariant.0, c.self.invariant.1, c.self.invariant.2, c.self.invariant.3, c.self.invariant.4, c.self.invariant.5, plans, c.self.invariant.7, since, cleared c.self.inside.plans _ c.args.id.plan _ _ c.swap.ensures.others c.swap-2.ensures.here c.self.invariant.9)

pub swap-requires : goal.swap-requires
swap-requires c = plan_known (the_view c.self.inside) c.args.self.now c.args.id c.self.view_is c.requires.begun

pub swap-requires-2 : goal.swap-requires-2
swap-requires-2 c = still_there _ _ _ _ c.swap.ensures.others (plan_known (the_view c.self.inside) c.args.self.now c.args.id c.self.view_is c.requires.begun)

pub post-requires-clause-known : goal.post-requires-clause-known
post-requires-clause-known c = stream_here (the_view c.self.inside) c.args.self.now c.args.id c.self.view_is _ c.swap.ensures.here c.requires.begun

pub post-requires-clause-signal : goal.post-requires-clause-signal
post-requires-clause-signal c = signal_here (the_view c.self.inside) c.args.self.now c.args.id c.self.view_is _ c.swap.ensures.here c.args.signal c.requires.signal

pub post-requires-clause-running : goal.post-requires-clause-running
post-requires-clause-running c = ap (λ (p : Progress). p.done) (progress_here (the_view c.self.inside) c.args.self.now c.args.id c.self.view_is _ c.swap.ensures.here) ∙ c.requires.running

pub post-requires-clause-there : goal.post-requires-clause-there
post-requires-clause-there c = ap (λ (m : Mark). m.awaited) (mark_here (the_view c.self.inside) c.args.self.now c.args.id c.self.view_is _ c.swap.ensures.here c.args.signal) ∙ c.requires.there

pub post-requires-clause-held : goal.post-requires-clause-held
post-requires-clause-held c = held_here (the_view c.self.inside) c.args.self.now c.args.id c.self.view_is _ c.swap.ensures.here c.args.signal c.requires.held

pub post-requires-clause-fits : goal.post-requires-clause-fits
post-requires-clause-fits c = sent_fits (the_view c.self.inside) c.args.self.now c.args.id c.self.view_is _ c.swap.ensures.here c.args.signal c.requires.fits

pub post-requires-clause-capacity : goal.post-requires-clause-capacity
post-requires-clause-capacity c = sent_capacity (the_view c.self.inside) c.args.self.now c.args.id c.self.view_is _ c.swap.ensures.here c.args.signal c.requires.capacity

pub returns-clause-sent : goal.returns-clause-sent
returns-clause-sent c =
    rw (laid_back _ _ _ _ _ _ c.swap-2.ensures.others c.swap.ensures.others) (ap hold_in (signal_then (the_view c.self.inside) c.args.self.now c.args.id c.self.view_is c.requires.begun _ c.post.new.self
    (read_here (the_view c.self.inside).plans c.args.id.plan _ no_begun c.swap.ensures.here) c.post.ensures.parts c.args.signal c.requires.signal _ _ c.post.ensures.others)
    ∙ c.post.ensures.hold ∙ sent_there (the_view c.self.inside) c.args.self.now c.args.id c.self.view_is _ c.swap.ensures.here c.args.signal)

pub returns-clause-left : goal.returns-clause-left
returns-clause-left c =
    rw (laid_back _ _ _ _ _ _ c.swap-2.ensures.others c.swap.ensures.others) (ap hold_in (holder_then (the_view c.self.inside) c.args.self.now c.args.id c.self.view_is c.requires.begun _ c.post.new.self
    (read_here (the_view c.self.inside).plans c.args.id.plan _ no_begun c.swap.ensures.here) c.post.ensures.parts c.args.signal c.requires.signal _ _ c.post.ensures.others)
    ∙ c.post.ensures.left ∙ left_there (the_view c.self.inside) c.args.self.now c.args.id c.self.view_is _ c.swap.ensures.here c.args.signal)

pub returns-clause-capacity : goal.returns-clause-capacity
returns-clause-capacity c =
    rw (laid_back _ _ _ _ _ _ c.swap-2.ensures.others c.swap.ensures.others) (ap capacity_in (holder_then (the_view c.self.inside) c.args.self.now c.args.id c.self.view_is c.requires.begun _ c.post.new.self
    (read_here (the_view c.self.inside).plans c.args.id.plan _ no_begun c.swap.ensures.here) c.post.ensures.parts c.args.signal c.requires.signal _ _ c.post.ensures.others)
    ∙ c.post.ensures.capacity ∙ ap capacity_in (grant_here (the_view c.self.inside) c.args.self.now c.args.id c.self.view_is _ c.swap.ensures.here))
