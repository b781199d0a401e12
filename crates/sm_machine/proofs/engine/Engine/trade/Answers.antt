-- A stream holds otherwise.
use Rattle.std.proofs.Common.{◌≡◌, ◌<◌, ap, sym, subst, ◌∙◌, refl}
use Rattle.std.specs.Prelude.{IfSome}
use Rattle.sm_placement.specs.Setup.{Sizes, sizes_of}
use Rattle.sm_plan_code.specs.Instr.{shard_of}
use Rattle.sm_protocol.specs.State.{Progress}
use Rattle.sm_machine.specs.Trade.{CanTrade}
use Rattle.sm_machine.specs.Begun.{BegunModel, no_begun, course_at}
use Rattle.sm_machine.specs.State.{state_of}
use Rattle.sm_machine.specs.contracts.engine.Engine.{the_view}
use Rattle.sm_machine.proofs.Writes.{read_here, laid_back, grant-kept, grant_then, grant_read, sizes_read, traded-read, change-read, plan_known}
use Rattle.sm_machine.proofs.Desk.{cleared, still_there, progress_here, grant_here, stream_here}
use Rattle.sm_machine.proofs.Unfinished.{swapped}
use Rattle.sm_machine.proofs.Since.{same_since, since_swapped}
use Rattle.std.specs.Prelude.{◌==◌}
use Rattle.sm_machine.proofs.engine.Engine.trade.Goals as goal

pub returns-clause-whole : goal.returns-clause-whole
returns-clause-whole c =
    rw (laid_back _ _ _ _ _ _ c.swap-2.ensures.others c.swap.ensures.others) (grant-kept (the_view c.self.inside) c.args.self.now c.args.id c.self.view_is c.requires.begun _ c.trade-change.new.self
    (read_here (the_view c.self.inside).plans c.args.id.plan _ no_begun c.swap.ensures.here) c.trade-change.ensures.parts _ c.trade-change.ensures.others)

pub returns-clause-traded : goal.returns-clause-traded
returns-clause-traded c =
    rw (laid_back _ _ _ _ _ _ c.swap-2.ensures.others c.swap.ensures.others) (traded-read _ _ c.args.instr.now _ _ _ _
    (ap sizes_of c.config-config.ensures.setup ∙ sizes_read (the_view c.self.inside) c.args.self.now c.self.view_is)
    (grant_read (the_view c.self.inside) c.args.self.now c.args.id c.self.view_is c.requires.begun _ c.trade-change.new.self (read_here (the_view c.self.inside).plans c.args.id.plan _ no_begun c.swap.ensures.here) c.trade-change.ensures.parts)
    (grant_then (the_view c.self.inside) c.args.self.now c.args.id c.self.view_is c.requires.begun _ c.trade-change.new.self (read_here (the_view c.self.inside).plans c.args.id.plan _ no_begun c.swap.ensures.here) c.trade-change.ensures.parts _ c.trade-change.ensures.others)
    c.trade-change.ensures.traded)

pub returns-clause-change : goal.returns-clause-change
returns-clause-change c =
    change-read _ _ c.args.instr.now _ _ c.trade-change.result
    (ap sizes_of c.config-config.ensures.setup ∙ sizes_read (the_view c.self.inside) c.args.self.now c.self.view_is)
    (grant_read (the_view c.self.inside) c.args.self.now c.args.id c.self.view_is c.requires.begun _ c.trade-change.new.self (read_here (the_view c.self.inside).plans c.args.id.plan _ no_begun c.swap.ensures.here) c.trade-change.ensures.parts)
    c.trade-change.ensures.change

pub invariant_of-self : goal.invariant_of-self
invariant_of-self c =
    let plans = swapped c.self.inside.plans c.swap.new.self c.swap-2.new.self c.args.id.plan _ c.swap.new.other c.trade-change.new.self c.self.inside.unfinished.items
    (plan_known (the_view c.self.inside) c.args.self.now c.args.id c.self.view_is c.requires.begun) c.swap-2.ensures.others c.swap.ensures.others c.swap.ensures.here
    (ap (λ (x : BegunModel). x.unfinished == 0) c.trade-change.ensures.others) c.self.invariant.6 in
    let since = since_swapped c.self.inside.plans c.swap.new.self c.swap-2.new.self c.args.id.plan _ c.swap.new.other c.trade-change.new.self (the_view c.self.inside).journal.log
    (plan_known (the_view c.self.inside) c.args.self.now c.args.id c.self.view_is c.requires.begun) c.swap-2.ensures.others c.swap.ensures.others c.swap.ensures.here
    (same_since c.swap.new.other c.trade-change.new.self c.args.id.stream _ (ap (λ (x : BegunModel). x.courses) c.trade-change.ensures.others) refl) c.self.invariant.8 in
    (c.self.invariant.0, c.self.invariant.1, c.self.invariant.2, c.self.invariant.3, c.self.invariant.4, c.self.invariant.5, plans, c.self.invariant.7, since, cleared c.self.inside.plans _ c.args.id.plan _ _ c.swap.ensures.others c.swap-2.ensures.here c.self.invariant.9)

pub swap-requires : goal.swap-requires
swap-requires c = plan_known (the_view c.self.inside) c.args.self.now c.args.id c.self.view_is c.requires.begun

pub swap-requires-2 : goal.swap-requires-2
swap-requires-2 c = still_there _ _ _ _ c.swap.ensures.others (plan_known (the_view c.self.inside) c.args.self.now c.args.id c.self.view_is c.requires.begun)

pub trade-change-requires-clause-stream : goal.trade-change-requires-clause-stream
trade-change-requires-clause-stream c = stream_here (the_view c.self.inside) c.args.self.now c.args.id c.self.view_is _ c.swap.ensures.here c.requires.begun

pub trade-change-requires-clause-running : goal.trade-change-requires-clause-running
trade-change-requires-clause-running c = ap (λ (p : Progress). p.done) (progress_here (the_view c.self.inside) c.args.self.now c.args.id c.self.view_is _ c.swap.ensures.here) ∙ c.requires.running

pub trade-change-requires-clause-known : goal.trade-change-requires-clause-known
trade-change-requires-clause-known c =
    subst (λ (s : Sizes). IfSome (shard_of c.args.instr.now) (λ k. k < s.shards)) (sym (ap sizes_of c.config-config.ensures.setup ∙ sizes_read (the_view c.self.inside) c.args.self.now c.self.view_is)) c.requires.known

pub trade-change-requires-clause-own : goal.trade-change-requires-clause-own
trade-change-requires-clause-own c = c.requires.own

pub trade-change-requires-clause-can : goal.trade-change-requires-clause-can
trade-change-requires-clause-can c =
    let sizes : sizes_of c.config-config.result.now ≡ (state_of c.args.self.now).sizes = ap sizes_of c.config-config.ensures.setup ∙ sizes_read (the_view c.self.inside) c.args.self.now c.self.view_is in
    subst (λ (s : Sizes). CanTrade s c.args.instr.now (course_at c.swap.new.other c.args.id.stream).grant) (sym sizes)
    (subst (λ g. CanTrade (state_of c.args.self.now).sizes c.args.instr.now g) (sym (grant_here (the_view c.self.inside) c.args.self.now c.args.id c.self.view_is _ c.swap.ensures.here)) c.requires.can)
