-- A stream takes a server out of the published map.
use Rattle.sm_machine.specs.State.{whole_of}
use Rattle.sm_machine.proofs.Turns.{unlist_asks, unlist_ready, unlist_leaves}
use Rattle.sm_machine.proofs.engine.Engine.make_unlist.Goals as goal

pub trade-change-requires : goal.trade-change-requires
trade-change-requires c = unlist_asks (whole_of c.args.self.now) c.args.id c.args.shard c.requires c.held_in_order.ensures.order c.held_in_order.ensures.there

pub step_publish-requires : goal.step_publish-requires
step_publish-requires c =
    unlist_ready (whole_of c.args.self.now) c.args.id c.args.shard c.requires c.held_in_order.ensures.order c.held_in_order.ensures.there _ _ c.trade-change.ensures.whole

pub returns : goal.returns
returns c p =
    unlist_leaves (whole_of c.args.self.now) c.args.id c.args.shard c.requires c.held_in_order.ensures.order c.held_in_order.ensures.there
    _ _ _ c.trade-change.ensures.whole c.trade-change.ensures.traded c.step_publish.ensures p
