-- A stream publishes.
use Rattle.sm_machine.specs.State.{whole_of}
use Rattle.sm_machine.proofs.Turns.{publish_asks, publish_ready, publish_leaves, publish_lists}
use Rattle.sm_machine.proofs.engine.Engine.make_publish.Goals as goal

pub trade-change-requires : goal.trade-change-requires
trade-change-requires c = publish_asks (whole_of c.args.self.now) c.args.id c.args.shard c.requires c.held_in_order.ensures.order c.held_in_order.ensures.there

pub step_publish-requires : goal.step_publish-requires
step_publish-requires c =
    publish_ready (whole_of c.args.self.now) c.args.id c.args.shard c.requires c.held_in_order.ensures.order c.held_in_order.ensures.there
    _ _ _ c.trade-change.ensures.whole
    (publish_lists (whole_of c.args.self.now) c.args.id c.args.shard c.requires c.held_in_order.ensures.order c.held_in_order.ensures.there _ _ c.trade-change.ensures.change c.listed_in-listed.ensures)

pub returns : goal.returns
returns c p =
    publish_leaves (whole_of c.args.self.now) c.args.id c.args.shard c.requires c.held_in_order.ensures.order c.held_in_order.ensures.there
    _ _ _ _ c.trade-change.ensures.whole c.trade-change.ensures.traded
    (publish_lists (whole_of c.args.self.now) c.args.id c.args.shard c.requires c.held_in_order.ensures.order c.held_in_order.ensures.there _ _ c.trade-change.ensures.change c.listed_in-listed.ensures)
    c.step_publish.ensures p
