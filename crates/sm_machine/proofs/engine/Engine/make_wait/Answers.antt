-- A stream waits for a signal.
use Rattle.std.proofs.Common.{sym, ◌∙◌}
use Rattle.sm_machine.specs.State.{whole_of}
use Rattle.sm_machine.proofs.Turns.{wait_known, wait_asks, wait_leaves}
use Rattle.sm_machine.proofs.engine.Engine.make_wait.Goals as goal

pub is_posted-requires-clause-signal : goal.is_posted-requires-clause-signal
is_posted-requires-clause-signal c = wait_known (whole_of c.args.self.now) c.args.id c.args.signal c.requires

pub carried_in_order-requires-clause-signal : goal.carried_in_order-requires-clause-signal
carried_in_order-requires-clause-signal c = wait_known (whole_of c.args.self.now) c.args.id c.args.signal c.requires

pub step_wait-requires : goal.step_wait-requires
step_wait-requires c =
    wait_asks (whole_of c.args.self.now) c.args.id c.args.signal c.requires c.held_in_order.ensures.order c.held_in_order.ensures.there
    (sym c.is_posted.ensures ∙ c.if-not-is_posted.false) c.carried_in_order.ensures.order c.carried_in_order.ensures.there

pub returns : goal.returns
returns c p =
    wait_leaves (whole_of c.args.self.now) c.args.id c.args.signal c.requires c.held_in_order.ensures.order c.held_in_order.ensures.there
    (sym c.is_posted.ensures ∙ c.if-not-is_posted.false) c.carried_in_order.ensures.order c.carried_in_order.ensures.there
    _ c.step_wait.ensures.whole c.step_wait.ensures.hold c.step_wait.ensures.kept p
