-- A stream posts a signal.
use Rattle.sm_machine.specs.State.{whole_of}
use Rattle.sm_machine.proofs.Turns.{signal_asks, signal_leaves}
use Rattle.sm_machine.proofs.engine.Engine.make_signal.Goals as goal

pub step_signal-requires : goal.step_signal-requires
step_signal-requires c = signal_asks (whole_of c.args.self.now) c.args.id c.args.signal c.requires c.held_in_order.ensures.order c.held_in_order.ensures.there

pub returns : goal.returns
returns c p =
    signal_leaves (whole_of c.args.self.now) c.args.id c.args.signal c.requires c.held_in_order.ensures.order c.held_in_order.ensures.there
    _ c.step_signal.ensures.whole c.step_signal.ensures.sent c.step_signal.ensures.left c.step_signal.ensures.kept p
