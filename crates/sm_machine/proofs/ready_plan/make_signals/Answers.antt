use Rattle.std.proofs.Common.{◌∙◌}
use Rattle.sm_machine.proofs.Readied.{signals_empty}
use Rattle.sm_machine.proofs.ready_plan.make_signals.Goals as goal

pub discard_signals-requires : goal.discard_signals-requires
discard_signals-requires c = signals_empty _ _ (c.in-Err.ensures.err ∙ c.loop-parcel.invariant)
