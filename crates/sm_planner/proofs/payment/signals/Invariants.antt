use Rattle.std.proofs.Common.{◌≡◌}
use Rattle.std.specs.List.{range_with_len, flat_map}
use Rattle.sm_planner.specs.Stretches.{handed_to}
use Rattle.sm_planner.proofs.payment.signals.Given as goal

abbrev pub invariant-loop-k : goal.invariant-loop-k
invariant-loop-k l = l.signals.items ≡ flat_map (handed_to l.order) (range_with_len 0 l.k)
