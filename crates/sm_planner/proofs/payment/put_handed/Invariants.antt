use Rattle.std.proofs.Common.{◌≡◌, ◌++◌, map, filter}
use Rattle.std.specs.List.{range_with_len}
use Rattle.sm_planner.specs.Payment.{handed}
use Rattle.sm_planner.specs.Stretches.{is_paid_by}
use Rattle.sm_planner.proofs.payment.put_handed.Given as goal

abbrev pub invariant-loop-j : goal.invariant-loop-j
invariant-loop-j l = l.signals.items ≡ l.initial.signals.items ++ map (handed l.k) (filter (is_paid_by l.order l.k) (range_with_len 0 l.j))
