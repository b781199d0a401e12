use Rattle.std.proofs.Common.{length}
use Rattle.sm_planner.specs.Payment.{stream_of}
use Rattle.sm_planner.specs.Plan.{move_code, planned}
use Rattle.sm_planner.proofs.law.Orders.{has_order}
use Rattle.sm_planner.proofs.law.Signals.{is_of_parts}
use Rattle.sm_planner.proofs.law.Uses.{used_once, keeps_budget, knows_signals}
use Rattle.sm_planner.proofs.laws.plans_are_orderly.Goals as goal

pub returns : goal.returns
returns c = λ b order. record {
  budget = keeps_budget b order;
  known = knows_signals b order;
  signals = used_once b order;
  order = has_order (planned b order) stream_of (move_code b order) (length order) (is_of_parts b order);
}
