use Rattle.std.proofs.Common.{◌≡◌, ◌≤◌, Option, Some, length, map, take, drop}
use Rattle.std.specs.Prelude.{vec_capacity}
use Rattle.sm_placement.specs.Setup.{sizes_of}
use Rattle.sm_machine.specs.Hand.{AreFor, hand_plan}
use Rattle.sm_report.specs.Report.{Output}
use Rattle.sm_report.specs.Stages.{AtChecks}
use Rattle.sm_report.proofs.PlayStages.{IsThat}
use Rattle.sm_report.proofs.plays.all_checked.Given as goal

abbrev pub invariant-loop-place : goal.invariant-loop-place
invariant-loop-place l = record {
  left : l.left.items ≡ drop l.place l.fn.plans.items;
  waits : map hand_plan l.waiting.items ≡ map (λ plan. Some plan) (take l.place l.fn.plans.items);
  count : length l.waiting.items ≡ l.place;
  room : length l.fn.plans.items ≤ vec_capacity l.waiting;
  checked : AreFor l.placement.setup l.waiting.items;
  rest : (o : Option Output) (made : Output) → AtChecks (sizes_of l.placement.setup) l.many l.place (drop l.place l.fn.plans.items) (IsThat o) made → AtChecks (sizes_of l.placement.setup) l.many 0 l.fn.plans.items (IsThat o) made;
}
