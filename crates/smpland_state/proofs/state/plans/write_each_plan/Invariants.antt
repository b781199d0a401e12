use Rattle.std.proofs.Common.{◌≡◌, ◌++◌}
use Rattle.std.specs.List.{flat_map, range_with_len}
use Rattle.smpland_state.specs.State.{plan_state}
use Rattle.smpland_state.proofs.state.plans.write_each_plan.Given as goal

-- the plans so far
abbrev pub invariant-loop-number : goal.invariant-loop-number
invariant-loop-number l = l.writer.tokens ≡ l.initial.writer.tokens ++ flat_map (plan_state l.opened l.is_reopening) (range_with_len 0 l.number)
