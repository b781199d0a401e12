use Rattle.std.proofs.Common.{◌≡◌, ◌-◌, ◌++◌, string_bytes, length}
use Rattle.std.specs.List.{flat_map, range_with_len}
use Rattle.sm_report.specs.Player.{scene_of}
use Rattle.sm_report.specs.PlayLines.{plan_lines, all_plan_lines}
use Rattle.sm_report.proofs.playing.push_plans.Given as goal

abbrev pub invariant-loop-place : goal.invariant-loop-place
invariant-loop-place l =
    string_bytes l.out ++ flat_map (plan_lines l.many (scene_of l.player)) (range_with_len l.place (length (scene_of l.player).waiting - l.place))
    ≡ string_bytes l.fn.out ++ all_plan_lines l.many (scene_of l.player)
