use Rattle.std.proofs.Common.{◌≡◌, ◌<◌, length, map, arith}
use Rattle.std.proofs.lemmas.List.{length-map}
use Rattle.sm_machine.specs.Hand.{hand_plan}
use Rattle.sm_report.specs.PlayLines.{plan_lines}
use Rattle.sm_report.specs.Player.{scene_of}
use Rattle.sm_report_text.proofs.Texts.{text_of_next}
use Rattle.sm_report.proofs.playing.push_plans.Goals as goal

pub loop-place-preserved : goal.loop-place-preserved
loop-place-preserved c =
    let x = scene_of c.args.player.now in
    let count : length (map hand_plan c.args.player.now.waiting.items) ≡ length c.args.player.now.waiting.items = length-map c.args.player.now.waiting.items hand_plan in
    let below : c.loop-place.place < length x.waiting = omega (arith, count) in
    text_of_next (plan_lines c.args.many x) _ _ _ c.loop-place.place (length x.waiting) below c.in_ok-push_plan.ensures c.loop-place.invariant
