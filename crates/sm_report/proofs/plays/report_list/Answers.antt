use Rattle.std.proofs.Common.{◌≡◌, [], Err, string_bytes, refl, ap, rules}
use Rattle.sm_placement.specs.Setup.{sizes_of}
use Rattle.sm_placement.specs.Layout.{place_of}
use Rattle.sm_report.specs.Player.{scene_of}
use Rattle.sm_report.specs.Playing.{opened_scene}
use Rattle.sm_report.specs.Output.{IsPlayedOutput}
use Rattle.sm_report.proofs.PlayStages.{stopped_report, passed_report, played_at, opened_at}
use Rattle.sm_report.proofs.plays.report_list.Goals as goal

pub returns-in_err-player : goal.returns-in_err-player
returns-in_err-player c =
    let stop = c.in_err-player.field-0.0 in
    let result = c.from_residual.result in
    let is : result ≡ Err stop = search rules in
    stopped_report (sizes_of c.args.placement.setup) (sizes_of c.args.config.now) c.args.many
    (IsPlayedOutput c.args.config.now c.args.many [] c.args.events.now (opened_scene (sizes_of c.args.config.now) (place_of c.args.placement) c.args.log c.args.plans.items))
    c.args.plans.items stop result is (ap sizes_of c.requires.setup) c.in_err-player.ensures.ends

pub returns : goal.returns
returns c =
    let same = ap sizes_of c.requires.setup in
    let empty : string_bytes c.new.result ≡ [] = search rules in
    passed_report (sizes_of c.args.placement.setup) (sizes_of c.args.config.now) c.args.many
    (IsPlayedOutput c.args.config.now c.args.many [] c.args.events.now (opened_scene (sizes_of c.args.config.now) (place_of c.args.placement) c.args.log c.args.plans.items))
    c.args.plans.items c.in_ok-report_played.field-0 same c.in_ok-player.ensures.passed
    (played_at c.args.config.now c.args.many (string_bytes c.new.result) [] c.args.events.now (scene_of c.in_ok-player.player) _ c.in_ok-report_played.field-0 c.in_ok-report_played.ensures empty
    (opened_at (sizes_of c.args.placement.setup) (sizes_of c.args.config.now) (place_of c.args.placement) c.args.log c.args.plans.items c.args.plans.items (scene_of c.in_ok-player.player) c.in_ok-player.ensures.scene same refl))
