use Rattle.std.proofs.Common.{◌≡◌, ◌∙◌, ◌++◌, ◌∷◌, [], ℕ, List, string_bytes, ap}
use Rattle.sm_placement.specs.Setup.{sizes_of}
use Rattle.sm_placement.specs.Layout.{place_of}
use Rattle.sm_plan_code.specs.Plan.{PlanModel}
use Rattle.sm_report_text.specs.Checking.{accepted_line}
use Rattle.sm_report.specs.Player.{scene_of}
use Rattle.sm_report.proofs.PlayStages.{one_at}
use Rattle.sm_report.proofs.plays.report_one.Goals as goal

pub returns : goal.returns
returns c =
    let listed : c.push_reserved.new.self.items ≡ c.args.plan ∷ [] = c.push_reserved.ensures.items ∙ ap (λ (xs : List PlanModel). xs ++ c.args.plan ∷ []) c.in_ok-plans.ensures.items in
    let told : string_bytes c.push_accepted.new.out ≡ accepted_line c.args.plan = c.in_ok-push_accepted.ensures ∙ ap (λ (text : List ℕ). text ++ accepted_line c.args.plan) c.new-front.ensures.bytes in
    one_at c.args.config.now (sizes_of c.args.placement.setup) (place_of c.args.placement) c.args.log c.push_reserved.new.self.items c.args.plan (string_bytes c.push_accepted.new.out) c.args.events.now
    (scene_of c.in_ok-player.player) c.report_begun.result (ap sizes_of c.requires.setup) listed told c.in_ok-player.ensures.scene c.in_ok-player.ensures.passed c.report_begun.ensures
