use Rattle.std.proofs.Common.{ℕ, Bool, false, get_or, subst}
use Rattle.sm_placement.specs.Setup.{Setup}
use Rattle.sm_placement.specs.Layout.{place_of}
use Rattle.sm_planner.specs.Regions.{IsOccupied, stays}
use Rattle.sm_planner.proofs.Numbering.{occupied_same}
use Rattle.sm_planner.proofs.draining.staying_regions.Goals as goal

pub returns : goal.returns
returns c =
    let p = c.args.placement.now in
    let kept = c.in_ok-kept.kept in
    let marks : ℕ → Bool = λ v. get_or c.deref.result.now v false in
    let is = subst (λ (x : Setup). IsOccupied x c.args.regions.now marks kept.marks.items kept.count) c.config-config.ensures.setup c.in_ok-kept.ensures in
    λ more. occupied_same p.setup c.args.regions.now marks (stays (place_of p) c.args.shard c.args.from) kept.marks.items kept.count
    (λ v l. rw c.deref.ensures.value (c.in_ok-has.ensures.marked v l)) is
