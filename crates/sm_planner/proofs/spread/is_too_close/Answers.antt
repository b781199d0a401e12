use Rattle.std.proofs.Common.{◌≡◌, ◌≤◌, ◌∙◌, sym, ap, false, ℕ, get_or, arith}
use Rattle.std.specs.Prelude.{nat_lt, ◌==◌, ◌&&◌}
use Rattle.std.specs.List.{list_any}
use Rattle.sm_placement.specs.Setup.{Setup, ShardRow}
use Rattle.sm_placement.specs.Layout.{place_of}
use Rattle.sm_planner.specs.Spread.{region_count, spread_of, has_after}
use Rattle.sm_planner.proofs.Moved.{never_close}
use Rattle.sm_planner.proofs.Regions.{same_regions, both_is}
use Rattle.sm_planner.proofs.spread.is_too_close.Goals as goal
use Rattle.sm_planner.proofs.spread.is_too_close.Goals.{then-shard-le1-via-then-shard-le1, then-shard-le1-via-else-shard-le1+then-not-is_moved}

pub returns : goal.returns
returns c =
    let p = c.args.placement.now in
    let s = c.args.shard in
    let moves = c.args.moves.now in
    let after = has_after (place_of p) moves s in
    let held = c.in_ok-held.held in
    let count : held.count ≡ region_count p.setup after =
    c.in_ok-held.ensures.count
    ∙ ap (λ (x : Setup). region_count x (λ v. get_or c.deref.result.now v false)) c.config-config.ensures.setup
    ∙ same_regions p.setup (λ v. get_or c.deref.result.now v false) after (λ v l. rw c.deref.ensures.value (c.in_ok-has.ensures v l)) in
    let spread : c.shard-2.result.now.spread ≡ spread_of p.setup s = ap (λ (r : ShardRow). r.spread) c.shard-2.ensures.row ∙ ap (λ (x : Setup). spread_of x s) c.config-config.ensures.setup in
    ap (λ (x : ℕ). nat_lt x c.shard-2.result.now.spread) count
    ∙ ap (λ (x : ℕ). nat_lt (region_count p.setup after) x) spread
    ∙ both_is (list_any (λ m. m.shard == s) moves) (nat_lt (region_count p.setup after) (spread_of p.setup s)) (sym c.is_moved.ensures ∙ c.if-not-is_moved.false)

pub returns-then-shard-le1 : goal.returns-then-shard-le1
returns-then-shard-le1 c =
    let p = c.args.placement.now in
    let s = c.args.shard in
    let moves = c.args.moves.now in
    elim c.then-shard-le1.branch [
      | then-shard-le1-via-then-shard-le1 w ↦
          let spread : c.shard.result.now.spread ≡ spread_of p.setup s = ap (λ (r : ShardRow). r.spread) c.shard.ensures.row ∙ ap (λ (x : Setup). spread_of x s) c.config-config.ensures.setup in
          let low : spread_of p.setup s ≤ 1 = omega (arith, w.if-shard-le1.true, spread) in
          sym (never_close p.setup (place_of p) moves s c.requires.known low)
      | then-shard-le1-via-else-shard-le1+then-not-is_moved w ↦
          sym (ap (λ x. x && nat_lt (region_count p.setup (has_after (place_of p) moves s)) (spread_of p.setup s)) (sym w.is_moved.ensures ∙ w.if-not-is_moved.true))
    ]
