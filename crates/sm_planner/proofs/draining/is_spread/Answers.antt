use Rattle.std.proofs.Common.{◌≡◌, ◌<◌, ◌≤◌, ◌∙◌, ◌||◌, ◌==◌, ℕ, Bool, true, sym, ap, refl, get_or, arith}
use Rattle.std.proofs.lemmas.Bool.{eq-eqb, le-leb, or_left}
use Rattle.std.specs.Prelude.{nat_le}
use Rattle.sm_placement.specs.Setup.{Setup, ShardRow}
use Rattle.sm_placement.specs.Layout.{place_of}
use Rattle.sm_planner.specs.Spread.{region_count, spread_of}
use Rattle.sm_planner.specs.Regions.{stays}
use Rattle.sm_planner.proofs.Moved.{some_region}
use Rattle.sm_planner.proofs.Numbering.{counted_with}
use Rattle.sm_planner.proofs.draining.is_spread.Goals as goal

pub returns : goal.returns
returns c =
    let p = c.args.placement.now in
    let m = c.args.leaving.now in
    let regions = c.args.regions.now in
    let staying = c.args.staying.now in
    let kept : ℕ → Bool = stays (place_of p) m.shard m.from in
    let after : ℕ → Bool = λ w. (w == m.to) || kept w in
    let spread : c.shard.result.now.spread ≡ spread_of p.setup m.shard = ap (λ (r : ShardRow). r.spread) c.shard.ensures.row ∙ ap (λ (x : Setup). spread_of x m.shard) c.config-config.ensures.setup in
    let more : 1 < spread_of p.setup m.shard = (let t = c.if-spread-le1.false in omega arith) in
    let count : c.count_with.result ≡ region_count p.setup after =
    counted_with p.setup regions c.requires.regions kept staying.marks.items staying.count m.to (get_or regions c.number.result 0) c.count_with.result (c.requires.staying more) c.requires.leaving.to
    (ap (λ (k : ℕ). get_or regions k 0) c.number.ensures) c.count_with.ensures in
    ap (λ (x : ℕ). nat_le x c.count_with.result) spread ∙ ap (λ (x : ℕ). nat_le (spread_of p.setup m.shard) x) count

pub returns-then-spread-le1 : goal.returns-then-spread-le1
returns-then-spread-le1 c =
    let p = c.args.placement.now in
    let m = c.args.leaving.now in
    let kept : ℕ → Bool = stays (place_of p) m.shard m.from in
    let after : ℕ → Bool = λ w. (w == m.to) || kept w in
    let spread : c.shard.result.now.spread ≡ spread_of p.setup m.shard = ap (λ (r : ShardRow). r.spread) c.shard.ensures.row ∙ ap (λ (x : Setup). spread_of x m.shard) c.config-config.ensures.setup in
    let there : after m.to ≡ true = or_left (m.to == m.to) (kept m.to) (eq-eqb m.to m.to refl) in
    let one : 1 ≤ region_count p.setup after = some_region p.setup after m.to c.requires.leaving.to there in
    sym (le-leb (spread_of p.setup m.shard) (region_count p.setup after) (let t = c.if-spread-le1.true in omega arith))
