use Rattle.std.proofs.Common.{◌≡◌, ◌<◌, ◌∙◌, ap, sym, subst, ℕ, List, arith, Some, true, false, length}
use Rattle.sm_placement.specs.Setup.{Setup}
use Rattle.sm_placement.specs.Layout.{place_of}
use Rattle.sm_planner.specs.Spread.{is_too_close}
use Rattle.sm_planner.specs.Regions.{AreRegions}
use Rattle.sm_planner.proofs.Firsts.{found, passed}
use Rattle.sm_planner.proofs.spread.first_too_close.Goals as goal

pub loop-number-preserved : goal.loop-number-preserved
loop-number-preserved c =
    let p = c.args.placement.now in
    let n = c.loop-number.number in
    let e : is_too_close p.setup (place_of p) c.args.moves.now n ≡ false = ap (λ (x : ℕ). is_too_close p.setup (place_of p) c.args.moves.now x) (sym c.new-shard.ensures) ∙ sym c.in_ok-is_too_close.ensures ∙ c.if-branch.false in
    let w : c.shard_count-number-end.result ≡ length p.setup.shards = c.shard_count-number-end.ensures.count ∙ ap (λ (x : Setup). length x.shards) c.config-config.ensures.setup in
    let l : n < length p.setup.shards = (let t = c.loop-number-test.true in omega arith) in
    passed (is_too_close p.setup (place_of p) c.args.moves.now) n (length p.setup.shards) c.loop-number.invariant l e

pub returns-then-branch : goal.returns-then-branch
returns-then-branch c =
    let p = c.args.placement.now in
    let n = c.loop-number.number in
    let e : is_too_close p.setup (place_of p) c.args.moves.now n ≡ true = ap (λ (x : ℕ). is_too_close p.setup (place_of p) c.args.moves.now x) (sym c.new-shard.ensures) ∙ sym c.in_ok-is_too_close.ensures ∙ c.if-branch.true in
    let w : c.shard_count-number-end.result ≡ length p.setup.shards = c.shard_count-number-end.ensures.count ∙ ap (λ (x : Setup). length x.shards) c.config-config.ensures.setup in
    let l : n < length p.setup.shards = (let t = c.loop-number-test.true in omega arith) in
    ap Some c.new-shard.ensures ∙ sym (found (is_too_close p.setup (place_of p) c.args.moves.now) n (length p.setup.shards) c.loop-number.invariant l e)

pub is_too_close-requires-clause-regions : goal.is_too_close-requires-clause-regions
is_too_close-requires-clause-regions c =
    subst (λ (x : Setup). AreRegions x c.deref.result.now) c.config-config.ensures.setup (subst (λ (xs : List ℕ). AreRegions c.config-config.result.now xs) (sym c.deref.ensures.value) c.in_ok-regions.ensures)
