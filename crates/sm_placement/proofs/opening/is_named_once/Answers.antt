-- Each pair is named at its slot.
use Rattle.std.proofs.Common.{◌≡◌, ◌+◌, ◌*◌, ◌<◌, length, length-set, set, true, false, arith, sym, ap, ◌∙◌, refl, subst}
use Rattle.std.proofs.lemmas.Bool.{true≢false}
use Rattle.std.proofs.lemmas.List.{length-replicate, take_all}
use Rattle.sm_placement.specs.Opening.{IsNamedOnce}
use Rattle.sm_placement.proofs.Tallies.{ArePairsNamed, no_pairs_named, pair_named, pair_slot, pairs_named_more, once_more, not_once}
use Rattle.sm_placement.proofs.opening.is_named_once.Goals as goal

pub loop-shard-init : goal.loop-shard-init
loop-shard-init c =
    let len : length c.in_ok-named.named.items ≡ length c.args.config.now.shards * length c.args.config.now.servers =
    ap length (c.in_ok-named.ensures.items_if_clones_equal (λ y h. h)) ∙ length-replicate (c.shard_count-shards.result * c.server_count-servers.result) false
    ∙ rw (c.shard_count-shards.ensures.count, c.server_count-servers.ensures.count) refl in
    record {
      len = len;
      named = no_pairs_named (length c.args.config.now.servers) (c.shard_count-shards.result * c.server_count-servers.result) c.args.cells.now c.in_ok-named.named.items (c.in_ok-named.ensures.items_if_clones_equal (λ y h. h));
      once = λ s v. omega arith;
    }

pub index-requires : goal.index-requires
index-requires c =
    let place : c.loop-shard-item.result.0 * length c.args.config.now.servers + c.loop-shard-item.result.1 < length c.loop-shard.named.items =
    pair_slot (length c.args.config.now.shards) (length c.args.config.now.servers) c.args.cells.now c.loop-shard.shard-index c.loop-shard-item.result c.loop-shard.named.items c.requires c.loop-shard-test.true c.loop-shard-item.is c.loop-shard.invariant.len in
    let same : c.number.result * c.server_count-servers.result + c.number-in-loop-shard.result ≡ c.loop-shard-item.result.0 * length c.args.config.now.servers + c.loop-shard-item.result.1 =
    rw (c.number.ensures, c.number-in-loop-shard.ensures, c.server_count-servers.ensures.count) refl in
    omega (arith, c.loop-shard.named.ok.0)

pub index_mut-requires : goal.index_mut-requires
index_mut-requires c =
    let place : c.loop-shard-item.result.0 * length c.args.config.now.servers + c.loop-shard-item.result.1 < length c.loop-shard.named.items =
    pair_slot (length c.args.config.now.shards) (length c.args.config.now.servers) c.args.cells.now c.loop-shard.shard-index c.loop-shard-item.result c.loop-shard.named.items c.requires c.loop-shard-test.true c.loop-shard-item.is c.loop-shard.invariant.len in
    let same : c.number.result * c.server_count-servers.result + c.number-in-loop-shard.result ≡ c.loop-shard-item.result.0 * length c.args.config.now.servers + c.loop-shard-item.result.1 =
    rw (c.number.ensures, c.number-in-loop-shard.ensures, c.server_count-servers.ensures.count) refl in
    omega (arith, c.loop-shard.named.ok.0)

pub returns-then-index : goal.returns-then-index
returns-then-index c =
    let same : c.number.result * c.server_count-servers.result + c.number-in-loop-shard.result ≡ c.loop-shard-item.result.0 * length c.args.config.now.servers + c.loop-shard-item.result.1 =
    rw (c.number.ensures, c.number-in-loop-shard.ensures, c.server_count-servers.ensures.count) refl in
    let old = pair_named (length c.args.config.now.shards) (length c.args.config.now.servers) c.args.cells.now c.loop-shard.shard-index c.loop-shard-item.result c.loop-shard.named.items c.index.result.now c.requires c.loop-shard-test.true c.loop-shard-item.is c.loop-shard.invariant.len c.loop-shard.invariant.named (rw (← same) c.index.ensures) in
    ((λ t. absurd (true≢false (sym t))), (λ once. absurd (not_once c.args.cells.now c.loop-shard.shard-index c.loop-shard-item.result c.loop-shard-test.true c.loop-shard-item.is (sym old ∙ c.if-index.true) once)))

pub loop-shard-preserved : goal.loop-shard-preserved
loop-shard-preserved c =
    let same : c.number.result * c.server_count-servers.result + c.number-in-loop-shard.result ≡ c.loop-shard-item.result.0 * length c.args.config.now.servers + c.loop-shard-item.result.1 =
    rw (c.number.ensures, c.number-in-loop-shard.ensures, c.server_count-servers.ensures.count) refl in
    let old = pair_named (length c.args.config.now.shards) (length c.args.config.now.servers) c.args.cells.now c.loop-shard.shard-index c.loop-shard-item.result c.loop-shard.named.items c.index.result.now c.requires c.loop-shard-test.true c.loop-shard-item.is c.loop-shard.invariant.len c.loop-shard.invariant.named (rw (← same) c.index.ensures) in
    record {
      len = length-set c.loop-shard.named.items (c.number.result * c.server_count-servers.result + c.number-in-loop-shard.result) true ∙ c.loop-shard.invariant.len;
      named = subst (λ k. ArePairsNamed (length c.args.config.now.servers) c.args.cells.now (c.loop-shard.shard-index + 1) (set c.loop-shard.named.items k true)) (sym same)
          (pairs_named_more (length c.args.config.now.shards) (length c.args.config.now.servers) c.args.cells.now c.loop-shard.shard-index c.loop-shard-item.result c.loop-shard.named.items c.requires c.loop-shard-test.true c.loop-shard-item.is c.loop-shard.invariant.len c.loop-shard.invariant.named);
      once = once_more c.args.cells.now c.loop-shard.shard-index c.loop-shard-item.result c.loop-shard-test.true c.loop-shard-item.is c.loop-shard.invariant.once (sym old ∙ c.if-index.false);
    }

pub returns : goal.returns
returns c =
    let once : IsNamedOnce c.args.cells.now = subst IsNamedOnce (take_all c.loop-shard.shard-index c.args.cells.now c.loop-shard-test.false) c.loop-shard.invariant.once in
    ((λ t. once), (λ o. refl))
