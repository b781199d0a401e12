-- Each pair is counted at its place.
use Rattle.std.proofs.Common.{◌≡◌, ◌+◌, ◌*◌, ◌≤◌, ◌<◌, count_by, length, length-set, set, arith, sym, ap, ◌∙◌, refl, subst}
use Rattle.std.proofs.lemmas.List.{length-replicate, take_all}
use Rattle.sm_placement.specs.Opening.{is_of}
use Rattle.sm_placement.proofs.Tallies.{ArePairsCounted, pairs_none, pair_slot, pair_count_small, pairs_more}
use Rattle.sm_placement.proofs.opening.count_pairs.Goals as goal

pub loop-shard-init : goal.loop-shard-init
loop-shard-init c =
    let len : length c.in_ok-counts.counts.items ≡ length c.args.config.now.shards * length c.args.config.now.servers =
    ap length (c.in_ok-counts.ensures.items_if_clones_equal (λ y h. h)) ∙ length-replicate (c.shard_count-shards.result * c.server_count-servers.result) 0
    ∙ rw (c.shard_count-shards.ensures.count, c.server_count-servers.ensures.count) refl in
    record { len = len; counts = pairs_none (length c.args.config.now.servers) (c.shard_count-shards.result * c.server_count-servers.result) c.args.cells.now c.in_ok-counts.counts.items (c.in_ok-counts.ensures.items_if_clones_equal (λ y h. h)) }

pub index_mut-requires : goal.index_mut-requires
index_mut-requires c =
    let place : c.loop-shard-item.result.0 * length c.args.config.now.servers + c.loop-shard-item.result.1 < length c.loop-shard.counts.items =
    pair_slot (length c.args.config.now.shards) (length c.args.config.now.servers) c.args.cells.now c.loop-shard.shard-index c.loop-shard-item.result c.loop-shard.counts.items c.requires.known c.loop-shard-test.true c.loop-shard-item.is c.loop-shard.invariant.len in
    let same : c.number.result * c.server_count-servers.result + c.number-in-loop-shard.result ≡ c.loop-shard-item.result.0 * length c.args.config.now.servers + c.loop-shard-item.result.1 =
    rw (c.number.ensures, c.number-in-loop-shard.ensures, c.server_count-servers.ensures.count) refl in
    omega (arith, c.loop-shard.counts.ok.0)

pub overflow_add-index_mut : goal.overflow_add-index_mut
overflow_add-index_mut c =
    let same : c.number.result * c.server_count-servers.result + c.number-in-loop-shard.result ≡ c.loop-shard-item.result.0 * length c.args.config.now.servers + c.loop-shard-item.result.1 =
    rw (c.number.ensures, c.number-in-loop-shard.ensures, c.server_count-servers.ensures.count) refl in
    let small : c.index_mut.result.now ≤ c.loop-shard.shard-index =
    pair_count_small (length c.args.config.now.shards) (length c.args.config.now.servers) c.args.cells.now c.loop-shard.shard-index c.loop-shard-item.result c.loop-shard.counts.items c.index_mut.result.now c.requires.known c.loop-shard-test.true c.loop-shard-item.is c.loop-shard.invariant.len c.loop-shard.invariant.counts (rw (← same) c.index_mut.ensures.value) in
    omega arith

pub loop-shard-preserved : goal.loop-shard-preserved
loop-shard-preserved c =
    let same : c.number.result * c.server_count-servers.result + c.number-in-loop-shard.result ≡ c.loop-shard-item.result.0 * length c.args.config.now.servers + c.loop-shard-item.result.1 =
    rw (c.number.ensures, c.number-in-loop-shard.ensures, c.server_count-servers.ensures.count) refl in
    record {
      len = length-set c.loop-shard.counts.items (c.number.result * c.server_count-servers.result + c.number-in-loop-shard.result) (c.index_mut.result.now + 1) ∙ c.loop-shard.invariant.len;
      counts = subst (λ k. ArePairsCounted (length c.args.config.now.servers) c.args.cells.now (c.loop-shard.shard-index + 1) (set c.loop-shard.counts.items k (c.index_mut.result.now + 1))) (sym same)
          (pairs_more (length c.args.config.now.shards) (length c.args.config.now.servers) c.args.cells.now c.loop-shard.shard-index c.loop-shard-item.result c.loop-shard.counts.items c.index_mut.result.now c.requires.known c.loop-shard-test.true c.loop-shard-item.is c.loop-shard.invariant.len c.loop-shard.invariant.counts (rw (← same) c.index_mut.ensures.value));
    }

pub returns-clause-counts : goal.returns-clause-counts
returns-clause-counts c = c.loop-shard.invariant.counts ∙ ap (λ l. λ s v. count_by (is_of s v) l) (take_all c.loop-shard.shard-index c.args.cells.now c.loop-shard-test.false)

pub returns-clause-len : goal.returns-clause-len
returns-clause-len c = c.loop-shard.invariant.len
