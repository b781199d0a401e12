-- Each cell is counted at its shard.
use Rattle.std.proofs.Common.{◌≡◌, ◌+◌, ◌≤◌, ◌∙◌, length, length-set, set, take, arith, sym, ap, subst}
use Rattle.std.proofs.lemmas.List.{length-replicate}
use Rattle.sm_server.specs.Cell.{is_primary}
use Rattle.sm_placement.specs.declared.opening.LeadCells.{LeadCells}
use Rattle.sm_placement.specs.Opening.{tally, is_handing, lead_cells}
use Rattle.sm_placement.proofs.Tallies.{AreLeadsCounted, no_cells, leads_none, lead_count, leads_more, tally_small}
use Rattle.sm_placement.proofs.opening.count_leads.Goals as goal

pub loop-shard-init : goal.loop-shard-init
loop-shard-init c = record {
  len = ap length (c.in_ok-counts.ensures.items_if_clones_equal (λ y h. h)) ∙ length-replicate c.shard_count.result no_cells ∙ c.shard_count.ensures.count;
  counts = leads_none c.shard_count.result c.args.cells.now c.in_ok-counts.counts.items (c.in_ok-counts.ensures.items_if_clones_equal (λ y h. h));
}

pub add-requires-clause-primaries : goal.add-requires-clause-primaries
add-requires-clause-primaries c =
    let read : c.index_mut-count.result.now ≡ lead_cells (take c.loop-shard.shard-index c.args.cells.now) c.loop-shard-item.result.0 =
    lead_count (length c.args.config.now.shards) (length c.args.config.now.servers) c.args.cells.now c.loop-shard.shard-index c.loop-shard-item.result c.loop-shard.counts.items c.index_mut-count.result.now c.requires.known c.loop-shard-test.true c.loop-shard-item.is c.loop-shard.invariant.len c.loop-shard.invariant.counts (rw (← c.number.ensures) c.index_mut-count.ensures.value) in
    let small : tally is_primary c.loop-shard-item.result.0 (take c.loop-shard.shard-index c.args.cells.now) ≤ c.loop-shard.shard-index = tally_small is_primary c.loop-shard-item.result.0 c.loop-shard.shard-index c.args.cells.now c.loop-shard-test.true in
    let same : c.index_mut-count.result.now.primaries ≡ tally is_primary c.loop-shard-item.result.0 (take c.loop-shard.shard-index c.args.cells.now) = ap (λ (b : LeadCells). b.primaries) read in
    omega arith

pub add-requires-clause-handing : goal.add-requires-clause-handing
add-requires-clause-handing c =
    let read : c.index_mut-count.result.now ≡ lead_cells (take c.loop-shard.shard-index c.args.cells.now) c.loop-shard-item.result.0 =
    lead_count (length c.args.config.now.shards) (length c.args.config.now.servers) c.args.cells.now c.loop-shard.shard-index c.loop-shard-item.result c.loop-shard.counts.items c.index_mut-count.result.now c.requires.known c.loop-shard-test.true c.loop-shard-item.is c.loop-shard.invariant.len c.loop-shard.invariant.counts (rw (← c.number.ensures) c.index_mut-count.ensures.value) in
    let small : tally is_handing c.loop-shard-item.result.0 (take c.loop-shard.shard-index c.args.cells.now) ≤ c.loop-shard.shard-index = tally_small is_handing c.loop-shard-item.result.0 c.loop-shard.shard-index c.args.cells.now c.loop-shard-test.true in
    let same : c.index_mut-count.result.now.handing ≡ tally is_handing c.loop-shard-item.result.0 (take c.loop-shard.shard-index c.args.cells.now) = ap (λ (b : LeadCells). b.handing) read in
    omega arith

pub loop-shard-preserved : goal.loop-shard-preserved
loop-shard-preserved c = record {
  len = length-set c.loop-shard.counts.items c.number.result c.add.new.self ∙ c.loop-shard.invariant.len;
  counts = subst (λ k. AreLeadsCounted c.args.cells.now (c.loop-shard.shard-index + 1) (set c.loop-shard.counts.items k c.add.new.self)) (sym c.number.ensures)
      (leads_more (length c.args.config.now.shards) (length c.args.config.now.servers) c.args.cells.now c.loop-shard.shard-index c.loop-shard-item.result c.loop-shard.counts.items c.index_mut-count.result.now c.add.new.self c.requires.known c.loop-shard-test.true c.loop-shard-item.is c.loop-shard.invariant.len c.loop-shard.invariant.counts (rw (← c.number.ensures) c.index_mut-count.ensures.value) c.add.ensures.primaries c.add.ensures.handing);
}
