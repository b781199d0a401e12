use Rattle.std.proofs.Common.{◌≡◌, length}
use Rattle.sm_placement.proofs.Tallies.{AreLeadsCounted}
use Rattle.sm_placement.proofs.opening.count_leads.Given as goal

abbrev pub invariant-loop-shard : goal.invariant-loop-shard
invariant-loop-shard l = record {
  len : length l.counts.items ≡ length l.config.shards;
  counts : AreLeadsCounted l.cells l.shard-index l.counts.items;
}
