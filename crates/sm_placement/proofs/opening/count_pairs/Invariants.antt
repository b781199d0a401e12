use Rattle.std.proofs.Common.{◌≡◌, ◌*◌, length, take, count_by}
use Rattle.sm_placement.specs.Layout.{grid_of}
use Rattle.sm_placement.specs.Opening.{is_of}
use Rattle.sm_placement.proofs.opening.count_pairs.Given as goal

abbrev pub invariant-loop-shard : goal.invariant-loop-shard
invariant-loop-shard l = record {
  len : length l.counts.items ≡ length l.config.shards * length l.config.servers;
  counts : grid_of (length l.config.servers) 0 l.counts.items ≡ (λ s v. count_by (is_of s v) (take l.shard-index l.cells));
}
