use Rattle.std.proofs.Common.{◌≡◌, ◌*◌, length, take}
use Rattle.sm_placement.specs.Opening.{IsNamedOnce}
use Rattle.sm_placement.proofs.Tallies.{ArePairsNamed}
use Rattle.sm_placement.proofs.opening.is_named_once.Given as goal

abbrev pub invariant-loop-shard : goal.invariant-loop-shard
invariant-loop-shard l = record {
  len : length l.named.items ≡ length l.config.shards * length l.config.servers;
  named : ArePairsNamed (length l.config.servers) l.cells l.shard-index l.named.items;
  once : IsNamedOnce (take l.shard-index l.cells);
}
