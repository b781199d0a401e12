use Rattle.std.proofs.Common.{◌≡◌, false, map, string_bytes, take}
use Rattle.sm_placement.specs.Names.{has_double}
use Rattle.sm_placement.specs.Config.{shard_names}
use Rattle.sm_placement.proofs.config.shard_table.Given as goal

abbrev pub invariant-loop-shard : goal.invariant-loop-shard
invariant-loop-shard l = record {
  names : map string_bytes l.names.table.keys ≡ shard_names (take l.shard-index l.shards);
  single : has_double (shard_names (take l.shard-index l.shards)) ≡ false;
}
