use Rattle.std.proofs.Common.{◌≡◌, take, drop, map, []}
use Rattle.json_tree.specs.View.{view}
use Rattle.sm_placement.specs.Config.{shard_row}
use Rattle.sm_plan_text.specs.Faults.{noted}
use Rattle.sm_plan_text.specs.Values.{names_in}
use Rattle.sm_plan_text.specs.Tables.{walked}
use Rattle.sm_plan_text.specs.Shards.{shard_faults, shard_in, listed_in, cells_in}
use Rattle.sm_plan_text.proofs.rows.read_shards.Given as goal

abbrev pub invariant-loop-item : goal.invariant-loop-item
invariant-loop-item l = record {
  rows : map shard_row l.shards.rows.items ≡ map shard_in (take l.item-index (map view l.items));
  names : l.shards.names ≡ names_in (take l.item-index (map view l.items));
  listed : l.shards.listed.items ≡ map (listed_in l.servers) (take l.item-index (map view l.items));
  cells : l.shards.cells.items ≡ cells_in l.servers (take l.item-index (map view l.items));
  faults : noted l.faults.lowest (walked (shard_faults l.servers) (take l.item-index (map view l.items)) (drop l.item-index (map view l.items))) ≡ noted l.fn.faults.lowest (walked (shard_faults l.servers) [] (map view l.items));
}
