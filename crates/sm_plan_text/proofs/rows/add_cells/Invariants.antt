use Rattle.std.proofs.Common.{◌≡◌, ◌++◌, take, drop, map, []}
use Rattle.json_tree.specs.View.{view}
use Rattle.sm_plan_text.specs.Faults.{noted}
use Rattle.sm_plan_text.specs.Tables.{walked}
use Rattle.sm_plan_text.specs.Shards.{cell_faults, named_cell}
use Rattle.sm_plan_text.proofs.rows.add_cells.Given as goal

abbrev pub invariant-loop-tree : goal.invariant-loop-tree
invariant-loop-tree l =
    let servers = l.cursor.scope.servers.now in
    record {
      cells : l.cells.items ≡ l.fn.cells.items ++ map (named_cell servers l.shard) (take l.tree-index (map view l.items));
      faults : noted l.faults.lowest (walked (cell_faults servers) (take l.tree-index (map view l.items)) (drop l.tree-index (map view l.items))) ≡ noted l.fn.faults.lowest (walked (cell_faults servers) [] (map view l.items));
    }
