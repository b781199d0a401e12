use Rattle.std.proofs.Common.{◌≡◌, drop}
use Rattle.sm_placement.specs.Grid.{cells_of, lasts_of}
use Rattle.sm_placement.specs.Opening.{put_all}
use Rattle.sm_placement.proofs.opening.put_cells.Given as goal

abbrev pub invariant-loop-shard : goal.invariant-loop-shard
invariant-loop-shard l = record {
  cells : put_all (drop l.shard-index l.cells) (cells_of l.table) ≡ put_all l.cells (cells_of l.fn.table);
  lasts : lasts_of l.table ≡ lasts_of l.fn.table;
  down : l.table.down ≡ l.fn.table.down;
  setup : l.table.setup ≡ l.fn.table.setup;
}
