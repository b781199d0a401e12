use Rattle.std.proofs.Common.{◌≡◌, ◌||◌, ◌==◌, ℕ, drop}
use Rattle.std.specs.List.{list_any}
use Rattle.sm_placement.specs.Grid.{down_of}
use Rattle.sm_placement.proofs.opening.put_down.Given as goal

abbrev pub invariant-loop-server : goal.invariant-loop-server
invariant-loop-server l = record {
  down : (v : ℕ) → (down_of l.table v || list_any (λ x. x == v) (drop l.server-index l.down)) ≡ (down_of l.fn.table v || list_any (λ x. x == v) l.down);
  cells : l.table.cells ≡ l.fn.table.cells;
  lasts : l.table.lasts ≡ l.fn.table.lasts;
  setup : l.table.setup ≡ l.fn.table.setup;
}
