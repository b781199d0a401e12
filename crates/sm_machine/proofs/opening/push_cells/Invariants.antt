use Rattle.sm_placement.specs.Layout.{place_of}
use Rattle.sm_machine.specs.Opening.{AreCellsBefore}
use Rattle.sm_machine.proofs.opening.push_cells.Given as goal

abbrev pub invariant-loop-number : goal.invariant-loop-number
invariant-loop-number l = AreCellsBefore l.rows.items (place_of l.placement).cells l.shard l.number
