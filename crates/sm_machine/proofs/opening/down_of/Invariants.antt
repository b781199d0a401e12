use Rattle.sm_placement.specs.Layout.{place_of}
use Rattle.sm_machine.proofs.Rows.{AreDownBelow}
use Rattle.sm_machine.proofs.opening.down_of.Given as goal

abbrev pub invariant-loop-number : goal.invariant-loop-number
invariant-loop-number l = AreDownBelow l.rows.items (place_of l.placement).down l.number
