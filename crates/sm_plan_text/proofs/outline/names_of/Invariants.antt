use Rattle.std.proofs.Common.{◌≡◌, take, map}
use Rattle.json_tree.specs.View.{view}
use Rattle.sm_plan_text.specs.Values.{names_in}
use Rattle.sm_plan_text.proofs.outline.names_of.Given as goal

abbrev pub invariant-loop-item : goal.invariant-loop-item
invariant-loop-item l = l.names ≡ names_in (take l.item-index (map view l.items))
