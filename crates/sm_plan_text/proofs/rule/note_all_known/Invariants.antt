use Rattle.std.proofs.Common.{◌≡◌, drop, map}
use Rattle.std.specs.List.{flat_map}
use Rattle.json_tree.specs.View.{view}
use Rattle.sm_plan_text.specs.Faults.{noted}
use Rattle.sm_plan_text.specs.Tables.{entry_faults}
use Rattle.sm_plan_text.proofs.rule.note_all_known.Given as goal

abbrev pub invariant-loop-item : goal.invariant-loop-item
invariant-loop-item l = noted l.faults.lowest (flat_map (entry_faults l.member l.names) (drop l.item-index (map view l.items))) ≡ noted l.fn.faults.lowest (flat_map (entry_faults l.member l.names) (map view l.items))
