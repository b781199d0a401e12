use Rattle.std.proofs.Common.{◌≡◌, drop, map}
use Rattle.std.specs.List.{flat_map}
use Rattle.json_tree.specs.View.{view}
use Rattle.sm_plan_text.specs.Faults.{noted}
use Rattle.sm_plan_text.specs.Tables.{row_faults}
use Rattle.sm_plan_text.specs.Rules.{row_of}
use Rattle.sm_plan_text.proofs.cursor.Cursor.note_rows.Given as goal

abbrev pub invariant-loop-rule : goal.invariant-loop-rule
invariant-loop-rule l = noted l.faults.lowest (flat_map (row_faults (view l.self.tree.now)) (map (row_of l.self.scope) (drop l.rule-index l.rules))) ≡ noted l.fn.faults.lowest (flat_map (row_faults (view l.self.tree.now)) (map (row_of l.self.scope) l.rules))
