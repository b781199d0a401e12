use Rattle.std.proofs.Common.{◌∙◌}
use Rattle.json_tree.specs.View.{view}
use Rattle.sm_plan_text.proofs.RuleLemmas.{rows_step}
use Rattle.sm_plan_text.proofs.cursor.Cursor.note_rows.Goals as goal

pub loop-rule-preserved : goal.loop-rule-preserved
loop-rule-preserved c =
    rows_step c.args.self.now.scope (view c.args.self.now.tree.now) c.args.rules.now c.loop-rule.rule-index _ _ _ c.loop-rule-test.true c.in_ok-note_row.ensures ∙ c.loop-rule.invariant
