use Rattle.std.proofs.lemmas.Result.{on_ok_weaker}
use Rattle.json_tree.specs.View.{view}
use Rattle.sm_plan_text.proofs.RuleLemmas.{own_noted}
use Rattle.sm_plan_text.proofs.cursor.Cursor.note_own.Goals as goal

pub returns : goal.returns
returns c =
    on_ok_weaker c.note_rows.result
    (own_noted c.args.self.now.member c.args.self.now.scope c.args.rules.now (view c.args.self.now.tree.now) c.args.faults.now.lowest _ _ c.note_unknown.ensures)
    c.note_rows.ensures
