use Rattle.std.proofs.Common.{◌∙◌, Option, Bor, List, ap, sym, option_map, map}
use Rattle.std.proofs.lemmas.Result.{on_ok_weaker}
use Rattle.serde_json.specs.Data.{Data}
use Rattle.json_tree.specs.View.{view}
use Rattle.sm_plan_text.specs.declared.rule.Rule.{Rule}
use Rattle.sm_plan_text.specs.Faults.{noted}
use Rattle.sm_plan_text.specs.Tables.{by_word}
use Rattle.sm_plan_text.specs.Rules.{row_of}
use Rattle.sm_plan_text.proofs.RuleLemmas.{worded_noted}
use Rattle.sm_plan_text.proofs.cursor.Cursor.note_worded.Goals as goal

pub returns : goal.returns
returns c =
    let scope = c.args.self.now.scope in
    let d : Data = view c.args.self.now.tree.now in
    on_ok_weaker c.note_rows.result
    (λ end.
    worded_noted c.args.self.now.member c.args.word scope c.in-Some.rules.now d c.args.faults.now.lowest _ _ c.note_unknown.ensures end ∙
    ap (λ (o : Option (Bor (List Rule))). noted c.args.faults.now.lowest (by_word c.args.self.now.member c.args.word (map (row_of scope)) d (option_map (λ r. r.now) o))) (sym c.in-Some.is))
    c.note_rows.ensures
