use Rattle.std.proofs.Common.{◌≡◌, ◌∙◌, Some, subst}
use Rattle.serde_json.specs.Read.{read}
use Rattle.json_tree.specs.View.{view}
use Rattle.sm_plan_text.proofs.Texts.{data_of_none, data_of_text}
use Rattle.smpland_lines.proofs.line.parse_line.Goals as goal

-- The text has the line's bytes, and they are UTF-8.
pub returns-in-Ok-read-clause-value : goal.returns-in-Ok-read-clause-value
returns-in-Ok-read-clause-value c =
    data_of_text c.args.line.now c.in-Ok.ensures.cases.1
    ∙ subst (λ bytes. read bytes ≡ Some (view c.in-Ok-read.tree)) c.in-Ok.ensures.cases.0 c.in-Ok-read.ensures.ok

-- Bytes that are not UTF-8 have no value.
pub returns-in_default-clause-none : goal.returns-in_default-clause-none
returns-in_default-clause-none c = λ _. data_of_none c.args.line.now c.in_default.ensures.cases.0
