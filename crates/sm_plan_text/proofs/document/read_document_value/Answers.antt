-- No list of a value that is there was read early.
use Rattle.std.proofs.Common.{refl}
use Rattle.json_tree.specs.View.{view}
use Rattle.sm_plan_text.proofs.document.read_document_value.Goals as goal

pub from_outline-requires : goal.from_outline-requires
from_outline-requires c = (view c.args.value.now, refl)

pub returns-clause-ok : goal.returns-clause-ok
returns-clause-ok c = c.from_outline.ensures.ok (view c.args.value.now) refl

pub returns-clause-refused : goal.returns-clause-refused
returns-clause-refused c = c.from_outline.ensures.refused (view c.args.value.now) refl
