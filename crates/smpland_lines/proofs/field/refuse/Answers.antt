use Rattle.smpland_lines.specs.Refusals.{own_refusal}
use Rattle.smpland_lines.proofs.field.refuse.Goals as goal

pub returns-clause-refused : goal.returns-clause-refused
returns-clause-refused c = (own_refusal c.args.kind.now c.args.fields.now, c.in_ok-write_own.ensures)
