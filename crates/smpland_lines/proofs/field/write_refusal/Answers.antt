use Rattle.sm_refusals.specs.Refusals.{refusal_model}
use Rattle.smpland_lines.specs.Refusals.{shared_refusal}
use Rattle.smpland_lines.proofs.field.write_refusal.Goals as goal

pub returns-clause-refused : goal.returns-clause-refused
returns-clause-refused c = (shared_refusal (refusal_model c.args.refusal.now), c.in_ok-write_shared.ensures)
