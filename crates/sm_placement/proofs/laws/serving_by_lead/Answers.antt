use Rattle.sm_placement.proofs.Servings.{serving_by_lead}
use Rattle.sm_placement.proofs.laws.serving_by_lead.Goals as goal

pub returns : goal.returns
returns c = serving_by_lead
