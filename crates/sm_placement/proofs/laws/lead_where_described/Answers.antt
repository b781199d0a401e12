use Rattle.sm_placement.proofs.LeadOf.{lead_where_described}
use Rattle.sm_placement.proofs.laws.lead_where_described.Goals as goal

pub returns : goal.returns
returns c = lead_where_described
