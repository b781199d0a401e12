-- The law is the lemma on each event.
use Rattle.laws_service_data.proofs.Cuts.{cut_ends_writes}
use Rattle.laws_service_data.proofs.law.cut_ends_writes.Goals as goal

pub returns : goal.returns
returns c = cut_ends_writes c.leads_where_led.ensures
