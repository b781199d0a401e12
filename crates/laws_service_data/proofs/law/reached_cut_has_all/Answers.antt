-- The law is the lemma along a list of events.
use Rattle.laws_service_data.proofs.Cuts.{reached_cut_has_all}
use Rattle.laws_service_data.proofs.law.reached_cut_has_all.Goals as goal

pub returns : goal.returns
returns c = reached_cut_has_all c.leads_where_led.ensures
