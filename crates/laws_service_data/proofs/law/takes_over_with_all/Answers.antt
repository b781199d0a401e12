-- The law is the lemma along joined events.
use Rattle.laws_service_data.proofs.TakingOver.{takes_over_with_all}
use Rattle.laws_service_data.proofs.law.takes_over_with_all.Goals as goal

pub returns : goal.returns
returns c = takes_over_with_all c.leads_where_led.ensures
