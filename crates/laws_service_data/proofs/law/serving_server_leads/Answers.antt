-- The law is the lemma on every run.
use Rattle.laws_service_data.proofs.Laws.{serving_leads}
use Rattle.laws_service_data.proofs.law.serving_server_leads.Goals as goal

pub returns : goal.returns
returns c = serving_leads c.leads_where_led.ensures
