-- The law is the lemma on what is settled.
use Rattle.laws_service_data.proofs.Reopened.{settled_leads}
use Rattle.laws_service_data.proofs.law.settled_server_leads.Goals as goal

pub returns : goal.returns
returns c = settled_leads c.leads_where_led.ensures c.enough_replicas_have_them.ensures
