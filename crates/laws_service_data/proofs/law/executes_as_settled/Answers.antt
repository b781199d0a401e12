-- The law is the lemma over all epochs, by the laws that acknowledged writes stay and that enough replicas have them.
use Rattle.laws_service_data.proofs.Reopened.{executes_as_settled}
use Rattle.laws_service_data.proofs.law.executes_as_settled.Goals as goal

pub returns : goal.returns
returns c = executes_as_settled c.leads_where_led.ensures c.acknowledged_writes_stay.ensures c.enough_replicas_have_them.ensures
