-- The law is the lemma on every run, by the law that acknowledged writes stay.
use Rattle.laws_service_data.proofs.Laws.{executes_with_all}
use Rattle.laws_service_data.proofs.law.executes_with_all.Goals as goal

pub returns : goal.returns
returns c = executes_with_all c.leads_where_led.ensures c.acknowledged_writes_stay.ensures
