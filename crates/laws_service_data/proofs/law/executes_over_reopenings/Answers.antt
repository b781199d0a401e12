-- The law is the lemma over all epochs, by the law that acknowledged writes stay.
use Rattle.laws_service_data.proofs.Epochs.{executes_over_reopenings}
use Rattle.laws_service_data.proofs.law.executes_over_reopenings.Goals as goal

pub returns : goal.returns
returns c = executes_over_reopenings c.leads_where_led.ensures c.acknowledged_writes_stay.ensures
