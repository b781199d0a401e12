-- The law is the lemma over all epochs.
use Rattle.laws_service_data.proofs.NumbersLater.{settled_suffices}
use Rattle.laws_service_data.proofs.law.settled_suffices.Goals as goal

pub returns : goal.returns
returns c = settled_suffices c.leads_where_led.ensures c.enough_replicas_have_them.ensures
