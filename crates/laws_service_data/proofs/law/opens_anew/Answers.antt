-- The law is the lemma on reopenings.
use Rattle.laws_service_data.proofs.Epochs.{opens_anew}
use Rattle.laws_service_data.proofs.law.opens_anew.Goals as goal

pub returns : goal.returns
returns c = opens_anew c.leads_where_led.ensures
