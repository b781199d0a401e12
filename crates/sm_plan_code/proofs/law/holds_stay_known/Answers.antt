use Rattle.sm_plan_code.proofs.Known.{parcel_below, signals_known, step_below, along_below}
use Rattle.sm_plan_code.proofs.law.holds_stay_known.Goals as goal

pub returns : goal.returns
returns g = record {
  parcel = λ shards servers p fits. parcel_below shards servers p fits;
  signals = λ shards servers plan ordered fits. signals_known shards servers plan ordered fits;
  step = λ c signals h h' i shards servers known fits below e. step_below c signals h h' i shards servers known fits below e;
  along = λ c signals code h shards servers known fits below p. along_below c signals code h shards servers known fits below p;
}
