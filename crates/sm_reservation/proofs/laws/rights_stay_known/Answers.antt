use Rattle.sm_reservation.proofs.FitLemmas.{known_below, all_known}
use Rattle.sm_reservation.proofs.Below.{below_taken, below_minus, below_plus}
use Rattle.sm_reservation.proofs.laws.rights_stay_known.Goals as goal

pub returns : goal.returns
returns c = record {
  rows = λ shards servers r a b d e. known_below shards servers r (all_known shards servers r a b d e);
  taken = below_taken;
  left = below_minus;
  joined = below_plus;
}
