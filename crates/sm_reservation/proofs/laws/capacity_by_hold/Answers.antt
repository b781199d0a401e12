use Rattle.sm_reservation.proofs.HoldSizes.{capacity_to_put, capacity_to_trade}
use Rattle.sm_reservation.proofs.laws.capacity_by_hold.Goals as goal

pub returns : goal.returns
returns c = record { put = capacity_to_put; trade = capacity_to_trade }
