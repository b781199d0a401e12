use Rattle.sm_reservation.proofs.TradeLemmas.{sizes_after}
use Rattle.sm_reservation.proofs.hold.Hold.exchange.Goals as goal

pub returns-clause-sizes : goal.returns-clause-sizes
returns-clause-sizes c = sizes_after c.args.self.now c.take_portion.new.hold c.join_portion.new.hold _ _ c.take_portion.ensures.less c.take_portion.ensures.rights c.join_portion.ensures.more
