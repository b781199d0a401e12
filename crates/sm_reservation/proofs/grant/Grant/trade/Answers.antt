use Rattle.sm_reservation.proofs.TradeLemmas.{places_after}
use Rattle.sm_reservation.proofs.grant.Grant.trade.Goals as goal

pub join_parcel-requires-clause-capacity : goal.join_parcel-requires-clause-capacity
join_parcel-requires-clause-capacity c =
    let room = rw (← c.self.view_is) at c.requires.capacity in
    places_after c.self.inside.hold c.take.new.self _ _ c.take.ensures.less c.take.ensures.rights room
