use Rattle.std.proofs.Common.{rules}
use Rattle.std.proofs.lemmas.Fn.{always_returns_same}
use Rattle.sm_reservation.proofs.OrderLemmas.{climbs}
use Rattle.sm_reservation.proofs.order.sorted_rows.Goals as goal

pub returns-clause-climbs : goal.returns-clause-climbs
returns-clause-climbs g c =
    climbs g.T.Row.key c.sort_by_key.new.self.items (c.in_ok-sort_by_key.ensures.sorted g.T.Row.key (always_returns_same _ _ _ (λ a r f' k. search rules)))
