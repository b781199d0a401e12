use Rattle.std.proofs.Common.{◌≡◌, ◌-◌, drop}
use Rattle.sm_reservation.specs.Rows.{first_twin}
use Rattle.sm_reservation.proofs.order.first_twin.Given as goal

abbrev pub invariant-loop-i : goal.invariant-loop-i
invariant-loop-i g l = first_twin g.T.Row.key (drop (l.i - 1) l.rows) ≡ first_twin g.T.Row.key l.rows
