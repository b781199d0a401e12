use Rattle.std.proofs.Common.{◌≡◌, drop}
use Rattle.sm_reservation.specs.Short.{first_answer, cell_short}
use Rattle.sm_reservation.proofs.short.first_cell_short.Given as goal

-- the first answer is among those still to come
abbrev pub invariant-loop-right : goal.invariant-loop-right
invariant-loop-right g l = first_answer (cell_short (g.H.ByKey.hold l.held)) (drop l.right-index l.rights) ≡ first_answer (cell_short (g.H.ByKey.hold l.held)) l.rights
