use Rattle.std.proofs.Common.{◌≡◌, drop}
use Rattle.sm_reservation.specs.Short.{first_answer, spare_short}
use Rattle.sm_reservation.proofs.short.first_spare_short.Given as goal

-- the first answer is among those still to come
abbrev pub invariant-loop-spare : goal.invariant-loop-spare
invariant-loop-spare g l = first_answer (spare_short (g.H.ByKey.hold l.held)) (drop l.spare-index l.spares) ≡ first_answer (spare_short (g.H.ByKey.hold l.held)) l.spares
