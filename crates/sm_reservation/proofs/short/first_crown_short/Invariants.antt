use Rattle.std.proofs.Common.{◌≡◌, drop}
use Rattle.sm_reservation.specs.Short.{first_answer, crown_short}
use Rattle.sm_reservation.proofs.short.first_crown_short.Given as goal

-- the first answer is among those still to come
abbrev pub invariant-loop-crown : goal.invariant-loop-crown
invariant-loop-crown g l = first_answer (crown_short (g.H.ByKey.hold l.held)) (drop l.crown-index l.crowns) ≡ first_answer (crown_short (g.H.ByKey.hold l.held)) l.crowns
