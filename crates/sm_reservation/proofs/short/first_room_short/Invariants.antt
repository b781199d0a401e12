use Rattle.std.proofs.Common.{◌≡◌, drop}
use Rattle.sm_reservation.specs.Short.{first_answer, room_short}
use Rattle.sm_reservation.proofs.short.first_room_short.Given as goal

-- the first answer is among those still to come
abbrev pub invariant-loop-room : goal.invariant-loop-room
invariant-loop-room g l = first_answer (room_short (g.H.ByKey.hold l.held)) (drop l.room-index l.rooms) ≡ first_answer (room_short (g.H.ByKey.hold l.held)) l.rooms
