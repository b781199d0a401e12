use Rattle.std.proofs.Common.{◌≡◌, drop}
use Rattle.sm_reservation.specs.Hold.{minus_room}
use Rattle.sm_reservation.specs.Pool.{pool_hold, SameSize}
use Rattle.sm_reservation.proofs.pool_moves.take_rooms.Given as goal

abbrev pub invariant-loop-room : goal.invariant-loop-room
invariant-loop-room l = record {
  hold : minus_room (pool_hold l.pool) (drop l.room-index l.rooms) ≡ minus_room (pool_hold l.fn.pool) l.rooms;
  size : SameSize l.fn.pool l.pool;
}
