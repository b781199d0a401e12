use Rattle.std.proofs.Common.{◌≡◌, ◌<◌, drop}
use Rattle.sm_reservation.specs.Hold.{plus_room}
use Rattle.sm_reservation.specs.Pool.{pool_hold, SameSize}
use Rattle.std.specs.List.{AllByRecursion}
use Rattle.sm_reservation.specs.Steps.{AllSteps}
use Rattle.sm_reservation.specs.Turns.{in_room, RoomFits}
use Rattle.sm_reservation.proofs.pool_moves.put_rooms.Given as goal

abbrev pub invariant-loop-room : goal.invariant-loop-room
invariant-loop-room l = record {
  known : AllByRecursion (λ x. x.server < l.fn.pool.servers) (drop l.room-index l.rooms);
  fits : AllSteps in_room RoomFits (pool_hold l.pool) (drop l.room-index l.rooms);
  hold : plus_room (pool_hold l.pool) (drop l.room-index l.rooms) ≡ plus_room (pool_hold l.fn.pool) l.rooms;
  size : SameSize l.fn.pool l.pool;
}
