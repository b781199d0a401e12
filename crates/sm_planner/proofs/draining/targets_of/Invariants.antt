use Rattle.std.specs.Prelude.{All}
use Rattle.sm_planner.specs.Basis.{basis_of, IsMoveOf}
use Rattle.sm_planner.specs.Drain.{AreLeaving, IsRoomBeside}
use Rattle.sm_planner.proofs.draining.targets_of.Given as goal

-- the moves of the shards so far, and the room that is left besides them
abbrev pub invariant-loop-number : goal.invariant-loop-number
invariant-loop-number l = record {
  known : All (IsMoveOf l.placement.setup) l.moves.items;
  leaving : AreLeaving (basis_of l.placement l.pool) l.server l.number l.moves.items;
  room : IsRoomBeside (basis_of l.placement l.pool) l.moves.items l.room;
}
