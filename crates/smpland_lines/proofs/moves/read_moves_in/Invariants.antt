use Rattle.std.proofs.Common.{All, length}
use Rattle.sm_plan_code.specs.Move.{IsKnownMove}
use Rattle.smpland_lines.proofs.moves.read_moves_in.Given as goal

abbrev pub invariant-loop-at : goal.invariant-loop-at
invariant-loop-at l = All (IsKnownMove (length l.config.shards) (length l.config.servers)) l.moves.items
