-- Moves, for which plans are made: which are of known shards and servers.
use Rattle.std.specs.Prelude.{ℕ, ◌<◌}
use Rattle.sm_plan_code.specs.declared.moves.Move.{Move}

-- its shard and both servers are below their counts
pub record IsKnownMove (shards servers : ℕ) (move : Move) : Type 0 where
  pub shard : move.shard < shards
  pub from : move.from < servers
  pub to : move.to < servers
