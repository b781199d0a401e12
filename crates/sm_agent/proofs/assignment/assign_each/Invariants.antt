use Rattle.std.proofs.Common.{◌≡◌, ◌++◌, map, take, drop}
use Rattle.sm_agent.specs.Assignment.{assigned_shard}
use Rattle.sm_agent.proofs.assignment.assign_each.Given as goal

abbrev pub invariant-loop-shard : goal.invariant-loop-shard
invariant-loop-shard l =
    l.shards ≡ map (assigned_shard l.base) (take l.shard-index l.initial.shards) ++ drop l.shard-index l.initial.shards
