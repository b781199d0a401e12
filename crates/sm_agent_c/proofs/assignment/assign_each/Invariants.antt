use Rattle.std.proofs.Common.{◌≡◌, ◌++◌, map, take, drop}
use Rattle.sm_agent_c.specs.Assignment.{raw_assigned}
use Rattle.sm_agent_c.proofs.assignment.assign_each.Given as goal

abbrev pub invariant-loop-raw : goal.invariant-loop-raw
invariant-loop-raw l =
    l.shards ≡ map (raw_assigned l.base) (take l.raw-index l.initial.shards) ++ drop l.raw-index l.initial.shards
