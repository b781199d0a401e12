use Rattle.std.proofs.Common.{rules}
use Rattle.std.proofs.lemmas.List.Edits.{map_over_more}
use Rattle.sm_agent.specs.Assignment.{assigned_shard}
use Rattle.sm_agent.proofs.assignment.assign_each.Goals as goal

pub loop-shard-preserved : goal.loop-shard-preserved
loop-shard-preserved c = search (rules, map_over_more (assigned_shard c.args.base.now))
