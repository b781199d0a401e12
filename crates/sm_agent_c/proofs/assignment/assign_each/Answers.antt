use Rattle.std.proofs.Common.{rules}
use Rattle.std.proofs.lemmas.List.Edits.{map_over_more}
use Rattle.sm_agent_c.specs.Assignment.{raw_assigned}
use Rattle.sm_agent_c.proofs.assignment.assign_each.Goals as goal

pub loop-raw-preserved : goal.loop-raw-preserved
loop-raw-preserved c = search (rules, map_over_more (raw_assigned c.args.base.now))
