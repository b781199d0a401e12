-- One shard more. A wrong version of the function fails here at once.
use Rattle.std.proofs.Common.{rules}
use Rattle.sm_machine.proofs.spare_replicas.get_live.Goals as goal

pub more-requires-clause-fits : goal.more-requires-clause-fits
more-requires-clause-fits c = search rules

pub loop-number-preserved : goal.loop-number-preserved
loop-number-preserved c = search rules
