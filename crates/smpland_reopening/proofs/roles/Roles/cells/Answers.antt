-- All shards are done.
use Rattle.std.proofs.Common.{arith}
use Rattle.smpland_reopening.proofs.Naming.{names_all}
use Rattle.smpland_reopening.proofs.roles.Roles.cells.Goals as goal

pub returns : goal.returns
returns c = names_all c.args.self.now c.loop-shard.shard c.loop-shard.cells.items (omega (arith, c.loop-shard-test.false, c.loop-shard.auto.shard-end)) c.loop-shard.invariant
