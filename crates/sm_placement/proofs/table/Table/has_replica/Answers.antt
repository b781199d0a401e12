-- The entry that is read is the pair's.
use Rattle.std.proofs.Common.{arith}
use Rattle.sm_placement.proofs.ReplicaLemmas.{has_replica-read, replicas_shard, replicas_within}
use Rattle.sm_placement.proofs.table.Table.has_replica.Goals as goal

pub get-requires-clause-shard : goal.get-requires-clause-shard
get-requires-clause-shard c = omega (arith, c.number-2.ensures, replicas_shard c.args.shard c.self.invariant c.self.view_is c.requires.shard)

pub get-requires-clause-within : goal.get-requires-clause-within
get-requires-clause-within c =
    rw (c.number.ensures, c.number-2.ensures)
    (omega (arith, replicas_within c.args.server c.self.invariant c.self.view_is c.requires.server, replicas_shard c.args.shard c.self.invariant c.self.view_is c.requires.shard))

pub returns : goal.returns
returns c = has_replica-read c.args.shard c.args.server c.get.result c.self.invariant c.self.view_is (rw (← c.number.ensures, ← c.number-2.ensures) c.get.ensures)
