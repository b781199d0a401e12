-- The place that is read is the pair's.
use Rattle.std.proofs.Common.{ap, sym, nat_lt}
use Rattle.sm_placement.proofs.Tallies.{count_read}
use Rattle.sm_placement.proofs.opening.is_counted_twice.Goals as goal

pub returns : goal.returns
returns c = rw (c.number.ensures, c.number-2.ensures) (ap (nat_lt 1) (sym (count_read c.args.shards c.args.servers c.args.counts.now c.args.shard c.args.server 0 c.requires.len c.requires.shard c.requires.server)))
