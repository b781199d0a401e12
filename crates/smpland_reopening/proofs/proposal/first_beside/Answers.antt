-- One shard after the other is among the others.
use Rattle.std.proofs.Common.{◌∙◌, sym}
use Rattle.smpland_reopening.proofs.Named.{among_all, among_more}
use Rattle.smpland_reopening.proofs.proposal.first_beside.Goals as goal

pub loop-shard-preserved : goal.loop-shard-preserved
loop-shard-preserved c =
    among_more c.args.shards.now c.args.others.now c.loop-shard.shard-index c.shard-item.result c.loop-shard-test.true c.shard-item.is
    c.loop-shard.invariant (sym c.contains.ensures.value ∙ c.if-not-contains.false)

pub returns : goal.returns
returns c = among_all c.args.shards.now c.args.others.now c.loop-shard.shard-index c.loop-shard-test.false c.loop-shard.invariant
