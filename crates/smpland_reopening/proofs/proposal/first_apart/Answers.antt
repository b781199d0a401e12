-- Neither look finds a shard.
use Rattle.std.proofs.Common.{◌≡◌, ℕ, subst, sym}
use Rattle.std.specs.Prelude.{IfNone}
use Rattle.smpland_reopening.specs.Proposal.{is_shard_among}
use Rattle.smpland_reopening.proofs.Named.{among_if_none}
use Rattle.smpland_reopening.proofs.proposal.first_apart.Goals as goal

pub returns : goal.returns
returns c =
    subst (λ found. IfNone found ((s : ℕ) → is_shard_among c.args.others.now s ≡ is_shard_among c.args.shards.now s)) (sym c.or.ensures)
    (among_if_none c.first_beside.result c.first_beside-2.result c.args.shards.now c.args.others.now c.first_beside.ensures c.first_beside-2.ensures)
