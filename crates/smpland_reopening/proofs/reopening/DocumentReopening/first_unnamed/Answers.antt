-- The shards that are named are those that may be lost.
use Rattle.std.proofs.Common.{◌≡◌, ◌∙◌, ℕ, subst}
use Rattle.std.specs.Prelude.{IfNone}
use Rattle.smpland_reopening.specs.Proposal.{is_shard_among}
use Rattle.smpland_reopening.proofs.reopening.DocumentReopening.first_unnamed.Goals as goal

pub returns : goal.returns
returns c =
    subst (λ ks. IfNone c.first_apart.result ((s : ℕ) → is_shard_among c.args.named.now s ≡ is_shard_among ks s)) (c.deref.ensures.value ∙ c.in_ok-lost.ensures)
    c.first_apart.ensures
