-- One number after the other, if its shard is named as lost.
use Rattle.std.proofs.Common.{◌++◌, ◌∙◌, ◌∷◌, [], ap}
use Rattle.std.specs.List.{filter}
use Rattle.smpland_reopening.specs.Proposal.{names_shard}
use Rattle.smpland_reopening.proofs.Marking.{kept_more}
use Rattle.smpland_reopening.proofs.reopening.DocumentReopening.lost_shards.Goals as goal

pub loop-number-preserved : goal.loop-number-preserved
loop-number-preserved c =
    let p = names_shard c.args.self.now in
    (rw c.new.ensures at c.in_ok-push_lost.ensures)
    ∙ ap (λ xs. xs ++ filter p (c.loop-number.number ∷ [])) c.loop-number.invariant
    ∙ kept_more p c.loop-number.number
