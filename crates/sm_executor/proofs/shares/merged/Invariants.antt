use Rattle.std.proofs.Common.{◌≡◌, ◌+◌, length, map}
use Rattle.std.specs.Prelude.{sum, vec_len}
use Rattle.sm_executor.specs.Views.{EndedModel}
use Rattle.sm_executor.proofs.shares.merged.Given as goal

abbrev pub invariant-loop-end : goal.invariant-loop-end
invariant-loop-end g l =
    (l.share.parts + length l.ended.items ≡ l.initial.share.parts + length l.initial.ended.items)
    × (l.share.amount + sum (map (λ (e : EndedModel). e.counted) l.ended.items) ≡ l.initial.share.amount + sum (map (λ (e : EndedModel). e.counted) l.initial.ended.items))

abbrev pub decreases-loop-end : goal.decreases-loop-end
decreases-loop-end g l = vec_len l.ended
