use Rattle.std.proofs.Common.{◌≡◌, ◌+◌, length, map}
use Rattle.std.specs.Prelude.{sum, vec_len}
use Rattle.sm_executor.specs.Views.{CallerModel}
use Rattle.sm_executor.proofs.shares.both_merged.Given as goal

abbrev pub invariant-loop-caller : goal.invariant-loop-caller
invariant-loop-caller g l =
    (l.executed.parts + length l.callers.items ≡ l.initial.executed.parts + length l.initial.callers.items)
    × (l.executed.amount + sum (map (λ (e : CallerModel). e.executed) l.callers.items) ≡ l.initial.executed.amount + sum (map (λ (e : CallerModel). e.executed) l.initial.callers.items))
    × (l.refused.parts + length l.callers.items ≡ l.initial.refused.parts + length l.initial.callers.items)
    × (l.refused.amount + sum (map (λ (e : CallerModel). e.refused) l.callers.items) ≡ l.initial.refused.amount + sum (map (λ (e : CallerModel). e.refused) l.initial.callers.items))

abbrev pub decreases-loop-caller : goal.decreases-loop-caller
decreases-loop-caller g l = vec_len l.callers
