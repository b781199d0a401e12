use Rattle.std.proofs.Common.{◌≡◌, ◌≤◌, ◌+◌, ◌++◌, length, map, reverse, vec_len, vec_capacity}
use Rattle.sm_executor.specs.Views.{running}
use Rattle.sm_executor.proofs.shares.fill_runners.Given as goal

-- the runners so far, and those of the tokens left, are those of all
abbrev pub invariant-loop-token : goal.invariant-loop-token
invariant-loop-token g l =
    (l.runners.items ++ map (λ t. running t 0) (reverse l.tokens.items) ≡ map (λ t. running t 0) l.fn.tokens.items)
    × (vec_len l.runners + vec_len l.tokens ≤ vec_capacity l.runners)
    × (l.free.parts + length l.fn.tokens.items ≡ l.fn.free.parts + length l.tokens.items)
    × (l.free.amount ≡ 0)
    × (length l.fn.tokens.items ≤ l.fn.free.parts)

abbrev pub decreases-loop-token : goal.decreases-loop-token
decreases-loop-token g l = vec_len l.tokens
