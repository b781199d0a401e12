use Rattle.std.proofs.Common.{◌≡◌, ◌≤◌, ◌+◌, ◌++◌, reverse}
use Rattle.std.specs.Prelude.{vec_len, vec_capacity}
use Rattle.sm_executor.specs.Views.{streams_run}
use Rattle.sm_executor.proofs.runner.take_tokens.Given as goal

-- the tokens so far, and those of the runners left, are those of all
abbrev pub invariant-loop-runner : goal.invariant-loop-runner
invariant-loop-runner g l =
    (l.tokens.items ++ streams_run (reverse l.runners.items) ≡ l.fn.tokens.items ++ streams_run l.fn.runners.items)
    × (vec_len l.tokens + vec_len l.runners ≤ vec_capacity l.tokens)
    × (vec_capacity l.tokens ≡ vec_capacity l.fn.tokens)

abbrev pub decreases-loop-runner : goal.decreases-loop-runner
decreases-loop-runner g l = vec_len l.runners
