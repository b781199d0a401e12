use Rattle.std.proofs.Common.{◌≡◌, ◌≤◌, ◌+◌, All}
use Rattle.std.specs.Prelude.{vec_len, vec_capacity}
use Rattle.sm_executor.specs.Ending.{HasEnded, HasNotEnded}
use Rattle.sm_executor.proofs.threads.retire_all.Given as goal

abbrev pub invariant-loop-runner : goal.invariant-loop-runner
invariant-loop-runner g l =
    All (HasEnded g.N.Naming.setup g.N.Naming.opened) l.ended.items
    × All (HasNotEnded g.N.Naming.setup g.N.Naming.opened) l.left.items
    × (vec_len l.ended + vec_len l.runners ≤ vec_capacity l.ended)
    × (vec_len l.left + vec_len l.runners ≤ vec_capacity l.left)
    × (vec_len l.left + vec_len l.ended + vec_len l.runners ≡ vec_len l.fn.left + vec_len l.fn.ended + vec_len l.fn.runners)

abbrev pub decreases-loop-runner : goal.decreases-loop-runner
decreases-loop-runner g l = vec_len l.runners
