use Rattle.std.proofs.Common.{◌≡◌, ◌≤◌, ℕ, List, ◌++◌, length}
use Rattle.journal_lines.specs.Objects.{IsBatch, listed}
use Rattle.journal_serve.specs.Trace.{ReplaysCommands}
use Rattle.journal_serve.proofs.replay.apply_batch.Given as goal

abbrev pub invariant-loop-length : goal.invariant-loop-length
invariant-loop-length g l = (length l.rest ≤ length l.fn.body) × (done : List (List ℕ)) × ReplaysCommands g.A.Applies.takes done l.initial.state l.state
    × ((commands : List (List ℕ)) → IsBatch commands → l.initial.rest ≡ listed commands
    → (next : List (List ℕ)) × IsBatch next × (commands ≡ done ++ next) × (l.rest ≡ listed next))

abbrev pub decreases-loop-length : goal.decreases-loop-length
decreases-loop-length g l = length l.rest
