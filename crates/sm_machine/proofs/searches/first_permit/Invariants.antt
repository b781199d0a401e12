use Rattle.std.proofs.Common.{◌≡◌, ℕ, ◌<◌, false, get_or}
use Rattle.std.specs.Prelude.{◌==◌}
use Rattle.sm_machine.proofs.searches.first_permit.Given as goal

-- none before it is for the server
abbrev pub invariant-loop-at : goal.invariant-loop-at
invariant-loop-at l = (k : ℕ) (d : ℕ) → k < l.at → (get_or l.permits k d == l.server) ≡ false
