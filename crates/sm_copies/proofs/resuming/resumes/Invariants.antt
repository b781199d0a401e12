use Rattle.std.proofs.Common.{◌≡◌, ℕ, ◌<◌, ◌≤◌, suc, Some}
use Rattle.std.specs.Prelude.{slice_get}
use Rattle.sm_copies.specs.declared.resuming.ViewStart.{ViewStart}
use Rattle.sm_copies.specs.Views.{view_end}
use Rattle.sm_copies.proofs.resuming.resumes.Given as goal

-- the copy goes on in none of the views so far
abbrev pub invariant-loop-index : goal.invariant-loop-index
invariant-loop-index l = (k : ℕ) (start : ViewStart) → k < l.index → slice_get l.views k ≡ Some start → start.view ≡ l.copy.view →
    l.copy.position ≤ view_end (slice_get l.views (suc k)) l.end → ⊥
