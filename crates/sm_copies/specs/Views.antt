-- Where a copy may go on.
use Rattle.std.specs.Prelude.{◌≡◌, ◌≤◌, ℕ, suc, List, Option, Some, None, slice_get}
use Rattle.sm_copies.specs.declared.order.ToldCopy.{ToldCopy}
use Rattle.sm_copies.specs.declared.resuming.ViewStart.{ViewStart}

-- where a view ended: where the next one began, or at the end of the list
abbrev pub view_end : Option ViewStart → ℕ → ℕ
view_end (Some next) end = next.position
view_end None end = end

-- A copy goes on behind a source: the source has the copy's view, which did not end there before the copy does.
abbrev pub Resumes : ToldCopy → List ViewStart → ℕ → Type 0
Resumes copy views end = (index : ℕ) × (start : ViewStart) × (slice_get views index ≡ Some start)
    × (start.view ≡ copy.view)
    × (copy.position ≤ view_end (slice_get views (suc index)) end)
