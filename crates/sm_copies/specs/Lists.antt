-- A shard's list of writes with their views, and the view and position of a copy of it.
use Rattle.std.specs.Prelude.{ℕ, suc, ◌==◌, ◌&&◌, Bool, true, false, List, [], ◌∷◌, length, if◌then◌else◌}
use Rattle.sm_copies.specs.declared.order.ToldCopy.{ToldCopy}
use Rattle.sm_copies.specs.declared.resuming.ViewStart.{ViewStart}

-- An entry of a list: a write, with the view in which it was executed, or the beginning of that view.
pub record ListEntry : Type 0 where
  pub view : ℕ
  pub write : ℕ

-- the number of no write
abbrev pub NO_WRITE : ℕ
NO_WRITE = 0

-- the beginning of a view
abbrev pub beginning : ℕ → ListEntry
beginning view = record { view = view; write = NO_WRITE }

-- whether two entries are the same
abbrev pub is_same : ListEntry → ListEntry → Bool
is_same a b = (a.view == b.view) && (a.write == b.write)

-- whether a list is a beginning of another one
abbrev pub begins : List ListEntry → List ListEntry → Bool
begins [] ys = true
begins (x ∷ xs) [] = false
begins (x ∷ xs) (y ∷ ys) = is_same x y && begins xs ys

-- the view of the last entry, or this one if there is none
abbrev pub last_view : ℕ → List ListEntry → ℕ
last_view view [] = view
last_view view (x ∷ xs) = last_view x.view xs

-- the view of a copy
abbrev pub view_of : List ListEntry → ℕ
view_of xs = last_view 0 xs

-- The view and the position of a copy. A position counts entries here, and servers count writes alone: both differ by
-- the views that began up to there, and only positions of one view are compared, so that they decide alike.
abbrev pub told_of : List ListEntry → ToldCopy
told_of copy = record { view = view_of copy; position = length copy }

-- the views that begin in the rest of a list, which stands at a position behind an entry of this view
abbrev pub views_behind : ℕ → ℕ → List ListEntry → List ViewStart
views_behind view at [] = []
views_behind view at (x ∷ xs) =
    if x.view == view then views_behind view (suc at) xs
    else record { view = x.view; position = at } ∷ views_behind x.view (suc at) xs

-- the views of a list, each with the position at which it began
abbrev pub views_of : List ListEntry → List ViewStart
views_of [] = []
views_of (x ∷ xs) = record { view = x.view; position = 0 } ∷ views_behind x.view 1 xs
