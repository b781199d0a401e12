-- Lines of a report.
use Rattle.std.specs.Prelude.{ℕ, List, [], ◌∷◌, ◌++◌}
use Rattle.sm_refusals.specs.Refusals.{RefusalModel, refusal_words}

-- a line of these pieces, ended by a line feed
abbrev pub line : List (List ℕ) → List ℕ
line [] = 10 ∷ []
line (piece ∷ pieces) = piece ++ line pieces

-- the line of a refusal
abbrev pub refusal_line : RefusalModel → List ℕ
refusal_line r = line (refusal_words r ∷ [])
