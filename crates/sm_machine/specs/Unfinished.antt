-- The plans that are unfinished, by their numbers.
-- Internal definitions: you need not read them for the public contracts.
use Rattle.std.specs.Prelude.{◌≡◌, ℕ, zero, suc, ◌==◌, ◌++◌, ◌∷◌, [], List, length, slice_index_or, if◌then◌else◌}
use Rattle.sm_machine.specs.Begun.{BegunModel, no_begun}

-- those of the first n plans that have a stream that has not finished, by how many of each have not
abbrev pub unfinished_below : (ℕ → ℕ) → ℕ → List ℕ
unfinished_below counts zero = []
unfinished_below counts (suc n) = if counts n == 0 then unfinished_below counts n else unfinished_below counts n
    ++ n ∷ []

-- how many streams of a plan have not finished
abbrev pub unfinished_of : List BegunModel → ℕ → ℕ
unfinished_of plans k = (slice_index_or plans k no_begun).unfinished

-- the list has the unfinished plans, in the order of their starts
abbrev pub AreUnfinished : List BegunModel → List ℕ → Type 0
AreUnfinished plans numbers = numbers ≡ unfinished_below (unfinished_of plans) (length plans)
