-- Numbers that pass a test, in their order.
use Rattle.std.specs.Prelude.{ℕ, zero, suc, Bool, List, [], ◌∷◌, ◌++◌, if◌then◌else◌}

-- the numbers below n that pass
abbrev pub filter_below : (ℕ → Bool) → ℕ → List ℕ
filter_below test zero = []
filter_below test (suc n) = if test n then filter_below test n ++ n ∷ [] else filter_below test n
