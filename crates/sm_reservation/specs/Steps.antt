-- A list gone through in turn: each element changes a state.
-- Internal definitions: you need not read them for the public contracts.
use Rattle.std.specs.Prelude.{ℕ, ◌+◌, Bool, List, [], ◌∷◌}
use Rattle.sm_placement.specs.Sums.{bit}

-- how many elements pass a test, each at the state that it meets
abbrev pub count_steps : {S T : Type 0} → (S → T → S) → (S → T → Bool) → S → List T → ℕ
count_steps step test s [] = 0
count_steps step test s (x ∷ xs) = bit (test s x) + count_steps step test (step s x) xs

-- each element has a property at the state that it meets
abbrev pub AllSteps : {S T : Type 0} → (S → T → S) → (S → T → Type 0) → S → List T → Type 0
AllSteps step P s [] = Unit {0}
AllSteps step P s (x ∷ xs) = P s x × AllSteps step P (step s x) xs
