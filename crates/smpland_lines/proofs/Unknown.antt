-- The first name that may not stand in a part.
use Rattle.std.proofs.Common.{◌≡◌, ◌∙◌, ap, cond, find, not, option_map, refl, unwrap_or, is_some, ℕ, List, [], ◌∷◌, Bool, true, false, Option, Some, None, true≢false}

module _ {A : Type 0} (v : A → List ℕ) (passes : List ℕ → Bool) where
  by : (b : Bool) (x : A) (rest : Option A) (name : List ℕ) → passes (v x) ≡ b → (Some name ≡ option_map v rest → passes name ≡ false)
      → Some name ≡ option_map v (cond (not b) (Some x) rest) → passes name ≡ false
  by true x rest name same later found = later found
  by false x rest name same later found = ap (λ o. passes (unwrap_or o name)) found ∙ same

  -- the name of the first whose name doesn't pass does not pass
  pub first_fails : (xs : List A) (name : List ℕ) → Some name ≡ option_map v (find (λ x. not (passes (v x))) xs) → passes name ≡ false
  first_fails [] name found = absurd (true≢false (ap is_some found))
  first_fails (x ∷ xs) name found = by (passes (v x)) x (find (λ x. not (passes (v x))) xs) name refl (first_fails xs name) found
