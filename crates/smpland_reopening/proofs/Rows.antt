-- Rows of roles that are filled one place after the other.
use Rattle.std.proofs.Common.{◌≡◌, ◌≢◌, ◌∙◌, ◌+◌, ◌<◌, ℕ, sym, ap, arith, inl, inr}
use Rattle.std.proofs.lemmas.Bool.{cases_eq}
use Rattle.sm_placement.specs.Sums.{put2}
use Rattle.sm_placement.proofs.Sums.{put2-here, put2-row, put2-apart}

-- one place more of a row
pub row_more : {A : Type 0} (old new : ℕ → ℕ → A) (f : ℕ → A) (s n : ℕ) (x : A) → new ≡ put2 old s n x → x ≡ f n → ((v : ℕ) → v < n → old s v ≡ f v) → (v : ℕ) → v < n + 1 → new s v ≡ f v
row_more old new f s n x e is before v h = ap (λ (g : ℕ → ℕ → _). g s v) e ∙ elim (cases_eq v n) [
  | inl here ↦ ap (λ k. put2 old s n x s k) here ∙ put2-here old s n x ∙ is ∙ ap f (sym here)
  | inr there ↦ put2-row old s n x v there ∙ before v (omega (arith, h, there))
]

-- the other rows stay
pub rows_apart : {A : Type 0} (old new first : ℕ → ℕ → A) (s n : ℕ) (x : A) → new ≡ put2 old s n x → ((t v : ℕ) → t ≢ s → old t v ≡ first t v) → (t v : ℕ) → t ≢ s → new t v ≡ first t v
rows_apart old new first s n x e before t v h = ap (λ (g : ℕ → ℕ → _). g t v) e ∙ put2-apart old s n x t v h ∙ before t v h

-- one row more
pub rows_more : {A : Type 0} (old new f : ℕ → ℕ → A) (s n : ℕ) → ((v : ℕ) → v < n → new s v ≡ f s v) → ((t v : ℕ) → t ≢ s → new t v ≡ old t v) →
    ((k v : ℕ) → k < s → v < n → old k v ≡ f k v) → (k v : ℕ) → k < s + 1 → v < n → new k v ≡ f k v
rows_more old new f s n row others before k v h l = elim (cases_eq k s) [
  | inl here ↦ ap (λ t. new t v) here ∙ row v l ∙ ap (λ t. f t v) (sym here)
  | inr there ↦ others k v there ∙ before k v (omega (arith, h, there)) l
]
