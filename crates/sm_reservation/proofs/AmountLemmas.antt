-- Amounts after an edit.
use Rattle.std.proofs.Common.{◌≡◌, ℕ, suc, ◌<◌, arith, Option, Some, IsSome, List, [], ◌∷◌, refl, inl, inr}
use Rattle.std.specs.List.{All, AllByRecursion}
use Rattle.std.proofs.lemmas.Bool.{cases_Bool}
use Rattle.sm_reservation.specs.Rows.{same, row_at, HasPositive}

-- what is some value is there
pub present_at : {T : Type 0} (o : Option T) (v : T) → o ≡ Some v → IsSome o
present_at o v e = rw e refl

-- the row at a key has a positive amount where all rows have one
pub positive_at : {T : Type 0} (key_of : T → ℕ × ℕ) (amount : T → ℕ) (k : ℕ × ℕ) (xs : List T) (v : T) → HasPositive amount xs → row_at key_of xs k ≡ Some v → 0 < amount v
positive_at key_of amount k [] v h e = cc
positive_at key_of amount k (x ∷ xs) v h e = elim (cases_Bool (same (key_of x) k)) [
  | inl s ↦ let f = rw s at e in let it : x ≡ v = cc in rw (← it) h.0
  | inr s ↦ positive_at key_of amount k xs v h.1 (rw s at e)
]

-- what holds of the element at each position of a list holds of one element after another
pub each_of : {T : Type 0} (P : T → Type 0) (xs : List T) → All P xs → AllByRecursion P xs
each_of P [] h = tt
each_of P (x ∷ xs) h = (h 0 x (omega arith), each_of P xs (λ k d l. h (suc k) d (omega arith)))
