-- Keys: whether two are the same, and which comes before the other.
use Rattle.std.proofs.Common.{◌≡◌, ℕ, true, false, arith, eqb}
use Rattle.std.proofs.lemmas.Bool.Decides.{nat_tests}
use Rattle.sm_reservation.specs.Rows.{same, before}

-- a key is the same as itself
pub same_here : (p : ℕ × ℕ) → same p p ≡ true
same_here p = grind (arith, nat_tests)

-- of two keys either may be tested against the other
pub same_sym : (p q : ℕ × ℕ) → same p q ≡ same q p
same_sym p q = grind (arith, nat_tests)

-- two keys that are the same as a third are the same
pub same_trans : (p q r : ℕ × ℕ) → same p r ≡ true → same q r ≡ true → same p q ≡ true
same_trans p q r a b = grind (arith, nat_tests)

-- keys that test as the same are equal
pub same_is : (p q : ℕ × ℕ) → same p q ≡ true → p ≡ q
same_is p q e = grind (arith, nat_tests)

-- a key is not the same as one that it comes before
pub before_not_same : (p q : ℕ × ℕ) → before p q ≡ true → same p q ≡ false
before_not_same p q e = grind (arith, nat_tests)

-- a key that comes before one that comes before a third comes before the third
pub before_trans : (p q r : ℕ × ℕ) → before p q ≡ true → before q r ≡ true → before p r ≡ true
before_trans p q r a b = grind (arith, nat_tests)

-- of two keys that are not the same, if the one does not come before the other, the other comes before it
pub before_from_not : (p q : ℕ × ℕ) → before p q ≡ false → same p q ≡ false → before q p ≡ true
before_from_not p q a b = grind (arith, nat_tests)

-- what is the same as a key is not the same as one behind it
pub apart_after : (p q r : ℕ × ℕ) → before p q ≡ true → same p r ≡ true → same q r ≡ false
apart_after p q r a b = grind (arith, nat_tests)

-- two keys of one number each are the same where the numbers are
pub same_first : (s q : ℕ) → same (s, 0) (q, 0) ≡ eqb s q
same_first s q = grind (arith, nat_tests)
