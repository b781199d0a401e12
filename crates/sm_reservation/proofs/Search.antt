-- A binary search among rows in order ends where the rows before a key do.
use Rattle.std.proofs.Common.{◌≡◌, ℕ, zero, suc, ◌<◌, ◌≤◌, true, false, List, [], ◌∷◌, length, get_or, refl, ap, arith}
use Rattle.std.specs.List.Sorted.{IsPartitionPoint, IsPartitionedBy}
use Rattle.sm_reservation.specs.Rows.{before, AllAfter, Rises, count_before}
use Rattle.sm_reservation.proofs.Places.{before_trans}

after_at : {T : Type 0} (key_of : T → ℕ × ℕ) (k : ℕ × ℕ) (xs : List T) (j : ℕ) (d : T) → AllAfter key_of k xs → j < length xs → before k (key_of (get_or xs j d)) ≡ true
after_at key_of k [] j d a lt = absurd (omega arith)
after_at key_of k (x ∷ xs) zero d a lt = a.0
after_at key_of k (x ∷ xs) (suc j) d a lt = after_at key_of k xs j d a.1 (omega arith)

-- the rows before a key stand at the front
pub rows_before_first : {T : Type 0} (key_of : T → ℕ × ℕ) (k : ℕ × ℕ) (xs : List T) → Rises key_of xs → IsPartitionedBy (λ x. before (key_of x) k) xs
rows_before_first key_of k [] r i j d le lt e = absurd (omega arith)
rows_before_first key_of k (x ∷ xs) r zero zero d le lt e = e
rows_before_first key_of k (x ∷ xs) r zero (suc j) d le lt e = before_trans (key_of x) (key_of (get_or xs j d)) k (after_at key_of (key_of x) xs j d r.0 (omega arith)) e
rows_before_first key_of k (x ∷ xs) r (suc i) zero d le lt e = absurd (omega arith)
rows_before_first key_of k (x ∷ xs) r (suc i) (suc j) d le lt e = rows_before_first key_of k xs r.1 i j d (omega arith) (omega arith) e

-- a number that parts the rows before a key from all others is the number of those before it
pub count_at_partition : {T : Type 0} (key_of : T → ℕ × ℕ) (k : ℕ × ℕ) (xs : List T) (i : ℕ) → i ≤ length xs → IsPartitionPoint (λ x. before (key_of x) k ≡ true) (λ x. before (key_of x) k ≡ false) xs i → i ≡ count_before key_of k xs
count_at_partition key_of k [] i le h = omega arith
count_at_partition key_of k (x ∷ xs) zero le h = rw (h.1 0 x (omega arith) (omega arith)) refl
count_at_partition key_of k (x ∷ xs) (suc i) le h =
    let rest : i ≡ count_before key_of k xs = count_at_partition key_of k xs i (omega arith) (λ j d low lt. h.0 (suc j) d (omega arith) (omega arith), λ j d low lt. h.1 (suc j) d (omega arith) (omega arith)) in
    rw (h.0 0 x (omega arith) (omega arith)) (ap suc rest)
