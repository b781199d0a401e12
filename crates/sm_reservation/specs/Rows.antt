-- Rows in the order of their keys, and the row at a key.
-- `RowsModel`, `ClimbsFrom`, `Climbs`, `first_twin_from` and `first_twin` are internal: you need not read them for the
-- public contracts.
use Rattle.std.specs.Prelude.{◌≡◌, ℕ, suc, ◌<◌, Bool, true, false, ◌&&◌, ◌||◌, ◌==◌, nat_lt, Option, Some, None, List}
use Rattle.std.specs.Prelude.{[], ◌∷◌, if◌then◌else◌, find}

-- two keys are the same; a key is a shard and a server, or one of them and 0
abbrev pub same : ℕ × ℕ → ℕ × ℕ → Bool
same p q = (p.0 == q.0) && (p.1 == q.1)

-- keys go by their first part, then by their second
abbrev pub before : ℕ × ℕ → ℕ × ℕ → Bool
before p q = nat_lt p.0 q.0 || ((p.0 == q.0) && nat_lt p.1 q.1)

-- the row at a key
abbrev pub row_at : {T : Type 0} → (T → ℕ × ℕ) → List T → ℕ × ℕ → Option T
row_at key_of rows k = find (λ r. same (key_of r) k) rows

-- each row of the list comes after this key
abbrev pub AllAfter : {T : Type 0} → (T → ℕ × ℕ) → ℕ × ℕ → List T → Type 0
AllAfter key_of k [] = Unit {0}
AllAfter key_of k (x ∷ xs) = (before k (key_of x) ≡ true) × AllAfter key_of k xs

-- each row comes after the rows before it
abbrev pub Rises : {T : Type 0} → (T → ℕ × ℕ) → List T → Type 0
Rises key_of [] = Unit {0}
Rises key_of (x ∷ xs) = AllAfter key_of (key_of x) xs × Rises key_of xs

-- rows in memory: in order, and for how many there is capacity
pub record RowsModel (T : Type 0) : Type 0 where
  pub items : List T
  pub capacity : ℕ

-- how many rows at the front come before a key
abbrev pub count_before : {T : Type 0} → (T → ℕ × ℕ) → ℕ × ℕ → List T → ℕ
count_before key_of k [] = 0
count_before key_of k (x ∷ xs) = if before (key_of x) k then suc (count_before key_of k xs) else 0

-- the amount of a row, and 0 if there is none
abbrev pub amount_of : {T : Type 0} → (T → ℕ) → Option T → ℕ
amount_of amount None = 0
amount_of amount (Some r) = amount r

-- the amount at a key, and 0 if no row stands there
abbrev pub amount_at : {T : Type 0} → (T → ℕ × ℕ) → (T → ℕ) → List T → ℕ × ℕ → ℕ
amount_at key_of amount rows k = amount_of amount (row_at key_of rows k)

-- no row of the list has the amount 0
abbrev pub HasPositive : {T : Type 0} → (T → ℕ) → List T → Type 0
HasPositive amount [] = Unit {0}
HasPositive amount (x ∷ xs) = (0 < amount x) × HasPositive amount xs

-- neighbours stand in order, from a first row on
abbrev pub ClimbsFrom : {T : Type 0} → (T → ℕ × ℕ) → T → List T → Type 0
ClimbsFrom key_of x [] = Unit {0}
ClimbsFrom key_of x (y ∷ ys) = (before (key_of y) (key_of x) ≡ false) × ClimbsFrom key_of y ys

-- no row comes before the row ahead of it
abbrev pub Climbs : {T : Type 0} → (T → ℕ × ℕ) → List T → Type 0
Climbs key_of [] = Unit {0}
Climbs key_of (x ∷ xs) = ClimbsFrom key_of x xs

-- the first key that two neighbours share, if this row stands ahead of the list
abbrev pub first_twin_from : {T : Type 0} → (T → ℕ × ℕ) → T → List T → Option (ℕ × ℕ)
first_twin_from key_of x [] = None
first_twin_from key_of x (y ∷ ys) = if same (key_of x) (key_of y) then Some (key_of y) else first_twin_from key_of y ys

-- the first key that two neighbours of the list share
abbrev pub first_twin : {T : Type 0} → (T → ℕ × ℕ) → List T → Option (ℕ × ℕ)
first_twin key_of [] = None
first_twin key_of (x ∷ xs) = first_twin_from key_of x xs
