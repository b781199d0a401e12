-- The items of two lists in turn, read and written by their places.
use Rattle.std.proofs.Common.{◌≡◌, ◌≤◌, ◌+◌, ◌-◌, ◌/◌, ◌%◌, sym, ◌++◌, ◌∷◌, [], ℕ, zero, suc, List, length, get_or, set, refl, ap, arith}
use Rattle.sm_machine.specs.Plans.{in_turn}
use Rattle.sm_machine.specs.PlansFall.{length-in_turn}

-- halves of places
pub odd_half : (n : ℕ) → n % 2 ≡ 1 → n ≡ n / 2 + n / 2 + 1
odd_half n e = omega arith

-- an even place but 0 is twice its half less one, and two
pub even_half : (n : ℕ) → (n % 2 ≡ 1 → ⊥) → (n ≡ 0 → ⊥) → n ≡ (n / 2 - 1) + (n / 2 - 1) + 2
even_half n e z = omega arith

module _ {X : Type 0} where
  -- an even place is the first list's
  pub get-first : (xs ys : List X) (n j : ℕ) (d : X) → length ys ≤ length xs → length xs ≤ length ys + 1 → n ≡ j + j → get_or (in_turn xs ys) n d ≡ get_or xs j d
  get-first [] [] n j d l m e = refl
  get-first [] (y ∷ ys) n j d l m e = absurd (omega arith)
  get-first (x ∷ []) [] zero zero d l m e = refl
  get-first (x ∷ []) [] zero (suc j) d l m e = absurd (omega arith)
  get-first (x ∷ []) [] (suc n) zero d l m e = absurd (omega arith)
  get-first (x ∷ []) [] (suc n) (suc j) d l m e = refl
  get-first (x ∷ z ∷ xs) [] n j d l m e = absurd (omega arith)
  get-first (x ∷ xs) (y ∷ ys) zero zero d l m e = refl
  get-first (x ∷ xs) (y ∷ ys) zero (suc j) d l m e = absurd (omega arith)
  get-first (x ∷ xs) (y ∷ ys) (suc zero) j d l m e = absurd (omega arith)
  get-first (x ∷ xs) (y ∷ ys) (suc (suc n)) zero d l m e = absurd (omega arith)
  get-first (x ∷ xs) (y ∷ ys) (suc (suc n)) (suc j) d l m e = get-first xs ys n j d (omega arith) (omega arith) (omega arith)

  -- an odd place is the second list's
  pub get-second : (xs ys : List X) (n j : ℕ) (d : X) → length ys ≤ length xs → length xs ≤ length ys + 1 → n ≡ j + j + 1 → get_or (in_turn xs ys) n d ≡ get_or ys j d
  get-second [] [] n j d l m e = refl
  get-second [] (y ∷ ys) n j d l m e = absurd (omega arith)
  get-second (x ∷ []) [] zero j d l m e = absurd (omega arith)
  get-second (x ∷ []) [] (suc n) j d l m e = refl
  get-second (x ∷ z ∷ xs) [] n j d l m e = absurd (omega arith)
  get-second (x ∷ xs) (y ∷ ys) zero j d l m e = absurd (omega arith)
  get-second (x ∷ xs) (y ∷ ys) (suc zero) zero d l m e = refl
  get-second (x ∷ xs) (y ∷ ys) (suc zero) (suc j) d l m e = absurd (omega arith)
  get-second (x ∷ xs) (y ∷ ys) (suc (suc n)) zero d l m e = absurd (omega arith)
  get-second (x ∷ xs) (y ∷ ys) (suc (suc n)) (suc j) d l m e = get-second xs ys n j d (omega arith) (omega arith) (omega arith)

  pub set-first : (xs ys : List X) (n j : ℕ) (v : X) → length ys ≤ length xs → length xs ≤ length ys + 1 → n ≡ j + j → set (in_turn xs ys) n v ≡ in_turn (set xs j v) ys
  set-first [] [] n j v l m e = refl
  set-first [] (y ∷ ys) n j v l m e = absurd (omega arith)
  set-first (x ∷ []) [] zero zero v l m e = refl
  set-first (x ∷ []) [] zero (suc j) v l m e = absurd (omega arith)
  set-first (x ∷ []) [] (suc n) zero v l m e = absurd (omega arith)
  set-first (x ∷ []) [] (suc n) (suc j) v l m e = refl
  set-first (x ∷ z ∷ xs) [] n j v l m e = absurd (omega arith)
  set-first (x ∷ xs) (y ∷ ys) zero zero v l m e = refl
  set-first (x ∷ xs) (y ∷ ys) zero (suc j) v l m e = absurd (omega arith)
  set-first (x ∷ xs) (y ∷ ys) (suc zero) j v l m e = absurd (omega arith)
  set-first (x ∷ xs) (y ∷ ys) (suc (suc n)) zero v l m e = absurd (omega arith)
  set-first (x ∷ xs) (y ∷ ys) (suc (suc n)) (suc j) v l m e = ap (λ zs. x ∷ y ∷ zs) (set-first xs ys n j v (omega arith) (omega arith) (omega arith))

  pub set-second : (xs ys : List X) (n j : ℕ) (v : X) → length ys ≤ length xs → length xs ≤ length ys + 1 → n ≡ j + j + 1 → set (in_turn xs ys) n v ≡ in_turn xs (set ys j v)
  set-second [] [] n j v l m e = refl
  set-second [] (y ∷ ys) n j v l m e = absurd (omega arith)
  set-second (x ∷ []) [] zero j v l m e = absurd (omega arith)
  set-second (x ∷ []) [] (suc n) j v l m e = refl
  set-second (x ∷ z ∷ xs) [] n j v l m e = absurd (omega arith)
  set-second (x ∷ xs) (y ∷ ys) zero j v l m e = absurd (omega arith)
  set-second (x ∷ xs) (y ∷ ys) (suc zero) zero v l m e = refl
  set-second (x ∷ xs) (y ∷ ys) (suc zero) (suc j) v l m e = absurd (omega arith)
  set-second (x ∷ xs) (y ∷ ys) (suc (suc n)) zero v l m e = absurd (omega arith)
  set-second (x ∷ xs) (y ∷ ys) (suc (suc n)) (suc j) v l m e = ap (λ zs. x ∷ y ∷ zs) (set-second xs ys n j v (omega arith) (omega arith) (omega arith))

  -- one item more comes to the list whose turn it is
  pub push-first : (xs ys : List X) (v : X) → length xs ≡ length ys → in_turn xs ys ++ v ∷ [] ≡ in_turn (xs ++ v ∷ []) ys
  push-first [] [] v e = refl
  push-first [] (y ∷ ys) v e = absurd (omega arith)
  push-first (x ∷ xs) [] v e = absurd (omega arith)
  push-first (x ∷ xs) (y ∷ ys) v e = ap (λ zs. x ∷ y ∷ zs) (push-first xs ys v (omega arith))

  pub push-second : (xs ys : List X) (v : X) → length xs ≡ length ys + 1 → in_turn xs ys ++ v ∷ [] ≡ in_turn xs (ys ++ v ∷ [])
  push-second [] ys v e = absurd (omega arith)
  push-second (x ∷ []) [] v e = refl
  push-second (x ∷ z ∷ xs) [] v e = absurd (omega arith)
  push-second (x ∷ xs) (y ∷ ys) v e = ap (λ zs. x ∷ y ∷ zs) (push-second xs ys v (omega arith))

  -- a list of an item and two lists in turn, of which the first has as many items as the second, or one more
  pub record AtFork (d : List X) (x : X) (xs ys : List X) : Type 0 where
    pub is : d ≡ x ∷ in_turn xs ys
    pub less : length ys ≤ length xs
    pub more : length xs ≤ length ys + 1
    pub total : length d ≡ length xs + length ys + 1

  -- an item before two lists in turn is such a list, where their lengths are so
  pub fork_at : {d xs ys : List X} {x : X} → x ∷ in_turn xs ys ≡ d → (length ys ≤ length xs) × (length xs ≤ length ys + 1) → AtFork d x xs ys
  fork_at {d} {xs} {ys} {x} e b =
      let l : length (x ∷ in_turn xs ys) ≡ length d = ap length e in
      record { is = sym e; less = b.0; more = b.1; total = omega (arith, l, length-in_turn xs ys) }

  -- at place 0 stands the item
  pub get_here : {d xs ys : List X} {x : X} → AtFork d x xs ys → (n : ℕ) (o : X) → n ≡ 0 → get_or d n o ≡ x
  get_here f zero o e = rw f.is refl
  get_here f (suc n) o e = absurd (omega arith)

  -- at place 2 j + 1 stands what the first list has at j
  pub get_odd : {d xs ys : List X} {x : X} → AtFork d x xs ys → (n j : ℕ) (o : X) → n ≡ j + j + 1 → get_or d n o ≡ get_or xs j o
  get_odd f zero j o e = absurd (omega arith)
  get_odd {d} {xs} {ys} f (suc n) j o e = rw f.is (get-first xs ys n j o f.less f.more (omega arith))

  -- at place 2 j + 2 stands what the second list has at j
  pub get_even : {d xs ys : List X} {x : X} → AtFork d x xs ys → (n j : ℕ) (o : X) → n ≡ j + j + 2 → get_or d n o ≡ get_or ys j o
  get_even f zero j o e = absurd (omega arith)
  get_even {d} {xs} {ys} f (suc n) j o e = rw f.is (get-second xs ys n j o f.less f.more (omega arith))

  -- a write at place 0 is one to the item
  pub set_here : {d xs ys : List X} {x : X} → AtFork d x xs ys → (n : ℕ) (v : X) → n ≡ 0 → v ∷ in_turn xs ys ≡ set d n v
  set_here f zero v e = rw f.is refl
  set_here f (suc n) v e = absurd (omega arith)

  -- a write at place 2 j + 1 is one to the first list at j
  pub set_odd : {d xs ys : List X} {x : X} → AtFork d x xs ys → (n j : ℕ) (v : X) → n ≡ j + j + 1 → x ∷ in_turn (set xs j v) ys ≡ set d n v
  set_odd f zero j v e = absurd (omega arith)
  set_odd {d} {xs} {ys} {x} f (suc n) j v e = rw f.is (ap (λ zs. x ∷ zs) (sym (set-first xs ys n j v f.less f.more (omega arith))))

  -- a write at place 2 j + 2 is one to the second list at j
  pub set_even : {d xs ys : List X} {x : X} → AtFork d x xs ys → (n j : ℕ) (v : X) → n ≡ j + j + 2 → x ∷ in_turn xs (set ys j v) ≡ set d n v
  set_even f zero j v e = absurd (omega arith)
  set_even {d} {xs} {ys} {x} f (suc n) j v e = rw f.is (ap (λ zs. x ∷ zs) (sym (set-second xs ys n j v f.less f.more (omega arith))))

  -- where both lists have as many items, one more at the end is one more in the first
  pub push_odd : {d xs ys : List X} {x : X} → AtFork d x xs ys → (v : X) → length xs ≡ length ys → x ∷ in_turn (xs ++ v ∷ []) ys ≡ d ++ v ∷ []
  push_odd {d} {xs} {ys} {x} f v e = rw f.is (ap (λ zs. x ∷ zs) (sym (push-first xs ys v e)))

  -- where the first list has one more, one more at the end is one more in the second
  pub push_even : {d xs ys : List X} {x : X} → AtFork d x xs ys → (v : X) → length xs ≡ length ys + 1 → x ∷ in_turn xs (ys ++ v ∷ []) ≡ d ++ v ∷ []
  push_even {d} {xs} {ys} {x} f v e = rw f.is (ap (λ zs. x ∷ zs) (sym (push-second xs ys v e)))
