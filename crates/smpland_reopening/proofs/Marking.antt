-- Marks by number, and the numbers that are marked.
use Rattle.std.proofs.Common.{◌≡◌, ◌≢◌, ◌∙◌, ◌+◌, ◌<◌, ◌∷◌, ◌++◌, [], ℕ, Bool, true, false, List, length, set, map, sym, ap, arith, refl, inl, inr}
use Rattle.std.specs.Prelude.{◌==◌, ◌||◌, slice_index_or}
use Rattle.std.specs.List.{filter, range_with_len}
use Rattle.std.proofs.lemmas.Bool.{cases_eq, cases_Bool, eq-eqb, ne_eqb}
use Rattle.std.proofs.lemmas.List.{get_or-set_same, append-nil, get_or-set_other, map-append, map-id}
use Rattle.std.proofs.lemmas.List.Elements.{filter-append}
use Rattle.std.proofs.lemmas.List.FromFn.{map-range_with_len_more}

or_true : (b : Bool) → (b || true) ≡ true
or_true true = refl
or_true false = refl

or_false : (b : Bool) → (b || false) ≡ b
or_false true = refl
or_false false = refl

-- one number is marked more
pub one_marked : (marks : List Bool) (n k : ℕ) → k < length marks → slice_index_or (set marks n true) k false ≡ (slice_index_or marks k false || n == k)
one_marked marks n k l = elim (cases_eq n k) [
  | inl here ↦
      rw (← here) (get_or-set_same marks n true false (rw here l)) ∙ sym (ap (λ b. slice_index_or marks k false || b) (eq-eqb n k here) ∙ or_true (slice_index_or marks k false))
  | inr apart ↦
      get_or-set_other marks n k true false (λ e. apart (sym e)) ∙ sym (ap (λ b. slice_index_or marks k false || b) (ne_eqb n k apart) ∙ or_false (slice_index_or marks k false))
]

-- the numbers below n + 1 are those below n, and n
range_more : (n : ℕ) → range_with_len 0 (n + 1) ≡ range_with_len 0 n ++ n ∷ []
range_more n =
    sym (map-id (range_with_len 0 (n + 1))) ∙ map-range_with_len_more (λ x. x) 0 n n (omega arith) ∙ ap (λ xs. xs ++ n ∷ []) (map-id (range_with_len 0 n))

-- those below n + 1 that pass are those below n, and n if it does
pub kept_more : (p : ℕ → Bool) (n : ℕ) → filter p (range_with_len 0 n) ++ filter p (n ∷ []) ≡ filter p (range_with_len 0 (n + 1))
kept_more p n = sym (filter-append p (range_with_len 0 n) (n ∷ [])) ∙ ap (filter p) (sym (range_more n))

-- n passes, and is added
pub kept_pushed : (p : ℕ → Bool) (n : ℕ) (xs ys : List ℕ) → xs ≡ filter p (range_with_len 0 n) → p n ≡ true → ys ≡ xs ++ n ∷ [] → ys ≡ filter p (range_with_len 0 (n + 1))
kept_pushed p n xs ys is passes e = e ∙ ap (λ zs. zs ++ n ∷ []) is ∙ ap (λ zs. filter p (range_with_len 0 n) ++ zs) (sym (kept p n passes)) ∙ kept_more p n
  where
    kept : (p : ℕ → Bool) (n : ℕ) → p n ≡ true → filter p (n ∷ []) ≡ n ∷ []
    kept p n e = rw e refl

-- it does not
pub kept_passed : (p : ℕ → Bool) (n : ℕ) (xs : List ℕ) → xs ≡ filter p (range_with_len 0 n) → p n ≡ false → xs ≡ filter p (range_with_len 0 (n + 1))
kept_passed p n xs is fails = is ∙ sym (append-nil (filter p (range_with_len 0 n))) ∙ ap (λ zs. filter p (range_with_len 0 n) ++ zs) (sym (left p n fails)) ∙ kept_more p n
  where
    left : (p : ℕ → Bool) (n : ℕ) → p n ≡ false → filter p (n ∷ []) ≡ []
    left p n e = rw e refl

-- the same under a function: n is added
pub made_pushed : {A : Type 0} (g : ℕ → A) (p : ℕ → Bool) (n : ℕ) (xs ys : List A) → xs ≡ map g (filter p (range_with_len 0 n)) → p n ≡ true → ys ≡ xs ++ g n ∷ [] → ys ≡ map g (filter p (range_with_len 0 (n + 1)))
made_pushed g p n xs ys is passes e =
    e ∙ ap (λ zs. zs ++ g n ∷ []) is ∙ sym (map-append g (filter p (range_with_len 0 n)) (n ∷ []))
    ∙ ap (map g) (kept_pushed p n (filter p (range_with_len 0 n)) (filter p (range_with_len 0 n) ++ n ∷ []) refl passes refl)

-- it is not
pub made_passed : {A : Type 0} (g : ℕ → A) (p : ℕ → Bool) (n : ℕ) (xs : List A) → xs ≡ map g (filter p (range_with_len 0 n)) → p n ≡ false → xs ≡ map g (filter p (range_with_len 0 (n + 1)))
made_passed g p n xs is fails = is ∙ ap (map g) (kept_passed p n (filter p (range_with_len 0 n)) refl fails)
