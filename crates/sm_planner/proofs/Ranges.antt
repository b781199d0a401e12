-- Lists over the numbers from 0 on, one number further.
use Rattle.std.proofs.Common.{◌≡◌, ◌+◌, ◌∙◌, ℕ, suc, Bool, true, false, List, [], ◌∷◌, ◌++◌, replicate, sym, ap, refl, arith, map, filter, append_assoc}
use Rattle.std.specs.List.{range_with_len, flat_map}
use Rattle.std.proofs.lemmas.List.{map-id, append-nil, map-append, length-replicate, get_or-replicate}
use Rattle.std.proofs.lemmas.List.Concat.{flat_map-append}
use Rattle.std.proofs.lemmas.List.Elements.{filter-append}
use Rattle.std.proofs.lemmas.List.FromFn.{map-range_with_len_more, fill_by_all}

-- the numbers below n + 1 are those below n, and n
pub range_more : (n : ℕ) → range_with_len 0 (n + 1) ≡ range_with_len 0 n ++ n ∷ []
range_more n = sym (map-id (range_with_len 0 (n + 1))) ∙ map-range_with_len_more (λ x. x) 0 n n (omega arith) ∙ ap (λ xs. xs ++ n ∷ []) (map-id (range_with_len 0 n))

-- where their count is told as the next number
pub range_suc : (n : ℕ) → range_with_len 0 (suc n) ≡ range_with_len 0 n ++ n ∷ []
range_suc n = let e : suc n ≡ n + 1 = omega arith in ap (range_with_len 0) e ∙ range_more n

pub mapped_more : {A : Type 0} (g : ℕ → A) (n : ℕ) → map g (range_with_len 0 (n + 1)) ≡ map g (range_with_len 0 n) ++ g n ∷ []
mapped_more g n = map-range_with_len_more g 0 n n (omega arith)

-- numbers that pass
pub passed_more : (t : ℕ → Bool) (n : ℕ) → t n ≡ true → filter t (range_with_len 0 (n + 1)) ≡ filter t (range_with_len 0 n) ++ n ∷ []
passed_more t n e = ap (filter t) (range_more n) ∙ filter-append t (range_with_len 0 n) (n ∷ []) ∙ rw e refl

pub passed_same : (t : ℕ → Bool) (n : ℕ) → t n ≡ false → filter t (range_with_len 0 (n + 1)) ≡ filter t (range_with_len 0 n)
passed_same t n e = ap (filter t) (range_more n) ∙ filter-append t (range_with_len 0 n) (n ∷ []) ∙ rw e (append-nil (filter t (range_with_len 0 n)))

-- what stands behind a list: one more of the numbers that pass
pub behind_more : {A : Type 0} (before : List A) (g : ℕ → A) (t : ℕ → Bool) (n : ℕ) → t n ≡ true →
    (before ++ map g (filter t (range_with_len 0 n))) ++ g n ∷ [] ≡ before ++ map g (filter t (range_with_len 0 (n + 1)))
behind_more before g t n e =
    append_assoc before (map g (filter t (range_with_len 0 n))) (g n ∷ [])
    ∙ ap (λ xs. before ++ xs) (sym (map-append g (filter t (range_with_len 0 n)) (n ∷ [])) ∙ ap (map g) (sym (passed_more t n e)))

pub behind_same : {A : Type 0} (before : List A) (g : ℕ → A) (t : ℕ → Bool) (n : ℕ) → t n ≡ false →
    before ++ map g (filter t (range_with_len 0 n)) ≡ before ++ map g (filter t (range_with_len 0 (n + 1)))
behind_same before g t n e = ap (λ xs. before ++ map g xs) (sym (passed_same t n e))

-- a list that is made from a function of the place, after a push
pub pushed_more : {A : Type 0} (f : ℕ → A) (xs ys : List A) (n : ℕ) (y : A) → ys ≡ xs ++ y ∷ [] → y ≡ f n → xs ≡ map f (range_with_len 0 n) → ys ≡ map f (range_with_len 0 (n + 1))
pushed_more f xs ys n y e v is = e ∙ ap (λ z. xs ++ z ∷ []) v ∙ ap (λ zs. zs ++ f n ∷ []) is ∙ sym (mapped_more f n)

-- x, n times over, is x for each number below n
pub replicate_is : (n x : ℕ) → replicate n x ≡ map (λ v. x) (range_with_len 0 n)
replicate_is n x = fill_by_all (λ v. x) (replicate n x) n x (length-replicate n x) (λ k l. get_or-replicate n k x x l)

-- lists of each number put end to end, after one more
pub range_joined : {A : Type 0} (f : ℕ → List A) (xs ys : List A) (n : ℕ) → ys ≡ xs ++ f n → xs ≡ flat_map f (range_with_len 0 n) → ys ≡ flat_map f (range_with_len 0 (n + 1))
range_joined f xs ys n e is =
    e ∙ ap (λ zs. zs ++ f n) is
    ∙ ap (λ zs. flat_map f (range_with_len 0 n) ++ zs) (sym (append-nil (f n)))
    ∙ sym (flat_map-append f (range_with_len 0 n) (n ∷ []))
    ∙ ap (flat_map f) (sym (range_more n))

-- behind another list, a number that passes comes to the end of those that pass
pub behind_push : {A : Type 0} (before xs ys : List A) (g : ℕ → A) (t : ℕ → Bool) (n : ℕ) → ys ≡ xs ++ g n ∷ [] → t n ≡ true →
    xs ≡ before ++ map g (filter t (range_with_len 0 n)) → ys ≡ before ++ map g (filter t (range_with_len 0 (n + 1)))
behind_push before xs ys g t n e passes is = e ∙ ap (λ zs. zs ++ g n ∷ []) is ∙ behind_more before g t n passes

-- behind another list, those that pass stay the same where the next number doesn't
pub behind_kept : {A : Type 0} (before xs : List A) (g : ℕ → A) (t : ℕ → Bool) (n : ℕ) → t n ≡ false →
    xs ≡ before ++ map g (filter t (range_with_len 0 n)) → xs ≡ before ++ map g (filter t (range_with_len 0 (n + 1)))
behind_kept before xs g t n fails is = is ∙ behind_same before g t n fails

-- a number that passes comes to the end of those that pass
pub passed_push : (xs ys : List ℕ) (t : ℕ → Bool) (n : ℕ) → ys ≡ xs ++ n ∷ [] → t n ≡ true → xs ≡ filter t (range_with_len 0 n) → ys ≡ filter t (range_with_len 0 (n + 1))
passed_push xs ys t n e passes is = e ∙ ap (λ zs. zs ++ n ∷ []) is ∙ sym (passed_more t n passes)

-- a number that doesn't pass leaves those that pass as they are
pub passed_kept : (xs : List ℕ) (t : ℕ → Bool) (n : ℕ) → t n ≡ false → xs ≡ filter t (range_with_len 0 n) → xs ≡ filter t (range_with_len 0 (n + 1))
passed_kept xs t n fails is = is ∙ sym (passed_same t n fails)
