-- Texts that are written one after another.
use Rattle.std.proofs.Common.{◌≡◌, ◌∙◌, ◌+◌, ◌<◌, ◌++◌, ◌∷◌, [], ℕ, Bool, List, length, get_or, take, map, sym, ap, arith}
use Rattle.std.specs.Prelude.{if◌then◌else◌}
use Rattle.std.specs.List.{filter, flat_map, range_with_len}
use Rattle.std.proofs.lemmas.List.{flat_map_more, map-id, take_more}
use Rattle.std.proofs.lemmas.List.Elements.{filter-append}
use Rattle.std.proofs.lemmas.List.FromFn.{map-range_with_len_more}

-- the numbers below n + 1 are those below n, and n
pub range_more : (n : ℕ) → range_with_len 0 (n + 1) ≡ range_with_len 0 n ++ n ∷ []
range_more n = sym (map-id (range_with_len 0 (n + 1))) ∙ map-range_with_len_more (λ x. x) 0 n n (omega arith) ∙ ap (λ xs. xs ++ n ∷ []) (map-id (range_with_len 0 n))

-- what is written for the numbers below n, and for n
pub number_written : {A : Type 0} (f : ℕ → List A) (before : List A) (n : ℕ) → (before ++ flat_map f (range_with_len 0 n)) ++ f n ≡ before ++ flat_map f (range_with_len 0 (n + 1))
number_written f before n = flat_map_more f before (range_with_len 0 n) n ∙ ap (λ xs. before ++ flat_map f xs) (sym (range_more n))

-- what is written for the first items, and for the next
pub item_written : {X A : Type 0} (f : X → List A) (before : List A) (xs : List X) (i : ℕ) (x : X) → i < length xs → x ≡ get_or xs i x → (before ++ flat_map f (take i xs)) ++ f x ≡ before ++ flat_map f (take (i + 1) xs)
item_written f before xs i x h is = flat_map_more f before (take i xs) x ∙ ap (λ ys. before ++ flat_map f ys) (ap (λ y. take i xs ++ y ∷ []) is ∙ sym (take_more xs i x h))

-- those that are kept of what is made from the numbers below n, and from n
pub kept_more : {X : Type 0} (g : ℕ → X) (p : X → Bool) (xs ys : List X) (n : ℕ) → ys ≡ xs ++ (if p (g n) then g n ∷ [] else []) → xs ≡ filter p (map g (range_with_len 0 n)) → ys ≡ filter p (map g (range_with_len 0 (n + 1)))
kept_more g p xs ys n e is =
    e ∙ ap (λ zs. zs ++ (if p (g n) then g n ∷ [] else [])) is
    ∙ sym (ap (filter p) (map-range_with_len_more g 0 n n (omega arith)) ∙ filter-append p (map g (range_with_len 0 n)) (g n ∷ []))

-- the list that is made from a function of the numbers below n + 1, by a push
pub pushed_more : {A : Type 0} (f : ℕ → A) (xs ys : List A) (n : ℕ) (y : A) → ys ≡ xs ++ y ∷ [] → y ≡ f n → xs ≡ map f (range_with_len 0 n) → ys ≡ map f (range_with_len 0 (n + 1))
pushed_more f xs ys n y e v is = e ∙ ap (λ z. xs ++ z ∷ []) v ∙ ap (λ zs. zs ++ f n ∷ []) is ∙ sym (map-range_with_len_more f 0 n n (omega arith))
