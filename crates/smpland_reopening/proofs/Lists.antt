-- Lists over the numbers from 0 on, and tests of lists.
use Rattle.std.proofs.Common.{◌≡◌, ◌∙◌, ◌+◌, ◌||◌, refl, ℕ, List, [], ◌∷◌, ◌++◌, Bor, map, sym, ap, arith}
use Rattle.std.specs.List.{list_any, range_with_len}
use Rattle.std.proofs.lemmas.List.FromFn.{map-range_with_len_more}
use Rattle.std.specs.Str.{bytes_eq}

-- after a push, a list that is made from a function of the numbers
pub pushed_more : {A : Type 0} (f : ℕ → A) (xs ys : List A) (n : ℕ) (y : A) → ys ≡ xs ++ y ∷ [] → y ≡ f n → xs ≡ map f (range_with_len 0 n) → ys ≡ map f (range_with_len 0 (n + 1))
pushed_more f xs ys n y e v is = e ∙ ap (λ z. xs ++ z ∷ []) v ∙ ap (λ zs. zs ++ f n ∷ []) is ∙ sym (map-range_with_len_more f 0 n n (omega arith))

-- whether one of texts is this one
pub among_texts : (name : List ℕ) (names : List (Bor (List ℕ))) → list_any (λ n. bytes_eq n.now name) names ≡ list_any (λ n. bytes_eq n name) (map (λ n. n.now) names)
among_texts name [] = refl
among_texts name (n ∷ names) = ap (λ b. bytes_eq n.now name || b) (among_texts name names)
