-- Floors that are not met, one after the other, and the proposal.
use Rattle.std.proofs.Common.{◌≡◌, ◌∙◌, ◌+◌, ◌<◌, ◌++◌, ◌∷◌, [], ℕ, Bool, List, ap, get_or, length, map, sym, take}
use Rattle.std.specs.List.{filter}
use Rattle.std.proofs.lemmas.List.{map-append, take_more}
use Rattle.std.proofs.lemmas.List.Elements.{filter-append}

-- the next of a list, if what a function makes of it passes a test
pub made_more : {A B : Type 0} (p : B → Bool) (f : A → B) (xs : List A) (i : ℕ) (x : A) → i < length xs → x ≡ get_or xs i x →
    filter p (map f (take i xs)) ++ filter p (f x ∷ []) ≡ filter p (map f (take (i + 1) xs))
made_more p f xs i x l is =
    sym (filter-append p (map f (take i xs)) (f x ∷ []))
    ∙ ap (filter p) (sym (map-append f (take i xs) (x ∷ [])))
    ∙ ap (λ ys. filter p (map f ys)) (ap (λ y. take i xs ++ y ∷ []) is ∙ sym (take_more xs i x l))
