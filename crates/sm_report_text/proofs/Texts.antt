-- Texts that grow by a line for each number of a range, or for each call of a list.
use Rattle.std.proofs.Common.{◌≡◌, ◌<◌, ◌+◌, ◌-◌, ◌∙◌, ℕ, suc, List, ◌∷◌, ◌++◌, append_assoc, ap, sym, arith}
use Rattle.std.specs.List.{flat_map, range_with_len}

range_head : (i n : ℕ) → i < n → range_with_len i (n - i) ≡ i ∷ range_with_len (i + 1) (n - (i + 1))
range_head i n h = let e : n - i ≡ suc (n - (i + 1)) = omega arith in ap (range_with_len i) e

-- the text of what is left, once the line of a number was added
pub text_of_next : (f : ℕ → List ℕ) (out next text : List ℕ) (i n : ℕ) → i < n
    → next ≡ out ++ f i
    → out ++ flat_map f (range_with_len i (n - i)) ≡ text
    → next ++ flat_map f (range_with_len (i + 1) (n - (i + 1))) ≡ text
text_of_next f out next text i n h added so_far =
    ap (λ (t : List ℕ). t ++ flat_map f (range_with_len (i + 1) (n - (i + 1)))) added
    ∙ append_assoc out (f i) (flat_map f (range_with_len (i + 1) (n - (i + 1))))
    ∙ sym (ap (λ (ns : List ℕ). out ++ flat_map f ns) (range_head i n h))
    ∙ so_far
