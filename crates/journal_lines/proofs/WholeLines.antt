-- The lines of texts that stand one behind the other.
use Rattle.std.proofs.Common.{◌≡◌, ℕ, Bool, true, false, if◌then◌else◌, ◌==◌, List, [], ◌∷◌, ◌++◌, refl, sym, ◌∙◌, ap}
use Rattle.std.proofs.lemmas.Bool.{ne_eqb}
use Rattle.std.proofs.lemmas.List.Elements.{All-head, All-tail}
use Rattle.journal_lines.specs.Lines.{whole_lines}
use Rattle.journal_lines.proofs.LineTexts.{HasNoFeed}

abbrev NoFeed : ℕ → Type 0
NoFeed b = b ≡ 10 → ⊥

-- one byte more before the first of these lines, if there is one
abbrev pub onto : ℕ → List (List ℕ) → List (List ℕ)
onto b [] = []
onto b (line ∷ lines) = (b ∷ line) ∷ lines

onto_is : (feed : Bool) (b : ℕ) (lines : List (List ℕ)) → feed ≡ false → (if feed then [] ∷ lines else onto b lines) ≡ onto b lines
onto_is feed b lines is = rw is refl

-- what a line feed ends is a line
pub whole_lines_line : (line rest : List ℕ) → HasNoFeed line → whole_lines (line ++ 10 ∷ rest) ≡ line ∷ whole_lines rest
whole_lines_line [] rest has = refl
whole_lines_line (b ∷ line) rest has =
    onto_is (b == 10) b (whole_lines (line ++ 10 ∷ rest)) (ne_eqb b 10 (All-head NoFeed b line has)) ∙ ap (onto b) (whole_lines_line line rest (All-tail NoFeed b line has))

-- a text without a line feed has no whole line
pub whole_lines_open : (text : List ℕ) → HasNoFeed text → whole_lines text ≡ []
whole_lines_open [] has = refl
whole_lines_open (b ∷ text) has = onto_is (b == 10) b (whole_lines text) (ne_eqb b 10 (All-head NoFeed b text has)) ∙ ap (onto b) (whole_lines_open text (All-tail NoFeed b text has))

-- The lines of a front are lines of the whole.
pub whole_lines_front : (a b : List ℕ) → (more : List (List ℕ)) × (whole_lines (a ++ b) ≡ whole_lines a ++ more)
whole_lines_front [] b = (whole_lines b, refl)
whole_lines_front (x ∷ a) b = let rest = whole_lines_front a b in stepped (x == 10) (whole_lines a) (whole_lines (a ++ b)) rest.0 rest.1
  where
    stepped : (feed : Bool) (lines all more : List (List ℕ)) → all ≡ lines ++ more
        → (others : List (List ℕ)) × ((if feed then [] ∷ all else onto x all) ≡ (if feed then [] ∷ lines else onto x lines) ++ others)
    stepped true lines all more is = (more, ap (λ (l : List (List ℕ)). [] ∷ l) is)
    stepped false [] all more is = (onto x all, refl)
    stepped false (line ∷ lines) all more is = (more, ap (onto x) is)

-- a text that a line feed ends has a line
pub ended_has_line : (a : List ℕ) → (line : List ℕ) × (lines : List (List ℕ)) × (whole_lines (a ++ 10 ∷ []) ≡ line ∷ lines)
ended_has_line [] = ([], [], refl)
ended_has_line (x ∷ a) = let rest = ended_has_line a in chosen (x == 10) x (whole_lines (a ++ 10 ∷ [])) rest.0 rest.1 rest.2
  where
    chosen : (feed : Bool) (x : ℕ) (all : List (List ℕ)) (l : List ℕ) (ls : List (List ℕ)) → all ≡ l ∷ ls → (line : List ℕ) × (lines : List (List ℕ)) × ((if feed then [] ∷ all else onto x all) ≡ line ∷ lines)
    chosen true x all l ls is = ([], all, refl)
    chosen false x all l ls is = (x ∷ l, ls, ap (onto x) is)

-- where a line feed ends a text, its lines stand before those of what is behind it
pub whole_lines_ended : (a b : List ℕ) → whole_lines (a ++ 10 ∷ b) ≡ whole_lines (a ++ 10 ∷ []) ++ whole_lines b
whole_lines_ended [] b = refl
whole_lines_ended (x ∷ a) b = stepped (x == 10) (whole_lines (a ++ 10 ∷ [])) (whole_lines (a ++ 10 ∷ b)) (ended_has_line a) (whole_lines_ended a b)
  where
    stepped : (feed : Bool) (lines all : List (List ℕ)) → (l : List ℕ) × (ls : List (List ℕ)) × (lines ≡ l ∷ ls) → all ≡ lines ++ whole_lines b
        → (if feed then [] ∷ all else onto x all) ≡ (if feed then [] ∷ lines else onto x lines) ++ whole_lines b
    stepped true lines all (l, ls, one) is = ap (λ (m : List (List ℕ)). [] ∷ m) is
    stepped false lines all (l, ls, one) is = ap (onto x) (is ∙ ap (λ (m : List (List ℕ)). m ++ whole_lines b) one) ∙ sym (ap (λ (m : List (List ℕ)). onto x m ++ whole_lines b) one)

-- two lines, each with what stands behind it, are one where the texts are
pub lines_once : (a b xs ys : List ℕ) → HasNoFeed a → HasNoFeed b → a ++ 10 ∷ xs ≡ b ++ 10 ∷ ys → (a ≡ b) × (xs ≡ ys)
lines_once [] [] xs ys one other is = (refl, rest xs ys is)
  where
    rest : (xs ys : List ℕ) → 10 ∷ xs ≡ 10 ∷ ys → xs ≡ ys
    rest xs ys is = cc
lines_once [] (y ∷ b) xs ys one other is = absurd (All-head NoFeed y b other (sym (first 10 y xs (b ++ 10 ∷ ys) is)))
  where
    first : (x y : ℕ) (xs ys : List ℕ) → x ∷ xs ≡ y ∷ ys → x ≡ y
    first x y xs ys is = cc
lines_once (x ∷ a) [] xs ys one other is = absurd (All-head NoFeed x a one (first x 10 (a ++ 10 ∷ xs) ys is))
  where
    first : (x y : ℕ) (xs ys : List ℕ) → x ∷ xs ≡ y ∷ ys → x ≡ y
    first x y xs ys is = cc
lines_once (x ∷ a) (y ∷ b) xs ys one other is =
    let parts = lines_once a b xs ys (All-tail NoFeed x a one) (All-tail NoFeed y b other) (behind x y (a ++ 10 ∷ xs) (b ++ 10 ∷ ys) is) in
    (joined x y a b (first x y (a ++ 10 ∷ xs) (b ++ 10 ∷ ys) is) parts.0, parts.1)
  where
    first : (x y : ℕ) (xs ys : List ℕ) → x ∷ xs ≡ y ∷ ys → x ≡ y
    first x y xs ys is = cc

    behind : (x y : ℕ) (xs ys : List ℕ) → x ∷ xs ≡ y ∷ ys → xs ≡ ys
    behind x y xs ys is = cc

    joined : (x y : ℕ) (xs ys : List ℕ) → x ≡ y → xs ≡ ys → x ∷ xs ≡ y ∷ ys
    joined x y xs ys one rest = cc
