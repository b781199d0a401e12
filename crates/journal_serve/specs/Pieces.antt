-- A text that comes in pieces, line by line. `IsOneLine`, `EndsLine`, `with_feed` and `Splits` are internal: you need
-- not read them for the public contracts.
use Rattle.std.specs.Prelude.{◌≡◌, ◌≤◌, ℕ, ◌+◌, List, [], ◌∷◌, ◌++◌, length, drop, All, if◌then◌else◌, ◌==◌}
use Rattle.std.specs.List.{flat_map}

-- no byte of the text is a line feed
abbrev pub IsOneLine : List ℕ → Type 0
IsOneLine text = All (λ b. b ≡ 10 → ⊥) text

-- a piece begins with the end of a line, this part and a line feed: `used` bytes together
pub record EndsLine (piece part : List ℕ) (used : ℕ) : Type 0 where
  pub one_line : IsOneLine part
  pub is : piece ≡ part ++ 10 ∷ drop used piece
  pub all : used ≡ length part + 1
  pub within : used ≤ length piece

-- a line with its line feed
abbrev pub with_feed : List ℕ → List ℕ
with_feed line = line ++ 10 ∷ []

-- the text is these lines, each with its line feed, and then a line that is still open
pub record Splits (text : List ℕ) (lines : List (List ℕ)) (open_line : List ℕ) : Type 0 where
  pub each : All IsOneLine lines
  pub is : text ≡ flat_map with_feed lines ++ open_line
  pub one_line : IsOneLine open_line

-- one byte more before the first of these lines, which is made if there is none
abbrev onto_first : ℕ → List (List ℕ) → List (List ℕ)
onto_first b [] = (b ∷ []) ∷ []
onto_first b (line ∷ lines) = (b ∷ line) ∷ lines

-- The lines of a text. The last one is a line also if no line feed ends it.
abbrev pub lines_of : List ℕ → List (List ℕ)
lines_of [] = []
lines_of (b ∷ rest) = if b == 10 then [] ∷ lines_of rest else onto_first b (lines_of rest)
