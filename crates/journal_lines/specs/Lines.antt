-- The lines of a journal: each has the commands of one append, the sum of the line before it, and its own.
use Rattle.std.specs.Prelude.{◌≡◌, ℕ, List, [], ◌∷◌, ◌++◌, length, replicate, codes, if◌then◌else◌, ◌==◌}
use Rattle.hex.specs.Hex.{encode_lower}
use Rattle.sha2.specs.Sha256.{sha256}
use Rattle.journal_lines.specs.Objects.{listed, IsBatch}

-- the first line of a journal, with its line feed
unfoldable pub head : List ℕ
head = codes "{\"journal\":\"smpland\",\"format\":2}\n"

-- the part of a line that its sum is of
unfoldable pub summed : List ℕ → List ℕ → List ℕ
summed after body = codes "{\"entries\":[" ++ body ++ codes "],\"after\":\"" ++ after ++ codes "\""

-- the SHA-256 of that part, in hex
unfoldable pub sum_of : List ℕ → List ℕ → List ℕ
sum_of after body = encode_lower (sha256 (summed after body))

-- the line of these entries behind the line whose sum is `after`
unfoldable pub journal_line : List ℕ → List ℕ → List ℕ
journal_line after body = summed after body ++ codes ",\"sum\":\"" ++ sum_of after body ++ codes "\"}"

-- what the first line of entries has for the sum of the line before it
abbrev pub no_sum : List ℕ
no_sum = replicate 64 48

-- the entries of a line
abbrev pub IsBody : List ℕ → Type 0
IsBody body = (commands : List (List ℕ)) × IsBatch commands × (body ≡ listed commands)

-- a line that is right by itself, behind whatever line
pub record IsRight (line : List ℕ) : Type 0 where
  pub after : List ℕ
  pub body : List ℕ
  pub size : length after ≡ 64
  pub batch : IsBody body
  pub is : line ≡ journal_line after body

-- one byte more before the first of these lines, if there is one
abbrev onto_first : ℕ → List (List ℕ) → List (List ℕ)
onto_first b [] = []
onto_first b (line ∷ lines) = (b ∷ line) ∷ lines

-- the lines of a text that a line feed ends
abbrev pub whole_lines : List ℕ → List (List ℕ)
whole_lines [] = []
whole_lines (b ∷ rest) = if b == 10 then [] ∷ whole_lines rest else onto_first b (whole_lines rest)
