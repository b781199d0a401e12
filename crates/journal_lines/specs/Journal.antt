-- A journal, and what a content recovers to: a crash may leave an end behind the lines that stand whole.
use Rattle.std.specs.Prelude.{◌≡◌, ◌≤◌, ◌<◌, ◌⊎◌, ℕ, ◌+◌, List, [], ◌∷◌, ◌++◌, length, take, map, All, Any, Some}
use Rattle.std.specs.Prelude.{slice_get}
use Rattle.std.specs.List.{flat_map}
use Rattle.journal_lines.specs.Objects.{listed, IsBatch}
use Rattle.journal_lines.specs.Lines.{head, journal_line, sum_of, no_sum, IsBody, IsRight, whole_lines}

-- a line for each of these bodies, each with the sum of the line before it
abbrev pub chain : List ℕ → List (List ℕ) → List ℕ
chain after [] = []
chain after (body ∷ bodies) = journal_line after body ++ 10 ∷ chain (sum_of after body) bodies

-- the sum of the last of these lines
abbrev pub last_sum : List ℕ → List (List ℕ) → List ℕ
last_sum after [] = after
last_sum after (body ∷ bodies) = last_sum (sum_of after body) bodies

-- the journal of these batches
abbrev pub journal_of : List (List (List ℕ)) → List ℕ
journal_of batches = head ++ chain no_sum (map listed batches)

-- no whole line of the text is right by itself
abbrev pub HasNoRight : List ℕ → Type 0
HasNoRight text = All (λ line. IsRight line → ⊥) (whole_lines text)

-- some whole line of the text is right by itself
abbrev pub HasRight : List ℕ → Type 0
HasRight text = Any IsRight (whole_lines text)

-- the content is the journal of these batches, and an end in which no whole line is right
pub record HasBatches (content : List ℕ) (batches : List (List (List ℕ))) : Type 0 where
  pub end : List ℕ
  pub each : All IsBatch batches
  pub is : content ≡ journal_of batches ++ end
  pub torn : HasNoRight end

-- The entries that a content recovers to. A content that is no longer than the head is a journal that was not yet
-- begun.
abbrev pub RecoversTo : List ℕ → List (List ℕ) → Type 0
RecoversTo content entries =
    ((length content ≤ length head) × (entries ≡ []))
    ⊎ ((batches : List (List (List ℕ))) × HasBatches content batches × (entries ≡ flat_map (λ batch. batch) batches))

-- the content does not begin with the head, and is longer: it is no journal
pub record IsForeign (content : List ℕ) : Type 0 where
  pub longer : length head < length content
  pub other : take (length head) content ≡ head → ⊥

-- The line of this number does not go on from those before it, and it or one behind it is right by itself.
pub record IsDamaged (content : List ℕ) (number : ℕ) : Type 0 where
  pub batches : List (List (List ℕ))
  pub rest : List ℕ
  pub each : All IsBatch batches
  pub is : content ≡ journal_of batches ++ rest
  pub at : number ≡ length batches + 2
  pub parted : (body more : List ℕ) → IsBody body
      → rest ≡ journal_line (last_sum no_sum (map listed batches)) body ++ 10 ∷ more → ⊥
  pub behind : HasRight rest

-- Each whole line of the content that is right by itself is the line of that number in the text: no line was forged,
-- and none stands elsewhere.
abbrev pub HasNoForged : List ℕ → List ℕ → Type 0
HasNoForged text content = (k : ℕ) (line : List ℕ) → slice_get (whole_lines content) k ≡ Some line → IsRight line
    → slice_get (whole_lines text) k ≡ Some line
