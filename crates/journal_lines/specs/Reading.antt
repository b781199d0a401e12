-- How far a journal was read, line by line.
use Rattle.std.specs.Prelude.{◌≡◌, ◌⊎◌, ℕ, true, false, List, [], ◌∷◌, ◌++◌, length, map, All}
use Rattle.journal_lines.specs.declared.reading.Reading.{Reading}
use Rattle.journal_lines.specs.Objects.{listed, IsBatch}
use Rattle.journal_lines.specs.Lines.{no_sum}
use Rattle.journal_lines.specs.Journal.{chain, last_sum, HasNoRight}

-- The text behind the head, which ends with a line, was read: it has the lines of these batches, and then lines that
-- are all wrong.
pub record Reads (reading : Reading) (text : List ℕ) (batches : List (List (List ℕ))) : Type 0 where
  pub bad : List ℕ
  pub each : All IsBatch batches
  pub is : text ≡ chain no_sum (map listed batches) ++ bad
  pub ended : (bad ≡ []) ⊎ ((front : List ℕ) × (bad ≡ front ++ 10 ∷ []))
  pub torn : HasNoRight bad
  pub whole : reading.torn ≡ false → bad ≡ []
  pub parted : reading.torn ≡ true → bad ≡ [] → ⊥
  pub sum : reading.sum.text ≡ last_sum no_sum (map listed batches)
  pub end : reading.end ≡ length (chain no_sum (map listed batches))
  pub count : reading.batches ≡ length batches
