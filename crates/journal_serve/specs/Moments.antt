-- A crash at any moment of a call, and what it leaves.
use Rattle.std.specs.Prelude.{◌≤◌, ◌⊎◌, ℕ, List, [], ◌∷◌, ◌++◌}
use Rattle.journal_lines.specs.Journal.{journal_of, HasBatches, HasNoForged}

-- what a crash leaves at any moment of a call, from the moment before it on, has P
abbrev pub EachLeft : {D : Type 0} → (D → ℕ) → (D → ℕ → List ℕ → Type 0) → D → D → (List ℕ → Type 0) → Type 0
EachLeft {D} moment left_at old new P =
    (n : ℕ) (content : List ℕ) → moment old ≤ n → n ≤ moment new → left_at new n content → P content

-- if no line of the content is forged, it recovers to these batches, with one more or without it
abbrev pub RecoversToOneOf : List (List (List ℕ)) → List (List ℕ) → List ℕ → Type 0
RecoversToOneOf batches commands content =
    HasNoForged (journal_of (batches ++ commands ∷ [])) content
    → HasBatches content batches ⊎ HasBatches content (batches ++ commands ∷ [])

-- the batches with these commands as one more, if there are any
abbrev pub grown : List (List (List ℕ)) → List (List ℕ) → List (List (List ℕ))
grown batches [] = batches
grown batches (command ∷ commands) = batches ++ (command ∷ commands) ∷ []

-- if no line of the content is forged, it recovers to these batches, or to them with what they grew by
abbrev pub RecoversToGrown : List (List (List ℕ)) → List (List ℕ) → List ℕ → Type 0
RecoversToGrown batches commands content =
    HasNoForged (journal_of (grown batches commands)) content
    → HasBatches content batches ⊎ HasBatches content (grown batches commands)
