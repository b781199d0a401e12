-- The entries of each shard, the newest first, and what a pass has seen of them.
-- `VersionsRise`, `word_at` and `words_for` are internal: you need not read them for the public contracts.
use Rattle.std.specs.Prelude.{◌≡◌, ◌⊎◌, ℕ, zero, suc, ◌+◌, ◌<◌, ◌==◌, List, [], ◌∷◌, if◌then◌else◌, Option, Some, None}
use Rattle.std.specs.Prelude.{IsSomeAnd, All, Contains, map}
use Rattle.sm_placement.specs.declared.entry.Entry.{Entry}
use Rattle.sm_map.specs.Entry.{word_for}

-- the entry of a shard at the opening, alone in a list; none if there is no such shard
abbrev pub opened_at : List Entry → ℕ → List Entry
opened_at [] shard = []
opened_at (entry ∷ entries) zero = entry ∷ []
opened_at (entry ∷ entries) (suc shard) = opened_at entries shard

-- a shard's entries: those that were stored of it, and last that of the opening
abbrev pub entries_of_shard : List Entry → List (ℕ × Entry) → ℕ → List Entry
entries_of_shard opening [] shard = opened_at opening shard
entries_of_shard opening (x ∷ xs) shard = if x.0 == shard then x.1 ∷ entries_of_shard opening xs shard else entries_of_shard opening xs shard

-- the newest entry
abbrev pub newest : List Entry → Option Entry
newest [] = None
newest (entry ∷ entries) = Some entry

-- the entry's version is one more than that of the newest entry
abbrev pub Follows : List Entry → Entry → Type 0
Follows entries entry = IsSomeAnd (newest entries) (λ last. entry.version ≡ last.version + 1)

-- along the list the versions rise by one
abbrev pub VersionsRise : List Entry → Type 0
VersionsRise [] = Unit {0}
VersionsRise (entry ∷ []) = Unit {0}
VersionsRise (entry ∷ last ∷ entries) = (entry.version ≡ last.version + 1) × VersionsRise (last ∷ entries)

-- the entry is this one, or an older one: its version is lower
abbrev pub IsSameOrOlder : Entry → Entry → Type 0
IsSameOrOlder this entry = (entry ≡ this) ⊎ (entry.version < this.version)

-- each entry that was seen of the shard is this one, or an older one
abbrev pub AllSameOrOlder : List (ℕ × Entry) → ℕ → Entry → Type 0
AllSameOrOlder seen shard this = All (λ x. x.0 ≡ shard → IsSameOrOlder this x.1) seen

-- each entry that the shard had when this was stored is this one, or an older one
abbrev pub IsNotBefore : List Entry → List (ℕ × Entry) → ℕ → Entry → Type 0
IsNotBefore opening since shard this = All (IsSameOrOlder this) (entries_of_shard opening since shard)

-- each entry that was seen of a shard is one of the shard's
abbrev pub AllStand : List Entry → List (ℕ × Entry) → List (ℕ × Entry) → Type 0
AllStand opening stores seen = All (λ x. Contains (entries_of_shard opening stores x.0) x.1) seen

-- the word of a shard whose newest entry this is; 0 if there is none
abbrev pub word_at : Option Entry → ℕ
word_at None = 0
word_at (Some entry) = word_for entry

-- the words at the opening: one for each shard, and if there is no shard one that stands for none
abbrev pub words_for : List Entry → List ℕ
words_for [] = 0 ∷ []
words_for (entry ∷ entries) = map word_for (entry ∷ entries)
