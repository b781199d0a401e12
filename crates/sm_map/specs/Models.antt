-- The views that contracts have of the words, of the publisher and of a pass.
use Rattle.std.specs.Prelude.{◌≡◌, ◌++◌, ℕ, List}
use Rattle.atomic_table.specs.Seated.{TableId}
use Rattle.sm_placement.specs.declared.entry.Entry.{Entry}
use Rattle.sm_map.specs.History.{AllStand, entries_of_shard}

-- which words: their table, how many servers there are, and each shard's entry at the opening
pub record WordsModel : Type 0 where
  pub table : TableId
  pub servers : ℕ
  pub opening : List Entry

-- the words of this table, opened with these entries
abbrev pub words_model : TableId → ℕ → List Entry → WordsModel
words_model table servers opening = record { table = table; servers = servers; opening = opening }

-- the publisher: its words, and what it has stored, the newest first
pub record PublisherModel : Type 0 where
  pub words : WordsModel
  pub stores : List (ℕ × Entry)

-- a pass: its words, what the publisher had stored since the opening when the pass was made or when the two last met,
-- and what the pass has seen, the last first
pub record PassModel : Type 0 where
  pub words : WordsModel
  pub since : List (ℕ × Entry)
  pub seen : List (ℕ × Entry)

-- the publisher's list of a shard: its entries, the newest first
abbrev pub history : PublisherModel → ℕ → List Entry
history publisher shard = entries_of_shard publisher.words.opening publisher.stores shard

-- what the publisher had stored when the pass was made, or when the two last met, is the earlier part of what it has
-- stored
abbrev pub IsSince : PublisherModel → PassModel → Type 0
IsSince publisher pass = (later : List (ℕ × Entry)) × (publisher.stores ≡ later ++ pass.since)

-- each entry that the pass has seen stands in the publisher's list of its shard
abbrev pub HasAllSeen : PublisherModel → PassModel → Type 0
HasAllSeen publisher pass = AllStand publisher.words.opening publisher.stores pass.seen
