-- How the words of the published map stand to the machine behind the lock.
-- `IsPublished`, `IsQuiet`, `Publishes` and `IsBehind` are internal: you need not read them for the public contracts.
use Rattle.std.specs.Prelude.{List, ◌≡◌, ◌⊎◌, ◌++◌, ◌∷◌, ◌<◌, ℕ, suc, Some, length, slice_get}
use Rattle.sm_placement.specs.Sums.{put}
use Rattle.sm_placement.specs.Place.{entry_at}
use Rattle.sm_map.specs.Entry.{IsInRange}
use Rattle.sm_placement.specs.declared.entry.Entry.{Entry}
use Rattle.sm_map.specs.History.{AllStand, newest}
use Rattle.sm_map.specs.Models.{WordsModel, PublisherModel, history}
use Rattle.sm_protocol.specs.State.{State}

-- The words were opened with the map of this state: an entry for each shard.
pub record IsMapOf (words : WordsModel) (opened : State) : Type 0 where
  pub servers : words.servers ≡ opened.sizes.servers
  pub shards : length words.opening ≡ opened.sizes.shards
  pub entries : (s : ℕ) → s < opened.sizes.shards → slice_get words.opening s ≡ Some (entry_at opened.place s)

-- The publisher has stored just the entries that the machine's publications added since the board was opened, and each
-- shard's newest entry is the machine's.
pub record IsPublished (words : WordsModel) (opened now : State) (publisher : PublisherModel) : Type 0 where
  pub words_are : publisher.words ≡ words
  pub shards : length words.opening ≡ now.sizes.shards
  pub servers : words.servers ≡ now.sizes.servers
  pub stores : now.entries ≡ publisher.stores ++ opened.entries
  pub newest_is : (s : ℕ) → s < now.sizes.shards → newest (history publisher s) ≡ Some (entry_at now.place s)

-- the event published nothing
pub record IsQuiet (old new : State) : Type 0 where
  pub sizes : new.sizes ≡ old.sizes
  pub entries : new.entries ≡ old.entries
  pub listed : new.place.listed ≡ old.place.listed
  pub version : new.place.version ≡ old.place.version

-- the event published an entry of the shard
pub record Publishes (old new : State) (shard : ℕ) : Type 0 where
  pub sizes : new.sizes ≡ old.sizes
  pub known : shard < old.sizes.shards
  pub entries : new.entries ≡ (shard, entry_at new.place shard) ∷ old.entries
  pub listed : new.place.listed ≡ put old.place.listed shard (new.place.listed shard)
  pub version : new.place.version ≡ put old.place.version shard (suc (old.place.version shard))

-- The words were tied to the machine, which has made one event since: what that has published, if anything, isn't
-- stored yet.
pub record IsBehind (words : WordsModel) (opened now : State) (publisher : PublisherModel) : Type 0 where
  pub before : State
  pub tied : IsPublished words opened before publisher
  pub in_range : (s : ℕ) → s < now.sizes.shards → IsInRange now.sizes.servers (entry_at now.place s)
  pub event : IsQuiet before now ⊎ ((shard : ℕ) × Publishes before now shard)

-- Each entry that was seen is one with which the words were opened, or one that the machine has published since.
pub record HasStood (words : WordsModel) (opened now : State) (seen : List (ℕ × Entry)) : Type 0 where
  pub since : List (ℕ × Entry)
  pub published : now.entries ≡ since ++ opened.entries
  pub stand : AllStand words.opening since seen
