-- The numbers of names: those of a list keep theirs, and new ones follow.
use Rattle.std.specs.Prelude.{◌≡◌, ◌++◌, ℕ, Bool, List, Some, is_none, length, map, slice_get, slice_index_or}
use Rattle.std.specs.List.{filter}
use Rattle.std.specs.Option.{option_map_or}
use Rattle.sm_placement.specs.Setup.{ServerRow, Setup, ShardRow, no_shard, server_named, shard_named, sizes_of}

-- the names of the first list stand at the same numbers in the second
abbrev pub KeepsNames : List (List ℕ) → List (List ℕ) → Type 0
KeepsNames old new = (k : ℕ) (name : List ℕ) → slice_get old k ≡ Some name → slice_get new k ≡ Some name

-- The first n of some names have numbers, under which they stand among all names.
pub record AreNumberedBelow (n : ℕ) (names : List (List ℕ)) (numbers : List ℕ) (some : List (List ℕ)) : Type 0 where
  pub count : length numbers ≡ n
  pub named : (k number : ℕ) → slice_get numbers k ≡ Some number → slice_get names number ≡ slice_get some k

-- Each of some names has a number, under which it stands among all names.
abbrev pub AreNumbered : List (List ℕ) → List ℕ → List (List ℕ) → Type 0
AreNumbered names numbers some = AreNumberedBelow (length some) names numbers some

-- ---- what has a number under a document

-- a server that had a number, as the document has it: without room if the document leaves it out
abbrev pub server_as_documented : Setup → ServerRow → ServerRow
server_as_documented document row = record row { room = option_map_or (sizes_of document).room (server_named document row.name) 0 }

-- a shard that had one: without replicas if the document leaves it out
abbrev pub shard_as_documented : Setup → ShardRow → ShardRow
shard_as_documented document row =
    option_map_or (λ s. record (slice_index_or document.shards s no_shard) { name = row.name }) (shard_named document row.name)
    (record row { want = 0; cap = 0; spread = 0 })

-- the server is new: its name has no number yet
abbrev pub is_new_server : Setup → ServerRow → Bool
is_new_server numbered row = is_none (server_named numbered row.name)

-- so it is with a shard
abbrev pub is_new_shard : Setup → ShardRow → Bool
is_new_shard numbered row = is_none (shard_named numbered row.name)

-- All servers and shards that have numbers under a document: what had numbers, in their order, and behind it what is
-- new in the document, in its order.
abbrev pub numbered_under : Setup → Setup → Setup
numbered_under numbered document = record {
  servers = map (server_as_documented document) numbered.servers ++ filter (is_new_server numbered) document.servers;
  shards = map (shard_as_documented document) numbered.shards ++ filter (is_new_shard numbered) document.shards;
}
