-- Entries of the map, and the words that stand for them.
use Rattle.std.specs.Prelude.{ℕ, zero, suc, ◌+◌, ◌*◌, ◌/◌, ◌%◌, ◌<◌, Option, Some, None}
use Rattle.sm_placement.specs.declared.entry.Entry.{Entry}
use Rattle.sm_placement.specs.declared.limits.TheConstants.{VERSIONS_END}
use Rattle.sm_map.specs.declared.entry.TheConstants.{VERSION_UNIT}

-- the part of a word that tells the server: one above its number, or 0 for none
abbrev pub server_part : Option ℕ → ℕ
server_part None = 0
server_part (Some server) = server + 1

-- the word that stands for an entry
abbrev pub word_for : Entry → ℕ
word_for entry = entry.version * VERSION_UNIT + server_part entry.server

-- the server that such a part tells
abbrev pub server_of_part : ℕ → Option ℕ
server_of_part zero = None
server_of_part (suc server) = Some server

-- the entry that a word stands for
abbrev pub entry_for : ℕ → Entry
entry_for word = record { server = server_of_part (word % VERSION_UNIT); version = word / VERSION_UNIT }

-- a server that is listed is below this count
abbrev pub IsKnownServer : ℕ → Option ℕ → Type 0
IsKnownServer count None = Unit {0}
IsKnownServer count (Some server) = server < count

-- the entry's server is below this count, and its version below 2^47
abbrev pub IsInRange : ℕ → Entry → Type 0
IsInRange count entry = IsKnownServer count entry.server × (entry.version < VERSIONS_END)
