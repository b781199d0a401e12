-- The published map in replies: which server is to be asked for each shard.
use Rattle.std.specs.Prelude.{ℕ, ◌+◌, List, ◌++◌, codes, length, option_map}
use Rattle.std.specs.List.{flat_map, range_with_len}
use Rattle.json.specs.Token.{Token}
use Rattle.sm_placement.specs.Setup.{Setup}
use Rattle.sm_placement.specs.declared.entry.Entry.{Entry}
use Rattle.sm_driver.specs.Driver.{DriverModel, base, record_of}
use Rattle.smpland_lines.specs.Members.{list_member, name_member, number_member, object, server_text, shard_text}
use Rattle.smpland_lines.specs.Members.{text_member}

-- the entry of a shard that is recorded, with the base added to its version
abbrev pub recorded_entry : DriverModel → ℕ → Entry
recorded_entry d s = record { server = (record_of d).place.listed s; version = base d + (record_of d).place.version s }

-- an entry: its shard, the server that the map names, or null for none, and its version
abbrev pub map_entry_members : Setup → ℕ → Entry → List Token
map_entry_members setup s entry =
    text_member (codes "shard") (shard_text setup s)
    ++ name_member (codes "to") (option_map (server_text setup) entry.server)
    ++ number_member (codes "version") entry.version

-- the same as an object
abbrev pub entry_text : DriverModel → ℕ → List Token
entry_text d s = object (map_entry_members d.machine.placement.setup s (recorded_entry d s))

-- those of all shards, as a member
abbrev pub map_member : DriverModel → List Token
map_member d = list_member (codes "map") (flat_map (entry_text d) (range_with_len 0 (length d.machine.placement.setup.shards)))
