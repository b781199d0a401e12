-- The shards that nobody serves while a server is down.
use Rattle.std.specs.Prelude.{ℕ, ◌==◌, Bool, false, List, [], ◌∷◌, Option, Some, None, codes, length, if◌then◌else◌}
use Rattle.std.specs.List.{flat_map, range_with_len}
use Rattle.json.specs.Token.{Token, string}
use Rattle.sm_placement.specs.Lead.{lead_of}
use Rattle.sm_placement.specs.Place.{Place}
use Rattle.sm_placement.specs.Setup.{Setup}
use Rattle.smpland_lines.specs.Members.{list_member, shard_text}
use Rattle.smpland_state.specs.Messages.{owner_under}

-- this server is the owner
abbrev pub is_owner : Option ℕ → ℕ → Bool
is_owner None v = false
is_owner (Some owner) v = owner == v

-- a server has a shard's data
abbrev pub has_data : Setup → Place → ℕ → ℕ → Bool
has_data setup place v s = is_owner (owner_under (lead_of (length setup.servers) (place.cells s))) v

-- the name of a shard, if the server has its data
abbrev pub unserved_text : Setup → Place → ℕ → ℕ → List Token
unserved_text setup place v s = if has_data setup place v s then string (shard_text setup s) ∷ [] else []

-- the names of all shards whose data the server has: nobody serves them while it is down
abbrev pub unserved_member : Setup → Place → ℕ → List Token
unserved_member setup place v =
    list_member (codes "unserved") (flat_map (unserved_text setup place v) (range_with_len 0 (length setup.shards)))
