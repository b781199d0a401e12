-- Names of servers, shards and regions.
use Rattle.std.specs.Prelude.{ℕ, Bool, false, ◌&&◌, ◌||◌, ◌==◌, nat_le, List, [], ◌∷◌, length}
use Rattle.std.specs.List.{list_any, list_all}
use Rattle.std.specs.Char.{is_ascii_alphanumeric}
use Rattle.std.specs.Str.{bytes_eq}
use Rattle.sm_placement.specs.declared.limits.TheConstants.{MOST_NAME_BYTES}

-- a letter or digit of ASCII, '-', '.' or '_'
abbrev pub is_name_byte : ℕ → Bool
is_name_byte b = is_ascii_alphanumeric b || ((b == 45) || ((b == 46) || (b == 95)))

-- 1 to 32 bytes, each allowed in names
abbrev pub is_name : List ℕ → Bool
is_name bytes = (nat_le 1 (length bytes) && nat_le (length bytes) MOST_NAME_BYTES) && list_all is_name_byte bytes

-- a name stands twice in the list
abbrev pub has_double : List (List ℕ) → Bool
has_double [] = false
has_double (name ∷ names) = list_any (bytes_eq name) names || has_double names
