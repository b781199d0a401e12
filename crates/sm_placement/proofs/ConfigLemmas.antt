-- Servers and shards at their numbers, and places in a list that is a map of another.
use Rattle.std.proofs.Common.{◌≡◌, ◌+◌, ◌<◌, ◌||◌, ℕ, Bool, cond, not, List, [], ◌∷◌, length, map, get_or, string_bytes, Global, refl, ap}
use Rattle.std.specs.List.{prefix_len, position, list_all, list_any}
use Rattle.std.specs.Str.{bytes_eq}
use Rattle.std.specs.declared.string.String.{String}
use Rattle.std.proofs.lemmas.List.{get_or-map}
use Rattle.std.proofs.lemmas.List.Folds.{list_all-map}
use Rattle.sm_placement.specs.declared.config.Server.{Server}
use Rattle.sm_placement.specs.declared.config.Shard.{Shard}
use Rattle.sm_placement.specs.Setup.{no_server, no_shard, is_well_named_server, is_well_named_shard, is_good_server, is_good_shard}
use Rattle.sm_placement.specs.Config.{server_row, shard_row}

prefix_len-map : {X Y : Type 0} (f : X → Y) (p : Y → Bool) (xs : List X) → prefix_len p (map f xs) ≡ prefix_len (λ x. p (f x)) xs
prefix_len-map f p [] = refl
prefix_len-map f p (x ∷ xs) = ap (λ n. cond (p (f x)) (1 + n) 0) (prefix_len-map f p xs)

-- a mapped list is as long as the list
pub length_map : {X Y : Type 0} (f : X → Y) (xs : List X) → length (map f xs) ≡ length xs
length_map f [] = refl
length_map f (x ∷ xs) = simp (length_map f xs)

-- the first of a mapped list that passes stands where the first does whose image passes
pub position_map : {X Y : Type 0} (f : X → Y) (p : Y → Bool) (xs : List X) → position p (map f xs) ≡ position (λ x. p (f x)) xs
position_map f p xs = rw (prefix_len-map f (λ y. not (p y)) xs, length_map f xs) refl

-- the row of the server with a number
pub server_at : (servers : List Server) (i : ℕ) (d : Server) → i < length servers → get_or (map server_row servers) i no_server ≡ server_row (get_or servers i d)
server_at servers i d h = get_or-map server_row servers i d no_server h

-- the row of the shard with a number
pub shard_at : (shards : List Shard) (i : ℕ) (d : Shard) → i < length shards → get_or (map shard_row shards) i no_shard ≡ shard_row (get_or shards i d)
shard_at shards i d h = get_or-map shard_row shards i d no_shard h

-- the rows of servers are well named exactly where each server's row is
pub all_well_named_servers : (servers : List Server) → list_all is_well_named_server (map server_row servers) ≡ list_all (λ s. is_well_named_server (server_row s)) servers
all_well_named_servers servers = list_all-map is_well_named_server server_row servers

-- the rows of shards are well named exactly where each shard's row is
pub all_well_named_shards : (shards : List Shard) → list_all is_well_named_shard (map shard_row shards) ≡ list_all (λ s. is_well_named_shard (shard_row s)) shards
all_well_named_shards shards = list_all-map is_well_named_shard shard_row shards

-- the rows of servers have good numbers exactly where each server's row has
pub all_good_servers : (servers : List Server) → list_all is_good_server (map server_row servers) ≡ list_all (λ s. is_good_server (server_row s)) servers
all_good_servers servers = list_all-map is_good_server server_row servers

-- the rows of shards have good numbers exactly where each shard's row has
pub all_good_shards : (shards : List Shard) → list_all is_good_shard (map shard_row shards) ≡ list_all (λ s. is_good_shard (shard_row s)) shards
all_good_shards shards = list_all-map is_good_shard shard_row shards

-- a name among the keys of a table
pub any_name : (name : List ℕ) (names : List (String Global)) → list_any (bytes_eq name) (map string_bytes names) ≡ list_any (λ k. bytes_eq name (string_bytes k)) names
any_name name [] = refl
any_name name (k ∷ names) = ap (λ b. bytes_eq name (string_bytes k) || b) (any_name name names)
