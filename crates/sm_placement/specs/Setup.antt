-- A configuration: its servers and its shards, each at its number.
use Rattle.std.specs.Prelude.{◌≡◌, ◌≤◌, ◌-◌, ◌&&◌, ◌||◌, ◌==◌, ℕ, Bool, true, false, List, [], length, Option, nat_lt}
use Rattle.std.specs.Prelude.{nat_le, map, position, slice_index_or, All}
use Rattle.std.specs.Cmp.{IsEquivalence}
use Rattle.std.specs.Cmp.Lexicographic.{pointwise}
use Rattle.std.specs.List.{list_all}
use Rattle.std.specs.Str.{bytes_eq}
use Rattle.std.proofs.lemmas.Cmp.{nat_eq_equiv, nat_list_eq_equiv, lists_equiv, on_equiv, and_equiv}
use Rattle.sm_placement.specs.Names.{is_name, has_double}
use Rattle.sm_placement.specs.declared.limits.TheConstants.{MOST_SERVERS, MOST_SHARDS, MOST_LOAD, MOST_REPLICAS}

-- a server: its name, the region that it stands in, and the load that it has room for
pub record ServerRow : Type 0 where
  pub name : List ℕ
  pub region : List ℕ
  pub room : ℕ

-- a shard: its name, the load of each replica, how many replicas it wants, how many of them may be away at once (SM
-- 2021), and in how many regions its replicas are to stand
pub record ShardRow : Type 0 where
  pub name : List ℕ
  pub load : ℕ
  pub want : ℕ
  pub cap : ℕ
  pub spread : ℕ

-- a configuration as contracts see it: its servers and its shards, each numbered by its position in its list
pub record Setup : Type 0 where
  pub servers : List ServerRow
  pub shards : List ShardRow

-- the names of all servers, in the order of their numbers
abbrev pub names_of_servers : Setup → List (List ℕ)
names_of_servers setup = map (λ r. r.name) setup.servers

-- the names of all shards, in the order of their numbers
abbrev pub names_of_shards : Setup → List (List ℕ)
names_of_shards setup = map (λ r. r.name) setup.shards

-- the number of the server with this name
abbrev pub server_named : Setup → List ℕ → Option ℕ
server_named setup name = position (λ n. bytes_eq name n) (names_of_servers setup)

-- the number of the shard with this name
abbrev pub shard_named : Setup → List ℕ → Option ℕ
shard_named setup name = position (λ n. bytes_eq name n) (names_of_shards setup)

-- more servers or shards than a configuration has
abbrev pub is_too_large : Setup → Bool
is_too_large setup = nat_lt MOST_SERVERS (length setup.servers) || nat_lt MOST_SHARDS (length setup.shards)

-- a server's name and region are names
abbrev pub is_well_named_server : ServerRow → Bool
is_well_named_server r = is_name r.name && is_name r.region

-- a shard's name is a name
abbrev pub is_well_named_shard : ShardRow → Bool
is_well_named_shard r = is_name r.name

-- every server and every shard is well named
abbrev pub has_good_names : Setup → Bool
has_good_names setup = list_all is_well_named_server setup.servers && list_all is_well_named_shard setup.shards

-- two servers, or two shards, have one name
abbrev pub has_doubled_name : Setup → Bool
has_doubled_name setup = has_double (names_of_servers setup) || has_double (names_of_shards setup)

-- a server's room is within its limit
abbrev pub is_good_server : ServerRow → Bool
is_good_server r = nat_le r.room MOST_LOAD

-- a shard's numbers are within their limits, and no more replicas may be away than are wanted
abbrev pub is_good_shard : ShardRow → Bool
is_good_shard r = nat_le r.load MOST_LOAD && (nat_le r.want MOST_REPLICAS && (nat_le r.cap MOST_REPLICAS && (nat_le r.spread MOST_REPLICAS && nat_le r.cap r.want)))

-- the numbers of every server and of every shard are good: within their limits, and no cap above its want
abbrev pub has_good_numbers : Setup → Bool
has_good_numbers setup = list_all is_good_server setup.servers && list_all is_good_shard setup.shards

-- what every configuration keeps
pub record IsSetup (setup : Setup) : Type 0 where
  pub servers : length setup.servers ≤ MOST_SERVERS
  pub shards : length setup.shards ≤ MOST_SHARDS
  pub good_names : has_good_names setup ≡ true
  pub distinct_names : has_doubled_name setup ≡ false
  pub good_servers : All (λ r. r.room ≤ MOST_LOAD) setup.servers
  pub good_loads : All (λ r. r.load ≤ MOST_LOAD) setup.shards
  pub good_wants : All (λ r. r.want ≤ MOST_REPLICAS) setup.shards
  pub good_caps : All (λ r. r.cap ≤ r.want) setup.shards
  pub good_spreads : All (λ r. r.spread ≤ MOST_REPLICAS) setup.shards

-- two servers agree in name, region and room
abbrev pub same_server : ServerRow → ServerRow → Bool
same_server a b = bytes_eq a.name b.name && (bytes_eq a.region b.region && (a.room == b.room))

-- two shards agree in name, load, want, cap and spread
abbrev pub same_shard : ShardRow → ShardRow → Bool
same_shard a b = bytes_eq a.name b.name && ((a.load == b.load) && ((a.want == b.want) && ((a.cap == b.cap) && (a.spread == b.spread))))

-- two configurations have the same servers and the same shards, each in the same order
abbrev pub same_setup : Setup → Setup → Bool
same_setup a b = pointwise same_server a.servers b.servers && pointwise same_shard a.shards b.shards

-- that two servers agree is an equivalence
pub same_server_laws : IsEquivalence same_server
same_server_laws =
    and_equiv (on_equiv (λ r. r.name) nat_list_eq_equiv) (and_equiv (on_equiv (λ r. r.region) nat_list_eq_equiv) (on_equiv (λ r. r.room) nat_eq_equiv))

-- that two shards agree is an equivalence
pub same_shard_laws : IsEquivalence same_shard
same_shard_laws =
    and_equiv (on_equiv (λ r. r.name) nat_list_eq_equiv)
    (and_equiv (on_equiv (λ r. r.load) nat_eq_equiv)
    (and_equiv (on_equiv (λ r. r.want) nat_eq_equiv)
    (and_equiv (on_equiv (λ r. r.cap) nat_eq_equiv) (on_equiv (λ r. r.spread) nat_eq_equiv))))

-- that two configurations are the same is an equivalence
pub same_setup_laws : IsEquivalence same_setup
same_setup_laws = and_equiv (on_equiv (λ c. c.servers) (lists_equiv same_server_laws)) (on_equiv (λ c. c.shards) (lists_equiv same_shard_laws))

-- what is read at a number that no server has: no name, no region and no room
abbrev pub no_server : ServerRow
no_server = record { name = []; region = []; room = 0 }

-- what is read at a number that no shard has: no name, and 0 for each of its numbers
abbrev pub no_shard : ShardRow
no_shard = record { name = []; load = 0; want = 0; cap = 0; spread = 0 }

-- the numbers of a configuration, by the numbers of its servers and shards
pub record Sizes : Type 0 where
  pub servers : ℕ
  pub shards : ℕ
  pub room : ℕ → ℕ
  pub load : ℕ → ℕ
  pub floor : ℕ → ℕ

-- the numbers of this configuration; a shard's floor is its want less its cap: the live replicas below which it never
-- falls
abbrev pub sizes_of : Setup → Sizes
sizes_of setup = record {
  servers = length setup.servers;
  shards = length setup.shards;
  room = λ v. (slice_index_or setup.servers v no_server).room;
  load = λ s. (slice_index_or setup.shards s no_shard).load;
  floor = λ s. (slice_index_or setup.shards s no_shard).want - (slice_index_or setup.shards s no_shard).cap;
}
