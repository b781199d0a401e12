-- Servers and shards without a fault are a configuration.
use Rattle.std.proofs.Common.{◌≡◌, ◌≤◌, ◌&&◌, ◌||◌, ℕ, Bool, true, false, length, get_or, nat_lt, nat_le, leb-true, refl, sym, true≢false, arith}
use Rattle.std.specs.List.{list_all}
use Rattle.std.proofs.lemmas.List.Sums.{AllPass-from_list_all}
use Rattle.std.proofs.lemmas.Bool.Decides.{nat_tests}
use Rattle.sm_placement.specs.Setup.{Setup, ServerRow, ShardRow, IsSetup, is_too_large, has_good_names, has_doubled_name, has_good_numbers, is_good_server, is_good_shard}
use Rattle.sm_placement.specs.declared.limits.TheConstants.{MOST_LOAD, MOST_REPLICAS, MOST_SERVERS, MOST_SHARDS}

-- where both hold the first one does
pub and_first : (a b : Bool) → (a && b) ≡ true → a ≡ true
and_first true b h = refl
and_first false b h = h

-- where both hold the second one does
pub and_second : (a b : Bool) → (a && b) ≡ true → b ≡ true
and_second true b h = h
and_second false b h = absurd (true≢false (sym h))

server_within : (r : ServerRow) → is_good_server r ≡ true → r.room ≤ MOST_LOAD
server_within r h = leb-true r.room MOST_LOAD h

-- the numbers of a good shard
record IsWithin (r : ShardRow) : Type 0 where
  load : r.load ≤ MOST_LOAD
  want : r.want ≤ MOST_REPLICAS
  cap : r.cap ≤ r.want
  spread : r.spread ≤ MOST_REPLICAS

shard_within : (r : ShardRow) → is_good_shard r ≡ true → IsWithin r
shard_within r h =
    let h1 = and_second (nat_le r.load MOST_LOAD) _ h in
    let h2 = and_second (nat_le r.want MOST_REPLICAS) _ h1 in
    let h3 = and_second (nat_le r.cap MOST_REPLICAS) _ h2 in
    record {
      load = leb-true _ _ (and_first (nat_le r.load MOST_LOAD) _ h);
      want = leb-true _ _ (and_first (nat_le r.want MOST_REPLICAS) _ h1);
      cap = leb-true _ _ (and_second (nat_le r.spread MOST_REPLICAS) _ h3);
      spread = leb-true _ _ (and_first (nat_le r.spread MOST_REPLICAS) _ h3);
    }

sizes_within : (a b : ℕ) → (nat_lt MOST_SERVERS a || nat_lt MOST_SHARDS b) ≡ false → (a ≤ MOST_SERVERS) × (b ≤ MOST_SHARDS)
sizes_within a b h = grind (arith, nat_tests)

-- servers and shards that pass each of these tests are a configuration
pub setup_from_tests : (setup : Setup) → is_too_large setup ≡ false → has_good_names setup ≡ true → has_doubled_name setup ≡ false → has_good_numbers setup ≡ true → IsSetup setup
setup_from_tests setup large names doubled numbers =
    let sizes = sizes_within (length setup.servers) (length setup.shards) large in
    let servers = AllPass-from_list_all is_good_server setup.servers (and_first (list_all is_good_server setup.servers) _ numbers) in
    let shards = AllPass-from_list_all is_good_shard setup.shards (and_second (list_all is_good_server setup.servers) _ numbers) in
    record {
      servers = sizes.0;
      shards = sizes.1;
      good_names = names;
      distinct_names = doubled;
      good_servers = λ k d h. server_within (get_or setup.servers k d) (servers k d h);
      good_loads = λ k d h. (shard_within (get_or setup.shards k d) (shards k d h)).load;
      good_wants = λ k d h. (shard_within (get_or setup.shards k d) (shards k d h)).want;
      good_caps = λ k d h. (shard_within (get_or setup.shards k d) (shards k d h)).cap;
      good_spreads = λ k d h. (shard_within (get_or setup.shards k d) (shards k d h)).spread;
    }
