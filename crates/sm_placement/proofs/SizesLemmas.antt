-- The numbers of a configuration: small, and 0 beyond its servers and shards.
use Rattle.std.proofs.Common.{◌≡◌, ℕ, ◌-◌, ◌*◌, ◌^◌, ◌<◌, ◌≤◌, length, get_or, ap, arith, inl, inr}
use Rattle.std.proofs.lemmas.Bool.{cases_lt}
use Rattle.std.proofs.lemmas.List.{get_or_past}
use Rattle.std.proofs.lemmas.List.Elements.{All-get_or}
use Rattle.sm_placement.specs.Setup.{Setup, ServerRow, ShardRow, IsSetup, sizes_of, no_server, no_shard}
use Rattle.sm_placement.specs.Sums.{sum_below}
use Rattle.sm_placement.specs.declared.limits.TheConstants.{MOST_LOAD, MOST_REPLICAS, MOST_SERVERS}
use Rattle.sm_placement.proofs.Sums.{sum-le}

pub room_beyond : (setup : Setup) (v : ℕ) → length setup.servers ≤ v → (sizes_of setup).room v ≡ 0
room_beyond setup v l = ap (λ (r : ServerRow). r.room) (get_or_past setup.servers v no_server l)

pub load_beyond : (setup : Setup) (s : ℕ) → length setup.shards ≤ s → (sizes_of setup).load s ≡ 0
load_beyond setup s l = ap (λ (r : ShardRow). r.load) (get_or_past setup.shards s no_shard l)

pub floor_beyond : (setup : Setup) (s : ℕ) → length setup.shards ≤ s → (sizes_of setup).floor s ≡ 0
floor_beyond setup s l = ap (λ (r : ShardRow). r.want - r.cap) (get_or_past setup.shards s no_shard l)

-- the room of a server is at most MOST_LOAD
pub room_small : (setup : Setup) (v : ℕ) → IsSetup setup → (sizes_of setup).room v ≤ MOST_LOAD
room_small setup v h = elim (cases_lt v (length setup.servers)) [
  | inl l ↦ All-get_or (λ (r : ServerRow). r.room ≤ MOST_LOAD) setup.servers v no_server l h.good_servers
  | inr l ↦ let z : (sizes_of setup).room v ≡ 0 = room_beyond setup v l in omega arith
]

-- the load of a shard is at most MOST_LOAD
pub load_small : (setup : Setup) (s : ℕ) → IsSetup setup → (sizes_of setup).load s ≤ MOST_LOAD
load_small setup s h = elim (cases_lt s (length setup.shards)) [
  | inl l ↦ All-get_or (λ (r : ShardRow). r.load ≤ MOST_LOAD) setup.shards s no_shard l h.good_loads
  | inr l ↦ let z : (sizes_of setup).load s ≡ 0 = load_beyond setup s l in omega arith
]

-- the floor of a shard is at most MOST_REPLICAS
pub floor_small : (setup : Setup) (s : ℕ) → IsSetup setup → (sizes_of setup).floor s ≤ MOST_REPLICAS
floor_small setup s h = elim (cases_lt s (length setup.shards)) [
  | inl l ↦ let want : (get_or setup.shards s no_shard).want ≤ MOST_REPLICAS = All-get_or (λ (r : ShardRow). r.want ≤ MOST_REPLICAS) setup.shards s no_shard l h.good_wants in omega arith
  | inr l ↦ let z : (sizes_of setup).floor s ≡ 0 = floor_beyond setup s l in omega arith
]

-- all rooms together are below 2 ^ 43
pub rooms_small : (setup : Setup) → IsSetup setup → sum_below (length setup.servers) (sizes_of setup).room < 2 ^ 43
rooms_small setup h =
    let a : sum_below (length setup.servers) (sizes_of setup).room ≤ length setup.servers * 2 ^ 32 = sum-le (length setup.servers) (2 ^ 32) (sizes_of setup).room (λ v l. let r : (sizes_of setup).room v ≤ MOST_LOAD = room_small setup v h in omega arith) in
    let b : length setup.servers ≤ MOST_SERVERS = h.servers in
    omega arith
