-- In how many regions the replicas of a shard stand once moves are made.
use Rattle.std.specs.Prelude.{ℕ, ◌&&◌, ◌||◌, ◌==◌, not, nat_lt, Bool, Option, List, slice_index_or}
use Rattle.std.specs.List.{list_any}
use Rattle.std.specs.Str.{bytes_eq}
use Rattle.sm_placement.specs.Opening.{first_below}
use Rattle.sm_placement.specs.Sums.{any_below, count_below}
use Rattle.sm_placement.specs.Setup.{Setup, sizes_of, no_server, no_shard}
use Rattle.sm_placement.specs.Place.{Place}
use Rattle.sm_plan_code.specs.declared.moves.Move.{Move}
use Rattle.sm_planner.specs.Basis.{Basis, is_replica}

-- two servers stand in one region
abbrev pub same_region : Setup → ℕ → ℕ → Bool
same_region setup u v = bytes_eq (slice_index_or setup.servers u no_server).region (slice_index_or setup.servers v no_server).region

-- in how many regions the servers that pass a test lie: those that are the lowest of their region are counted
abbrev pub region_count : Setup → (ℕ → Bool) → ℕ
region_count setup has =
    count_below (sizes_of setup).servers (λ v. has v && not (any_below v (λ u. has u && same_region setup u v)))

-- the shard is to be in at least this many regions
abbrev pub spread_of : Setup → ℕ → ℕ
spread_of setup s = (slice_index_or setup.shards s no_shard).spread

-- the server has a replica of the shard once all moves are made
abbrev pub has_after : Place → List Move → ℕ → ℕ → Bool
has_after p moves s v =
    list_any (λ m. (m.shard == s) && (m.to == v)) moves
    || (is_replica (p.cells s v) && not (list_any (λ m. (m.shard == s) && (m.from == v)) moves))

-- the shard is moved, and its replicas then lie in fewer regions than its spread
abbrev pub is_too_close : Setup → Place → List Move → ℕ → Bool
is_too_close setup p moves s =
    list_any (λ m. m.shard == s) moves && nat_lt (region_count setup (has_after p moves s)) (spread_of setup s)

-- the lowest such shard
abbrev pub first_too_close : Basis → List Move → Option ℕ
first_too_close b moves =
    first_below (sizes_of b.setup).shards (is_too_close b.setup b.place moves)
