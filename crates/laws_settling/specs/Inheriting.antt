-- A settlement by what was told: each shard goes to a server with the best claim to it, and secondaries stay.
use Rattle.std.specs.Prelude.{◌≢◌, ◌≤◌, ◌<◌, ℕ, ◌==◌, ◌&&◌, Bool, false, not, Option, Some, None, length, nat_lt}
use Rattle.std.specs.Prelude.{if◌then◌else◌}
use Rattle.sm_server.specs.declared.call.Cell.{Cell}
use Rattle.sm_server.specs.declared.call.Cell.TheVariants.{Absent, Secondary, Primary}
use Rattle.sm_placement.specs.Sums.{any_below}
use Rattle.sm_placement.specs.Setup.{IsSetup}
use Rattle.sm_placement.specs.Opening.{first_below}
use Rattle.sm_placement.specs.Place.{load_of}
use Rattle.sm_placement.specs.Rows.{live_in}
use Rattle.laws_network.specs.Reopening.{Inventory, Reopening, Server, Settlement, Setup, Slots, sizes_of}
use Rattle.laws_network.specs.ReopeningLaws.{claim_told}

-- the cell that a server has told, and nothing if it is Unknown or has not told
abbrev pub told_cell : Option Inventory → ℕ → Cell
told_cell (Some (Slots cells reached)) k = cells k
told_cell _ k = Absent

-- the claim of a server to a shard, by what it told
abbrev pub claim_by : Reopening → ℕ → ℕ → ℕ
claim_by r k v = claim_told (r.told (Server v)) k

-- the server has a claim to the shard, and none below n has a better one
abbrev pub has_best : Reopening → ℕ → ℕ → ℕ → Bool
has_best r n k v = nat_lt 0 (claim_by r k v) && not (any_below n (λ u. nat_lt (claim_by r k v) (claim_by r k u)))

-- the server that inherits a shard: of those below n with the best claim the lowest
abbrev pub successor : Reopening → ℕ → ℕ → Option ℕ
successor r n k = first_below n (has_best r n k)

-- what becomes of a cell whose server does not inherit the shard: a secondary stays, and a party of a handover gives
-- the shard up
abbrev pub left_of : Cell → Cell
left_of Secondary = Secondary
left_of _ = Absent

-- the server is this one
abbrev pub is_successor : Option ℕ → ℕ → Bool
is_successor None v = false
is_successor (Some u) v = u == v

-- the cells that come of what was told: who inherits a shard is its primary
abbrev pub inherited : Reopening → ℕ → ℕ → ℕ → Cell
inherited r n k v = if is_successor (successor r n k) v then Primary else left_of (told_cell (r.told (Server v)) k)

-- The settlement of these cells under a configuration, with room for a log. The map lists who inherits, and no server
-- is down.
abbrev pub settlement_told : Reopening → Setup → ℕ → ℕ → Settlement
settlement_told r setup limit room = record {
  setup = setup;
  place = record {
    cells = inherited r (length setup.servers);
    last = λ k v. 0;
    down = λ v. false;
    listed = successor r (length setup.servers);
    version = λ k. 0;
    limit = limit;
  };
  room = room;
}

-- A configuration has place for what servers told if it knows each of these servers and the shards of which they told
-- something, the cells that come of it are within its rooms, and no shard has fewer replicas than its floor.
pub record HasPlace (r : Reopening) (setup : Setup) : Type 0 where
  pub rows : IsSetup setup
  pub servers : length setup.servers ≤ r.servers
  pub known : (k v : ℕ) → told_cell (r.told (Server v)) k ≢ Absent
      → (k < length setup.shards) × (v < length setup.servers)
  pub rooms : (v : ℕ) → v < length setup.servers
      → load_of (sizes_of setup) (inherited r (length setup.servers)) v ≤ (sizes_of setup).room v
  pub floors : (k : ℕ) → k < length setup.shards
      → (sizes_of setup).floor k ≤ live_in (length setup.servers) (inherited r (length setup.servers) k) (λ v. false)
