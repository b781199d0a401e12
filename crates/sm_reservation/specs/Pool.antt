-- A pool: the rights that no grant has, by key.
-- `IsStocked` is what a `Pool` keeps: you need not read it for the public contracts.
use Rattle.std.specs.Prelude.{◌≡◌, ◌≤◌, ◌<◌, ◌-◌, ◌*◌, ◌&&◌, ℕ, List, length, Option, Some, None, nat_lt, ◌==◌}
use Rattle.std.specs.Prelude.{unwrap_or, if◌then◌else◌}
use Rattle.std.specs.Option.{option_map}
use Rattle.sm_placement.specs.declared.lead.Lead.{Lead}
use Rattle.sm_placement.specs.declared.lead.Lead.TheVariants.{Gone}
use Rattle.sm_placement.specs.Sums.{bit}
use Rattle.sm_placement.specs.Setup.{Sizes}
use Rattle.sm_placement.specs.Place.{Place, load_at, live_at}
use Rattle.sm_placement.specs.Lead.{lead_of}
use Rattle.sm_placement.specs.Layout.{grid_of, entries_of}
use Rattle.sm_reservation.specs.declared.right.PlainCell.{PlainCell}
use Rattle.sm_reservation.specs.Hold.{Hold}
use Rattle.sm_reservation.specs.Amounts.{Right, OfCell, OfCrown, OfRoom, OfSpare, plain_of}

-- A pool as contracts see it: how many shards and servers there are, and the rights that no grant has, in lists that
-- are read by the numbers of shards and servers.
pub record PoolModel : Type 0 where
  -- how many shards and servers there are
  pub shards : ℕ
  pub servers : ℕ
  -- the cells shard after shard, with one entry for each server; the others with one for each shard or server
  pub cells : List (Option PlainCell)
  pub crowns : List (Option (Lead × Option ℕ))
  pub room : List ℕ
  pub spare : List ℕ

-- each list has an entry for each pair, shard or server
pub record IsStocked (k : PoolModel) : Type 0 where
  pub cells : length k.cells ≡ k.shards * k.servers
  pub crowns : length k.crowns ≡ k.shards
  pub room : length k.room ≡ k.servers
  pub spare : length k.spare ≡ k.shards

-- two pools are of the same shards and servers
pub record SameSize (a b : PoolModel) : Type 0 where
  pub shards : b.shards ≡ a.shards
  pub servers : b.servers ≡ a.servers

-- the pool is of a configuration's shards and servers
pub record HasSize (c : Sizes) (k : PoolModel) : Type 0 where
  pub shards : k.shards ≡ c.shards
  pub servers : k.servers ≡ c.servers

-- the rights of a pool, read by their keys
unfoldable pub pool_hold : PoolModel → Hold
pool_hold k = record {
  cells = grid_of k.servers None k.cells;
  crowns = entries_of None k.crowns;
  room = entries_of 0 k.room;
  spare = entries_of 0 k.spare;
}

-- all rights are of known shards and servers: those below these numbers
pub record IsKnownHold (shards servers : ℕ) (h : Hold) : Type 0 where
  pub no_shard : (s v : ℕ) → shards ≤ s → h.cells s v ≡ None
  pub no_server : (s v : ℕ) → servers ≤ v → h.cells s v ≡ None
  pub crowns : (s : ℕ) → shards ≤ s → h.crowns s ≡ None
  pub room : (v : ℕ) → servers ≤ v → h.room v ≡ 0
  pub spare : (s : ℕ) → shards ≤ s → h.spare s ≡ 0

-- the lead of each shard, and none under way or at a server if no lead describes its cells
abbrev pub leads_of : Sizes → Place → ℕ → Lead
leads_of c p s = unwrap_or (lead_of c.servers (p.cells s)) Gone

-- All rights true of a placement: a right to each cell that has no part in its shard's lead, the crown of each shard
-- whose cells a lead describes, the room that is free, and the live replicas above the floor.
abbrev pub true_rights : Sizes → Place → Hold
true_rights c p = record {
  cells = λ s v. if nat_lt s c.shards && nat_lt v c.servers then plain_of (p.cells s v) else None;
  crowns = λ s. if nat_lt s c.shards then option_map (λ lead. (lead, p.listed s)) (lead_of c.servers (p.cells s)) else None;
  room = λ v. if nat_lt v c.servers then c.room v - load_at c p v else 0;
  spare = λ s. if nat_lt s c.shards then live_at c p s - c.floor s else 0;
}

-- the right to a cell, unless it is in use
abbrev pub free_cell : (Right → ℕ) → ℕ → ℕ → Option PlainCell → Option PlainCell
free_cell used s v None = None
free_cell used s v (Some state) = if used (OfCell s v state) == 0 then Some state else None

-- the crown of a shard, unless it is in use
abbrev pub free_crown : (Right → ℕ) → ℕ → Option (Lead × Option ℕ) → Option (Lead × Option ℕ)
free_crown used s None = None
free_crown used s (Some crown) = if used (OfCrown s crown.0 crown.1) == 0 then Some crown else None

-- a right of a known shard and server
abbrev pub IsKnownRight : Sizes → Right → Type 0
IsKnownRight c (OfCell s v state) = (s < c.shards) × (v < c.servers)
IsKnownRight c (OfCrown s lead listed) = s < c.shards
IsKnownRight c (OfRoom v) = v < c.servers
IsKnownRight c (OfSpare s) = s < c.shards

-- how much one spare replica of a shard adds to a right
abbrev pub one_spare : ℕ → Right → ℕ
one_spare shard (OfSpare s) = bit (s == shard)
one_spare shard _ = 0
