-- Regions by numbers, and which of them replicas lie in.
-- Internal definitions: you need not read them for the public contracts.
use Rattle.std.specs.Prelude.{◌≡◌, ◌<◌, ◌≤◌, ℕ, ◌&&◌, ◌==◌, not, Bool, true, false, List, length, slice_index}
use Rattle.std.specs.Prelude.{slice_index_or}
use Rattle.sm_placement.specs.declared.limits.TheConstants.{MOST_SERVERS}
use Rattle.sm_placement.specs.Sums.{any_below}
use Rattle.sm_placement.specs.Setup.{Setup}
use Rattle.sm_placement.specs.Place.{Place}
use Rattle.sm_planner.specs.Basis.{is_replica}
use Rattle.sm_planner.specs.Spread.{same_region, region_count, spread_of}

-- the number of a server's region: of the servers that stand in it, the lowest
pub record IsRegionOf (setup : Setup) (v r : ℕ) : Type 0 where
  pub within : r ≤ v
  pub same : same_region setup r v ≡ true
  pub lowest : (u : ℕ) → u < r → same_region setup u v ≡ false

-- a number for the region of each server, the same if the regions are
pub record AreRegions (setup : Setup) (regions : List ℕ) : Type 0 where
  pub wide : length regions ≡ length setup.servers
  pub known : (v : ℕ) → v < length setup.servers → slice_index regions v < length setup.servers
  pub alike : (u v : ℕ) → u < length setup.servers → v < length setup.servers
      → (slice_index regions u == slice_index regions v) ≡ same_region setup u v

-- one of the first n servers passes, and its region has this number
abbrev pub is_occupied : List ℕ → (ℕ → Bool) → ℕ → ℕ → Bool
is_occupied regions has n r = any_below n (λ u. has u && (slice_index regions u == r))

-- the regions that are marked are those in which servers lie that pass, and this is their number
pub record IsOccupied (setup : Setup) (regions : List ℕ) (has : ℕ → Bool) (marks : List Bool) (total : ℕ) : Type 0 where
  pub wide : length marks ≡ length setup.servers
  pub marked : (r : ℕ) → r < length setup.servers
      → slice_index_or marks r false ≡ is_occupied regions has (length setup.servers) r
  pub count : total ≡ region_count setup has
  pub few : total ≤ MOST_SERVERS

-- the server's replica of the shard stays when v is left
abbrev pub stays : Place → ℕ → ℕ → ℕ → Bool
stays p s v w = is_replica (p.cells s w) && not (w == v)

-- the regions that are marked are those of the replicas that stay when v is left, if the shard is to lie in more than
-- one
abbrev pub AreStayingRegions : Setup → Place → List ℕ → ℕ → ℕ → List Bool → ℕ → Type 0
AreStayingRegions setup p regions s v marks total = 1 < spread_of setup s
    → IsOccupied setup regions (stays p s v) marks total
