-- Safe placements.
use Rattle.std.specs.Prelude.{◌≡◌, ◌≤◌, ◌<◌, ℕ, true, ◌⊎◌, Some}
use Rattle.sm_server.specs.declared.call.Cell.TheVariants.{Forwarding}
use Rattle.sm_placement.specs.Setup.{Sizes}
use Rattle.sm_placement.specs.Rows.{serves}
use Rattle.sm_placement.specs.Place.{Place, load_at, live_at}

-- the server serves the shard, up or down
abbrev pub IsServing : Place → ℕ → ℕ → Type 0
IsServing p s v = serves (p.cells s) v ≡ true

-- Each shard has at most one server that serves it, each load is within its room, each shard has its floor of live
-- replicas, and a listed server serves its shard, or forwards to the server that does.
pub record IsSafePlace (c : Sizes) (p : Place) : Type 0 where
  pub serving : (s u v : ℕ) → IsServing p s u → IsServing p s v → u ≡ v
  pub rooms : (v : ℕ) → v < c.servers → load_at c p v ≤ c.room v
  pub floors : (s : ℕ) → s < c.shards → c.floor s ≤ live_at c p s
  pub listed : (s u : ℕ) → p.listed s ≡ Some u
      → IsServing p s u ⊎ ((v number : ℕ) × (p.cells s u ≡ Forwarding v number) × IsServing p s v)
