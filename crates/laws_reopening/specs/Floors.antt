-- Floors while a reopening settles: from the moment when a settlement is confirmed each shard has as many replicas as
-- the opening wants that comes of it.
use Rattle.std.specs.Prelude.{◌≡◌, ◌≢◌, ◌≤◌, ◌<◌, ℕ, ◌&&◌, Bool, true, false, not, Some, None, List, is_none, length}
use Rattle.std.specs.List.{AllByRecursion}
use Rattle.sm_server.specs.declared.call.Cell.TheVariants as cell
use Rattle.sm_server.specs.Cell.{is_primary}
use Rattle.sm_placement.specs.Sums.{count_below}
use Rattle.sm_placement.specs.Place.{live_at}
pub use Rattle.laws_network.specs.Words.{Cell, Place, sizes_of}
pub use Rattle.laws_network.specs.Reopening.{Confirm, Records, Server, Settlement, Settling, SettlingEvent, records}
pub use Rattle.laws_network.specs.Reopening.{settling_run}
pub use Rattle.laws_network.specs.ReopeningLaws.{AllSettlingFit, AllTook, MaySettle}

-- the event confirms no settlement: so no other opening than that of the last one is under way
abbrev pub ConfirmsNone : SettlingEvent → Type 0
ConfirmsNone (Records (Confirm s)) = ⊥
ConfirmsNone _ = Unit {0}

-- A cell is a replica that counts, if this other one was settled for it: a secondary or the primary; or one in a
-- handover that becomes the primary, which it does once its server takes its settle.
abbrev pub counts_as : Cell → Cell → Bool
counts_as cell.Absent settled = false
counts_as cell.Secondary settled = true
counts_as cell.Primary settled = true
counts_as _ settled = is_primary settled

-- a server is up by the settlement, has its slots, and has a replica of the shard that counts
abbrev pub is_counted_at : Settling → Settlement → ℕ → ℕ → Bool
is_counted_at x s k v = not (s.place.down v) && (is_none (x.bases (Server v)).nonce && counts_as (x.world.net.cells k v) (s.place.cells k v))

-- how many servers have one
abbrev pub replicas : Settling → Settlement → ℕ → ℕ
replicas x s k = count_below (length s.setup.servers) (is_counted_at x s k)

-- only servers that are down by the settlement have lost their slots, or wait for them
abbrev pub AreUpKnown : Settling → Settlement → Type 0
AreUpKnown x s = (v : ℕ) → v < length s.setup.servers → (x.bases (Server v)).nonce ≢ None → s.place.down v ≡ true

-- the placement as the servers have it that have their slots
abbrev pub had_place : Settling → Settlement → Place
had_place x s = record s.place { cells = x.world.net.cells }

-- No shard has fewer replicas than the floor of the settlement's opening; and once all have taken it, as many are live.
pub record KeepsFloors (x : Settling) (s : Settlement) : Type 0 where
  pub under_way : (k : ℕ) → k < (sizes_of s.setup).shards → (sizes_of s.setup).floor k ≤ replicas x s k
  pub settled : x.reopening.settlement ≡ Some s → AllTook x.reopening → (k : ℕ) → k < (sizes_of s.setup).shards
      → (sizes_of s.setup).floor k ≤ live_at (sizes_of s.setup) (had_place x s) k

-- From the moment when a settlement is confirmed floors are kept, whatever comes, also once another reopening replaces
-- this one, until another settlement is confirmed: as long as only servers that are down by it have lost their slots.
abbrev pub FloorsStay : Settling → Type 0
FloorsStay x = (s : Settlement) → MaySettle x.reopening x.world.net.w s → (es : List SettlingEvent)
    → AllSettlingFit es (records x (Confirm s)) →
    AllByRecursion ConfirmsNone es → AreUpKnown (settling_run es (records x (Confirm s))) s
    → KeepsFloors (settling_run es (records x (Confirm s))) s
