-- A reopening under a document, as contracts see it.
-- `IsRenumbered`, `IsNextOpening` and `IsReopening` are internal: you need not read them for the public contracts.
use Rattle.std.specs.Prelude.{◌≡◌, ◌≤◌, ℕ, List, Option, Some, is_some, length, slice_get}
use Rattle.sm_placement.specs.Place.{down_count}
use Rattle.sm_placement.specs.Setup.{Setup, names_of_servers, names_of_shards, sizes_of}
use Rattle.sm_placement.specs.Layout.{PlacementModel, place_of}
use Rattle.sm_placement.specs.Lead.{IsSettled}
use Rattle.sm_plan_code.specs.declared.limits.TheConstants.{MOST_PLACES}
use Rattle.laws_network.specs.Reopening.{Settlement}
use Rattle.sm_plan_text.specs.declared.document.Document.{Document}
use Rattle.sm_reopening.specs.declared.ongoing.OngoingReopening.{OngoingReopening}
use Rattle.sm_reopening.specs.Ongoing.{IsSameButTold, net_reopening, shards_of}
use Rattle.sm_driver.specs.Orders.{epoch_base}
use Rattle.sm_driver.specs.Permits.{AreEarlierPermits}
use Rattle.smpland_reopening.specs.declared.roles.Roles.{Roles}
use Rattle.smpland_reopening.specs.declared.unknown_shard.UnknownShard.{UnknownShard}
use Rattle.smpland_reopening.specs.Eased.{IsEased}
use Rattle.smpland_reopening.specs.Numbers.{AreNumbered}

-- A reopening of numbered servers and shards, and what it is under.
pub record ReopeningModel : Type 0 where
  pub ongoing : OngoingReopening
  pub journal : ℕ
  pub epoch : ℕ
  pub document : Document
  -- all servers and shards that have numbers, and the numbers of those of the document, in its order
  pub numbering : Setup
  pub servers : List ℕ
  pub shards : List ℕ
  pub documented : Roles
  -- the permits of the servers that are recorded down
  pub permits : List (Option ℕ)
  -- of each recorded shard, how many copies each acknowledged write surely has; 1 where nothing stands
  pub kept : List ℕ
  pub unknown_shards : List UnknownShard
  -- what the next driver opens with, once a settlement is confirmed
  pub next : Option PlacementModel

-- The placement of a document's servers and shards, in its order, is the one that was settled for their numbers.
pub record IsRenumbered (document : Setup) (shards servers : List ℕ) (s : Settlement) (p : PlacementModel) : Type 0 where
  pub server_names : names_of_servers p.setup ≡ names_of_servers document
  pub shard_names : names_of_shards p.setup ≡ names_of_shards document
  pub eased : IsEased document p.setup
  pub cells : (k v i j : ℕ) → slice_get shards k ≡ Some i → slice_get servers v ≡ Some j
      → (place_of p).cells k v ≡ s.place.cells i j
  pub down : (v j : ℕ) → slice_get servers v ≡ Some j → (place_of p).down v ≡ s.place.down j

-- The next driver's placement is settled, and its log has room for the servers that are down.
pub record IsNextOpening (document : Document) (shards servers : List ℕ) (s : Settlement) (p : PlacementModel) : Type 0 where
  pub same : IsRenumbered document.config shards servers s p
  pub settled : IsSettled (sizes_of p.setup) (place_of p)
  pub room : down_count (sizes_of p.setup) (place_of p) ≤ document.log
  pub most : document.log ≤ MOST_PLACES

-- The facts that hold of every reopening under a document.
pub record IsReopening (r : ReopeningModel) : Type 0 where
  pub servers : length r.numbering.servers ≡ (net_reopening r.ongoing).servers
  pub shards : length r.numbering.shards ≡ shards_of r.ongoing
  pub base : (net_reopening r.ongoing).base ≡ epoch_base r.epoch
  pub named_servers : AreNumbered (names_of_servers r.numbering) r.servers (names_of_servers r.document.config)
  pub named_shards : AreNumbered (names_of_shards r.numbering) r.shards (names_of_shards r.document.config)
  pub permits : AreEarlierPermits (epoch_base r.epoch) r.permits
  pub confirmed : is_some r.next ≡ is_some (net_reopening r.ongoing).settlement
  pub next : (p : PlacementModel) (s : Settlement) → r.next ≡ Some p → (net_reopening r.ongoing).settlement ≡ Some s
      → IsNextOpening r.document r.shards r.servers s p

-- all but what is told, and what is confirmed, is as it was
pub record IsUnder (old new : ReopeningModel) : Type 0 where
  pub same : IsSameButTold old.ongoing new.ongoing
  pub journal : new.journal ≡ old.journal
  pub epoch : new.epoch ≡ old.epoch
  pub document : new.document ≡ old.document
  pub numbering : new.numbering ≡ old.numbering
  pub servers : new.servers ≡ old.servers
  pub shards : new.shards ≡ old.shards
  pub documented : new.documented ≡ old.documented
  pub permits : new.permits ≡ old.permits
  pub kept : new.kept ≡ old.kept
