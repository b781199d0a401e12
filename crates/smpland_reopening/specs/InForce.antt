-- The outcome of a reopening once its settlement is in force.
use Rattle.std.specs.Prelude.{◌≡◌, ◌&&◌, ℕ, Bool, List, Option, None, Some, is_some, length, map, not, replicate}
use Rattle.std.specs.Prelude.{slice_get, true}
use Rattle.sm_placement.specs.Setup.{sizes_of}
use Rattle.sm_placement.specs.Layout.{PlacementModel, place_of}
use Rattle.sm_protocol.specs.State.{opened}
use Rattle.laws_network.specs.Reopening.{Server, Settlement}
use Rattle.sm_reopening.specs.Ongoing.{net_reopening}
use Rattle.sm_driver.specs.Carried.{carried_down, was_carried}
use Rattle.sm_driver.specs.Driver.{DriverModel, base, record_of}
use Rattle.sm_driver.specs.Permits.{opening_permits, permit_of}
use Rattle.smpland_reopening.specs.Eased.{IsEased}
use Rattle.smpland_reopening.specs.Reopening.{ReopeningModel}

-- The driver was opened now, with the document's servers, shards and log, in its order, and with the cells that were
-- settled for their numbers: nothing has begun, no server was restored, and no copies were told. No floor is above the
-- document's. Permits of servers that are down stay, and those are carried over that are down and have told nothing.
pub record IsInForce (r : ReopeningModel) (s : Settlement) (d : DriverModel) : Type 0 where
  pub state : record_of d ≡ opened (record_of d).sizes (record_of d).place r.document.log
  pub journal : d.journal ≡ r.journal
  pub epoch : d.epoch ≡ r.epoch
  pub fence : d.fence ≡ (net_reopening r.ongoing).base
  pub setup : IsEased r.document.config d.machine.placement.setup
  pub cells : (k v i j : ℕ) → slice_get r.shards k ≡ Some i → slice_get r.servers v ≡ Some j
      → (record_of d).place.cells k v ≡ s.place.cells i j
  pub down : (v j : ℕ) → slice_get r.servers v ≡ Some j → (record_of d).place.down v ≡ s.place.down j
  pub permits : (v j permit : ℕ) → slice_get r.servers v ≡ Some j → permit_of r.permits j ≡ Some permit
      → s.place.down j ≡ true → permit_of d.permits v ≡ Some permit
  pub carried : (v j : ℕ) → slice_get r.servers v ≡ Some j
      → was_carried d.carried v ≡ (not (is_some ((net_reopening r.ongoing).told (Server j))) && s.place.down j)
  pub restores : d.restores ≡ replicate (length r.document.config.servers) None
  pub copies : d.copies ≡ replicate (length r.document.config.shards) 1

-- The driver was opened over a placement, with permits and carried servers of before: these determine it.
pub record IsOpenedOver (p : PlacementModel) (log journal epoch : ℕ) (permits : List (Option ℕ)) (marks : List Bool) (d : DriverModel) : Type 0 where
  pub state : record_of d ≡ opened (sizes_of p.setup) (place_of p) log
  pub setup : d.machine.placement.setup ≡ p.setup
  pub journal_kept : d.journal ≡ journal
  pub epoch_opened : d.epoch ≡ epoch
  pub fence : d.fence ≡ base d
  pub given : d.permits ≡ opening_permits (base d) permits (length p.setup.servers) (place_of p).down
  pub carried : d.carried ≡ carried_down marks (length p.setup.servers) (place_of p).down
  pub restored : d.restores ≡ replicate (length p.setup.servers) None
  pub copies : d.copies ≡ replicate (length p.setup.shards) 1

-- what is known of the permits of the document's servers, in its order
abbrev pub permits_kept : ReopeningModel → List (Option ℕ)
permits_kept r = map (permit_of r.permits) r.servers

-- which of the document's servers have told nothing, in its order
abbrev pub silent_servers : ReopeningModel → List Bool
silent_servers r = map (λ v. not (is_some ((net_reopening r.ongoing).told (Server v)))) r.servers

-- The driver was opened over the placement that was kept when the settlement was confirmed.
pub record IsOpenedFrom (r : ReopeningModel) (d : DriverModel) : Type 0 where
  pub placement : PlacementModel
  pub kept : r.next ≡ Some placement
  pub opened_over : IsOpenedOver placement r.document.log r.journal r.epoch (permits_kept r) (silent_servers r) d
