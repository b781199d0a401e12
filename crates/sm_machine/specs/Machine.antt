-- A machine: what contracts see of it.
use Rattle.std.specs.Prelude.{ℕ, Bool, List, slice_index_or}
use Rattle.sm_placement.specs.declared.entry.Entry.{Entry}
use Rattle.sm_placement.specs.Layout.{PlacementModel}
use Rattle.sm_reservation.specs.Pool.{PoolModel}
use Rattle.sm_machine.specs.Begun.{BegunModel, no_begun}
use Rattle.sm_machine.specs.Journal.{JournalModel}
use Rattle.sm_machine.specs.Opening.{OpeningRows}

-- A machine, as contracts see it: the placement, who has which rights, the plans that were begun, and the log.
pub record MachineModel : Type 0 where
  -- the placement at the opening, and as it stands
  pub opening : OpeningRows
  pub placement : PlacementModel
  -- the rights that no stream holds and no parcel carries
  pub pool : PoolModel
  -- the entries that publications have added to the published map, with their shards, the oldest first
  pub entries : List (ℕ × Entry)
  -- each shard's highest handover number, and the number of the next call
  pub numbers : List ℕ
  pub next_number : ℕ
  pub plans : List BegunModel
  pub journal : JournalModel
  -- how many places of the log are neither used nor set aside, and how many plans are unfinished
  pub free : ℕ
  pub running : ℕ
  pub halted : Bool

-- the plan of this number, of those that were begun
abbrev pub begun_at : List BegunModel → ℕ → BegunModel
begun_at plans k = slice_index_or plans k no_begun
