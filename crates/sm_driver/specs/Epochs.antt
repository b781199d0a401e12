-- The next epoch: it opens over the placement as it is recorded, once all plans are finished.
-- `fault_by` is a step on the way to `epoch_fault`.
use Rattle.std.specs.Prelude.{◌≡◌, ℕ, ◌+◌, ◌==◌, Bool, true, false, Option, Some, None, nat_le, slice_get}
use Rattle.std.specs.Prelude.{if◌then◌else◌}
use Rattle.sm_placement.specs.Sums.{first_from}
use Rattle.sm_plan_code.specs.declared.limits.TheConstants.{MOST_PLACES}
use Rattle.sm_protocol.specs.Next.{unfinished_plans}
use Rattle.sm_protocol.specs.State.{State, opened}
use Rattle.sm_driver.specs.declared.epoch.EpochFault.{EpochFault}
use Rattle.sm_driver.specs.declared.epoch.EpochFault.TheVariants.{NotAtRest, LastEpoch, VersionsSpent}
use Rattle.sm_driver.specs.Driver.{DriverModel, record_of}

-- the number of the last epoch
abbrev pub last_epoch : ℕ
last_epoch = 4294967295

-- the lowest shard whose version a full log of the next epoch might take up to the base of the epoch behind it
abbrev pub shard_spent : State → Option ℕ
shard_spent w = first_from 0 w.sizes.shards (λ s. if nat_le MOST_PLACES (w.place.version s) then Some s else None)

-- by the lowest unfinished plan, whether the epoch is the last, and that shard
abbrev pub fault_by : Option ℕ → Bool → Option ℕ → Option EpochFault
fault_by (Some plan) last spent = Some (NotAtRest plan)
fault_by None true spent = Some LastEpoch
fault_by None false (Some shard) = Some (VersionsSpent shard)
fault_by None false None = None

-- why no epoch follows this one now, None if one does
abbrev pub epoch_fault : DriverModel → Option EpochFault
epoch_fault d = fault_by (slice_get (unfinished_plans (record_of d)) 0) (d.epoch == last_epoch) (shard_spent (record_of d))

-- The next epoch has opened, with an empty log of the same room. Everything else stays.
pub record HasOpenedEpoch (old new : DriverModel) : Type 0 where
  pub state : record_of new ≡ opened (record_of old).sizes (record_of old).place (record_of old).room
  pub epoch : new.epoch ≡ old.epoch + 1
  pub journal : new.journal ≡ old.journal
  pub fence : new.fence ≡ old.fence
  pub setup : new.machine.placement.setup ≡ old.machine.placement.setup
  pub permits : new.permits ≡ old.permits
  pub carried : new.carried ≡ old.carried
  pub restores : new.restores ≡ old.restores
  pub copies : new.copies ≡ old.copies
