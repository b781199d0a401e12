-- A journal that is opened anew keeps its names, its permits, and each server's latest restore.
-- `CarriesOver` is internal: you need not read it for the public contracts.
use Rattle.std.specs.Prelude.{◌≡◌}
use Rattle.smpland_state.specs.Restores.{latest_told, told_in_epoch}
use Rattle.smpland_state.specs.declared.journal_state.Carryover.{Carryover}
use Rattle.smpland_state.specs.declared.journal_state.JournalState.{JournalState}

-- Its names and its permits are kept as they are, and of each server the latest restore.
pub record CarriesOver (o : JournalState) (kept : Carryover) : Type 0 where
  pub plans : kept.plans ≡ o.plans
  pub approvals : kept.approvals ≡ o.approvals
  pub permits : kept.permits ≡ o.permits
  pub told : kept.told.items ≡ latest_told (told_in_epoch o.driver) o.told.items
