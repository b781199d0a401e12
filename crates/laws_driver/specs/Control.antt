-- The driver is the controller of the network's laws, and its commands are entries of that controller's journal.
use Rattle.std.specs.Prelude.{◌≡◌, ◌<◌, ℕ, ◌++◌, true, Option, Some, None, List, [], ◌∷◌, IsSome, length, map, reverse}
use Rattle.std.specs.Prelude.{slice_get}
use Rattle.std.specs.List.{range_with_len}
pub use Rattle.sm_plan_code.specs.Plan.{PlanModel}
use Rattle.sm_protocol.specs.Next.{next_call_of}
use Rattle.sm_protocol.specs.Laws.{FitsConfig}
pub use Rattle.laws_network.specs.Words.{StreamId, Begin}
pub use Rattle.laws_network.specs.Controller.{Answered, Controller, Ended, JournalEntry, Made, Opened, Restore}
pub use Rattle.laws_network.specs.Controller.{Restored, Stored, Approve, Order, Publication, Step, publication_of}
pub use Rattle.sm_driver.specs.Copies.{HasNotedCopies}
pub use Rattle.sm_driver.specs.Driver.{DriverModel, HasApproved, HasBegunPlan, HasEndedRestart, HasRestored}
pub use Rattle.sm_driver.specs.Driver.{HasTakenStep, base, is_due, record_of}
pub use Rattle.sm_driver.specs.Epochs.{HasOpenedEpoch, epoch_fault}
pub use Rattle.sm_driver.specs.Permits.{permit_of}
pub use Rattle.sm_driver.specs.Restores.{RestoreModel, restore_at}

-- The controller has given the restore that a server was told, with the cells of all shards.
pub record IsTold (d : DriverModel) (c : Controller) (told : RestoreModel) : Type 0 where
  pub place : ℕ
  pub given : Restore
  pub among : slice_get c.restores place ≡ Some given
  pub restoration : given.restoration
      ≡ record { journal = d.journal; fence = d.fence; number = told.number; nonce = told.nonce }
  pub cells : told.cells ≡ map given.cells (range_with_len 0 (record_of d).sizes.shards)

-- The driver is this controller: it has the same journal, fence, base, record and permits, one for each server at most;
-- and whatever a server was told last, the controller has given.
pub record IsControllerOf (d : DriverModel) (c : Controller) : Type 0 where
  pub journal : c.journal ≡ d.journal
  pub fence : c.fence ≡ d.fence
  pub base : c.base ≡ base d
  pub recorded : c.w ≡ record_of d
  pub servers : length d.permits ≡ (record_of d).sizes.servers
  pub permits : (v : ℕ) → c.permits v ≡ permit_of d.permits v
  pub restores : (v : ℕ) (told : RestoreModel) → restore_at d.restores v ≡ Some told → IsTold d c told

-- A command of the driver, with what it was given.
pub data Command : Type 0 where
  BeginPlan : (plan : PlanModel) → Command
  TakeAnswer : (stream : StreamId) (number : ℕ) → Command
  ApproveRestart : (server : ℕ) → Command
  EndRestart : (permit : ℕ) (server_base : Option ℕ) → Command
  RestoreServer : (server nonce : ℕ) → Command
  NoteCopies : (shard copies : ℕ) → Command
  OpenEpoch : Command

-- An entry for an answer that a stream waits for: the answer to an order of the stream with this number, if it stands
-- before a call; otherwise that to the publication that it stands before.
abbrev pub IsAnswerEntry : DriverModel → StreamId → ℕ → JournalEntry → Type 0
IsAnswerEntry d id number (Answered o) = (o.stream ≡ id) × (o.number ≡ number) × IsSome (next_call_of (record_of d) id)
IsAnswerEntry d id number (Stored p) = publication_of (base d) (record_of d) id ≡ Some p
IsAnswerEntry d id number _ = ⊥

-- local steps, as entries, the latest first
abbrev pub free_steps : List StreamId → List JournalEntry
free_steps ids = map (λ id. Made (Step id)) (reverse ids)

-- By its contract, a command makes one driver of another one; and these are its entries, the latest first: that of the
-- command, and behind it the local steps. Copies that are noted have none: the controller keeps nothing of them.
abbrev pub Writes : Command → DriverModel → DriverModel → List JournalEntry → Type 0
Writes (BeginPlan plan) old new es = (number : ℕ) × (begun : HasBegunPlan plan number old new)
    × (es ≡ free_steps begun.advanced.streams ++ Made (Begin plan) ∷ [])
Writes (TakeAnswer id number) old new es =
    (taken : HasTakenStep id old new) × (e : JournalEntry) × (is_due old id number ≡ true)
    × IsAnswerEntry old id number e × (es ≡ free_steps taken.advanced.streams ++ e ∷ [])
Writes (ApproveRestart v) old new es = (permit : ℕ) × HasApproved v permit old new × (es ≡ Made (Approve v) ∷ [])
Writes (EndRestart permit server_base) old new es = (v : ℕ) × HasEndedRestart v permit server_base old new
    × (es ≡ Ended v permit ∷ [])
Writes (RestoreServer v nonce) old new es = HasRestored v nonce old new × (es ≡ Restored v nonce ∷ [])
Writes (NoteCopies s copies) old new es = HasNotedCopies s copies old new × (es ≡ [])
Writes OpenEpoch old new es = HasOpenedEpoch old new × (epoch_fault old ≡ None)
    × (es ≡ Opened (record_of old).room ∷ [])

-- the command has some entries
abbrev pub IsWritten : Command → DriverModel → DriverModel → Type 0
IsWritten command old new = (es : List JournalEntry) × Writes command old new es

-- What the caller of a command has to know: the plan was checked for the driver's configuration, and the server or the
-- shard is one of it.
abbrev pub IsCallable : DriverModel → Command → Type 0
IsCallable d (BeginPlan plan) = FitsConfig (record_of d).sizes (Begin plan)
IsCallable d (ApproveRestart v) = FitsConfig (record_of d).sizes (Approve v)
IsCallable d (NoteCopies s copies) = s < (record_of d).sizes.shards
IsCallable d _ = Unit {0}
