-- A driver, and what its commands make of what is recorded.
-- `IsDriving` and `HasLostNone` are internal: you need not read them for the public contracts.
use Rattle.std.specs.Prelude.{◌≡◌, ℕ, ◌+◌, ◌==◌, ◌||◌, Bool, false, true, List, Option, Some, None, length, nat_lt}
use Rattle.std.specs.Prelude.{slice_set, ◌&&◌, if◌then◌else◌}
use Rattle.sm_reservation.specs.declared.stream_id.StreamId.{StreamId}
use Rattle.sm_plan_code.specs.Plan.{PlanModel}
use Rattle.sm_protocol.specs.declared.event.Played.TheVariants as played
use Rattle.sm_protocol.specs.State.{State, is_begun, progress_of}
use Rattle.sm_protocol.specs.Steps.{Answered}
use Rattle.sm_protocol.specs.Laws.{HasLost}
use Rattle.sm_protocol.specs.Happens.{Approve, Begin, Done, Step, engaged, happens}
use Rattle.sm_machine.specs.Machine.{MachineModel}
use Rattle.sm_machine.specs.State.{state_of}
use Rattle.sm_driver.specs.Advance.{IsAdvanced, next_free}
use Rattle.sm_driver.specs.Carried.{AreCarriedDown}
use Rattle.sm_driver.specs.Orders.{awaits, epoch_base, number_above}
use Rattle.sm_driver.specs.Permits.{AreGivenPermits, ArePermitsOfDown, is_settled, server_permitted}
use Rattle.sm_driver.specs.declared.driver.AnswerEffect.{AnswerEffect}
use Rattle.sm_driver.specs.declared.driver.AnswerEffect.TheVariants as answer
use Rattle.sm_driver.specs.declared.restart.RestartEffect.{RestartEffect}
use Rattle.sm_driver.specs.declared.restart.RestartEffect.TheVariants.{Old, Unsettled, Up}
use Rattle.sm_driver.specs.Restores.{RestoreModel, restore_now}

-- A driver, as contracts see it: a machine, whose state is what is recorded, the journal that it belongs to, and its
-- epoch there.
pub record DriverModel : Type 0 where
  pub machine : MachineModel
  pub journal : ℕ
  pub epoch : ℕ
  -- the base of the journal's last reopening, 0 before any
  pub fence : ℕ
  -- by the servers' numbers: of each that is down the permit of its restart, and whether a reopening carried it over;
  -- what each was told last after it had lost all it had
  pub permits : List (Option ℕ)
  pub carried : List Bool
  pub restores : List (Option RestoreModel)
  -- by the shards' numbers: on how many replicas each acknowledged write is, as far as it was told
  pub copies : List ℕ

-- what is recorded
abbrev pub record_of : DriverModel → State
record_of d = state_of d.machine

-- the number above which all numbers of the driver are
abbrev pub base : DriverModel → ℕ
base d = epoch_base d.epoch

-- the number of the order, or of the publication, that a stream stands before
abbrev pub order_number : DriverModel → StreamId → ℕ
order_number d id = number_above (base d) (record_of d) id

-- the stream stands before a call or an entry of the published map, so that its next step waits for an answer
abbrev pub awaits_answer : DriverModel → StreamId → Bool
awaits_answer d id = awaits (record_of d) id

-- an answer is the one that the stream waits for
abbrev pub is_due : DriverModel → StreamId → ℕ → Bool
is_due d id number = awaits_answer d id && (number == order_number d id)

-- an answer is one of a stream that has gone on since
abbrev pub is_past : DriverModel → StreamId → ℕ → Bool
is_past d id number = is_begun (record_of d) id && ((progress_of (record_of d) id).done || nat_lt number (order_number d id))

-- what an answer comes to: a stream that waits for it makes its step; otherwise it is old if its stream has gone on
-- since, and else unknown
abbrev pub answer_effect : DriverModel → StreamId → ℕ → AnswerEffect
answer_effect d id number = if is_due d id number then answer.Moved else if is_past d id number then answer.Old else answer.Unknown

-- journal, epoch, fence, configuration, carried servers, restores and copies stay
pub record IsOfJournal (old new : DriverModel) : Type 0 where
  pub journal : new.journal ≡ old.journal
  pub epoch : new.epoch ≡ old.epoch
  pub fence : new.fence ≡ old.fence
  pub setup : new.machine.placement.setup ≡ old.machine.placement.setup
  pub carried : new.carried ≡ old.carried
  pub restores : new.restores ≡ old.restores
  pub copies : new.copies ≡ old.copies

-- no call was lost: each that is recorded was answered
abbrev pub HasLostNone : State → Type 0
HasLostNone w = (id : StreamId) → ¬ HasLost w id

-- The facts that hold of every driver whose log has this many places: no stream stands before a local step, no call was
-- lost, the permits are those of the servers that are down, no two alike, and carried servers are down.
pub record IsDriving (places : ℕ) (d : DriverModel) : Type 0 where
  pub free : next_free (record_of d) ≡ None
  pub unlost : HasLostNone (record_of d)
  pub permits : ArePermitsOfDown (record_of d) d.permits
  pub given : AreGivenPermits (base d) (length (record_of d).log) d.permits
  pub carried : AreCarriedDown (record_of d) d.carried
  pub restores : length d.restores ≡ (record_of d).sizes.servers
  pub copies : length d.copies ≡ (record_of d).sizes.shards
  pub room : (record_of d).room ≡ places

-- The plan begins under this number, and every local step is made.
pub record HasBegunPlan (plan : PlanModel) (number : ℕ) (old new : DriverModel) : Type 0 where
  pub between : State
  pub begun : happens (record_of old) (Begin plan) ≡ (Answered (played.Begun number), between)
  pub advanced : IsAdvanced between (record_of new)
  pub permits : new.permits ≡ old.permits
  pub journal : IsOfJournal old new

-- The stream makes the step whose answer has come, for which it always has a try and the log a place, and every local
-- step is made.
pub record HasTakenStep (id : StreamId) (old new : DriverModel) : Type 0 where
  pub between : State
  pub step : happens (record_of old) (Step id) ≡ (Answered played.Moved, between)
  pub advanced : IsAdvanced between (record_of new)
  pub permits : new.permits ≡ old.permits
  pub journal : IsOfJournal old new

-- The restart of a server is approved, under the number of the approval in the log, above the base.
pub record HasApproved (v permit : ℕ) (old new : DriverModel) : Type 0 where
  pub event : happens (record_of old) (Approve v) ≡ (Answered played.Approved, record_of new)
  pub number : permit ≡ base old + length (record_of old).log + 1
  pub permits : new.permits ≡ slice_set old.permits v (Some permit)
  pub journal : IsOfJournal old new

-- The restart of a settled server has ended by its permit, which is gone. The server is no longer carried over.
pub record HasEndedRestart (v permit : ℕ) (server_base : Option ℕ) (old new : DriverModel) : Type 0 where
  pub permitted : server_permitted old.permits permit ≡ Some v
  pub settled : is_settled old.fence server_base ≡ true
  pub event : happens (record_of old) (Done v) ≡ (Answered played.Up, record_of new)
  pub permits : new.permits ≡ slice_set old.permits v None
  pub journal : IsOfJournal (record old { carried = slice_set old.carried v false }) new

-- The outcome of the end of a restart: the server's restart has ended, or all is as it was.
abbrev pub HasCome : RestartEffect → ℕ → Option ℕ → DriverModel → DriverModel → Type 0
HasCome (Up v) permit server_base old new = HasEndedRestart v permit server_base old new
HasCome (Unsettled v) permit server_base old new = new ≡ old
HasCome Old permit server_base old new = new ≡ old

-- A server is told its cells that no unfinished stream names. Whether it takes them is not known.
pub record HasRestored (v nonce : ℕ) (old new : DriverModel) : Type 0 where
  pub disengaged : engaged (record_of old) v ≡ None
  pub told : new ≡ record old { restores = slice_set old.restores v (Some (restore_now (base old) (record_of old) v nonce)) }
