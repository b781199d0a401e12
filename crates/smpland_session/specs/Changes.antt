-- The effects on a driver of the commands that change something.
use Rattle.std.specs.Prelude.{◌≡◌, ◌<◌, ◌⊎◌, ◌+◌, ◌-◌, ◌^◌, ℕ, Bool, true, false, List, [], Option, Some, None, length}
use Rattle.std.specs.Prelude.{min, option_map}
use Rattle.sm_reservation.specs.declared.stream_id.StreamId.{StreamId}
use Rattle.sm_placement.specs.Setup.{Setup, Sizes}
use Rattle.sm_placement.specs.Config.{setup_of}
use Rattle.sm_placement.specs.Opening.{opened_place}
use Rattle.sm_placement.specs.Place.{Place}
use Rattle.sm_placement.specs.Lead.{IsSettled}
use Rattle.sm_plan_code.specs.Plan.{PlanModel}
use Rattle.sm_verifier.specs.Plan.{IsCheckedPlan}
use Rattle.sm_protocol.specs.Laws.{IsReached}
use Rattle.sm_protocol.specs.State.{opened}
use Rattle.sm_driver.specs.Copies.{HasNotedCopies, copies_effect, kept_copies}
use Rattle.sm_driver.specs.Driver.{DriverModel, HasApproved, HasBegunPlan, HasEndedRestart, HasRestored, HasTakenStep}
use Rattle.sm_driver.specs.Driver.{is_due, record_of}
use Rattle.sm_driver.specs.Epochs.{HasOpenedEpoch, epoch_fault}
use Rattle.sm_driver.specs.declared.copies.CopiesEffect.TheVariants.{Noted}
use Rattle.sm_driver.specs.declared.copies.ToldCopies.{ToldCopies}
use Rattle.smpland_state.specs.declared.journal_state.JournalState.{JournalState}
use Rattle.laws_network.specs.Reopening.{Reopening, Settlement}
use Rattle.laws_network.specs.ReopeningLaws.{AllTook, no_reopening}
use Rattle.sm_reopening.specs.Ongoing.{net_reopening, recorded_place, recorded_setup}
use Rattle.smpland_reopening.specs.Begun.{BeginsUnder, HasRecorded, NumbersUnder}
use Rattle.smpland_reopening.specs.InForce.{IsInForce, IsOpenedFrom}
use Rattle.smpland_reopening.specs.Kept.{kept_on}
use Rattle.smpland_reopening.specs.Reopening.{ReopeningModel}
use Rattle.smpland_reopening_lines.specs.Taken.{TakesConfirm, TakesSettled, TakesTold}
use Rattle.smpland_session.specs.declared.under_way.UnderWay.{UnderWay}
use Rattle.smpland_session.specs.declared.session.Session.{Session}

-- the driver of a journal that is open
abbrev pub driver_of : Option JournalState → Option DriverModel
driver_of = option_map (λ (o : JournalState). o.driver)

-- the driver was opened over a settled placement, and its machine is one of which all laws of the protocol hold
abbrev pub HasOpened : DriverModel → Type 0
HasOpened new =
    (c : Sizes) × (p : Place) × (log : ℕ) × IsSettled c p × (record_of new ≡ opened c p log)
    × IsReached new.machine.placement.setup (record_of new)

-- a checked plan has begun
abbrev pub BeginsPlan : DriverModel → DriverModel → Type 0
BeginsPlan old new = (plan : PlanModel) × (number : ℕ) × IsCheckedPlan (record_of old).sizes plan
    × HasBegunPlan plan number old new

-- a stream has made the step whose answer it waited for
abbrev pub TakesAnswer : DriverModel → DriverModel → Type 0
TakesAnswer old new = (id : StreamId) × (number : ℕ) × (is_due old id number ≡ true) × HasTakenStep id old new

-- the restart of a known server was approved
abbrev pub ApprovesRestart : DriverModel → DriverModel → Type 0
ApprovesRestart old new = (server : ℕ) × (permit : ℕ) × (server < (record_of old).sizes.servers)
    × HasApproved server permit old new

-- a restart has ended by this permit, of a server with this base
abbrev pub EndsRestart : ℕ → Option ℕ → DriverModel → DriverModel → Type 0
EndsRestart permit base old new = (server : ℕ) × HasEndedRestart server permit base old new

-- a server was restored
abbrev pub RestoresServer : DriverModel → DriverModel → Type 0
RestoresServer old new = (server : ℕ) × (nonce : ℕ) × HasRestored server nonce old new

-- The copies that a line tells were noted of a known shard. The line is of this journal and its last reopening, and
-- tells more than was noted before, but no more than the shard wants.
abbrev pub NotesTold : ℕ → ToldCopies → DriverModel → DriverModel → Type 0
NotesTold shard told old new =
    (shard < (record_of old).sizes.shards) × (copies_effect old shard told ≡ Noted)
    × HasNotedCopies shard told.copies old new

-- copies were noted of a shard
abbrev pub NotesCopies : DriverModel → DriverModel → Type 0
NotesCopies old new = (shard : ℕ) × (told : ToldCopies) × NotesTold shard told old new

-- the next epoch has opened, which nothing was against
abbrev pub OpensNext : DriverModel → DriverModel → Type 0
OpensNext old new = (epoch_fault old ≡ None) × HasOpenedEpoch old new

-- The effect of a command on the driver of an open journal.
pub data Changes (old new : DriverModel) : Type 0 where
  Begins : BeginsPlan old new → Changes old new
  Takes : TakesAnswer old new → Changes old new
  Approves : ApprovesRestart old new → Changes old new
  Ends : (permit : ℕ) (base : Option ℕ) → EndsRestart permit base old new → Changes old new
  Restores : RestoresServer old new → Changes old new
  Notes : NotesCopies old new → Changes old new
  OpensEpoch : OpensNext old new → Changes old new

-- what a command that changed something made of the driver
abbrev pub HasDriven : Option DriverModel → Option DriverModel → Type 0
HasDriven None (Some new) = HasOpened new
HasDriven (Some old) (Some new) = Changes old new
HasDriven old None = ⊥

-- ---- reopenings

-- the reopening that is under way
abbrev pub reopening_under_way : Option UnderWay → Option ReopeningModel
reopening_under_way = option_map (λ (u : UnderWay). u.reopening)

-- a reopening has begun under a document, over what had numbers, without the servers that are lost
abbrev pub IsBegunOver : Reopening → Setup → List (List ℕ) → ReopeningModel → Type 0
IsBegunOver before numbered lost r = BeginsUnder before numbered r.document.config r.numbering lost r.epoch r.ongoing

-- it is of this journal, in the epoch behind this one, over this recorded placement and with these permits of servers
-- that are down
pub record KeepsRecord (journal epoch : ℕ) (place : Place) (permits : List (Option ℕ)) (r : ReopeningModel) : Type 0 where
  pub same_journal : r.journal ≡ journal
  pub next : r.epoch ≡ epoch + 1
  pub same_place : recorded_place r.ongoing ≡ place
  pub same_permits : r.permits ≡ permits

-- It numbers what had numbers, over this recorded setup and placement, and nothing is told or confirmed yet.
pub record BeginsFresh (numbered setup : Setup) (place : Place) (r : ReopeningModel) : Type 0 where
  pub numbers : NumbersUnder numbered r
  pub recorded : HasRecorded setup place (length r.numbering.shards) r.ongoing
  pub unconfirmed : r.next ≡ None

-- a reopening has begun over what a driver has recorded
pub record BeginsOver (lost : List (List ℕ)) (d : DriverModel) (new : ReopeningModel) : Type 0 where
  pub under : IsBegunOver (no_reopening (length d.machine.placement.setup.servers)) d.machine.placement.setup lost new
  pub record_is : KeepsRecord d.journal d.epoch (record_of d).place d.permits new
  pub kept : new.kept ≡ kept_copies d
  pub fresh : BeginsFresh d.machine.placement.setup d.machine.placement.setup (record_of d).place new

-- a reopening has begun in place of another
pub record Replaces (lost : List (List ℕ)) (before new : ReopeningModel) : Type 0 where
  pub under : IsBegunOver (net_reopening before.ongoing) before.numbering lost new
  pub record_is : KeepsRecord before.journal before.epoch (recorded_place before.ongoing) before.permits new
  pub kept : new.kept ≡ kept_on before
  pub fresh : BeginsFresh before.numbering (recorded_setup before.ongoing) (recorded_place before.ongoing) new

-- a reopening has begun over nothing that is recorded
pub record BeginsAnew (lost : List (List ℕ)) (new : ReopeningModel) : Type 0 where
  pub under : IsBegunOver (no_reopening 0) (setup_of [] []) lost new
  pub permits : new.permits ≡ []
  pub kept : new.kept ≡ []
  pub fresh : BeginsFresh (setup_of [] []) (setup_of [] []) (opened_place (record { cells = []; listed = []; down = []; limit = 0 })) new

-- a reopening has begun without these servers: in place of the one under way, over what the driver has recorded, or
-- over nothing
abbrev pub BeginsReopening : List (List ℕ) → Option DriverModel → Option ReopeningModel → Option ReopeningModel → Type 0
BeginsReopening lost driver (Some before) (Some new) = Replaces lost before new
BeginsReopening lost (Some d) None (Some new) = BeginsOver lost d new
BeginsReopening lost None None (Some new) = BeginsAnew lost new
BeginsReopening lost driver before None = ⊥

-- a line has begun a reopening without these servers
abbrev pub ReopensWithout : List (List ℕ) → Option JournalState → Option UnderWay → Option UnderWay → Type 0
ReopensWithout lost opened old new = BeginsReopening lost (driver_of opened) (reopening_under_way old) (reopening_under_way new)

-- a line has begun a reopening
abbrev pub HasReopened : Option JournalState → Option UnderWay → Option UnderWay → Type 0
HasReopened opened old new = (lost : List (List ℕ)) × ReopensWithout lost opened old new

-- the reopening under way has taken an answer, or was confirmed
abbrev pub ReopeningGoesOn : Option ReopeningModel → Option ReopeningModel → Type 0
ReopeningGoesOn (Some old) (Some new) = TakesTold old new ⊎ (TakesConfirm old new ⊎ TakesSettled old new)
ReopeningGoesOn old new = ⊥

-- a line has told or confirmed something of the reopening under way
abbrev pub HasGoneOn : Option UnderWay → Option UnderWay → Type 0
HasGoneOn old new = ReopeningGoesOn (reopening_under_way old) (reopening_under_way new)

-- what was settled is in force
abbrev pub OpensOf : ReopeningModel → Option JournalState → Type 0
OpensOf r (Some o) = (s : Settlement) → (net_reopening r.ongoing).settlement ≡ Some s → IsInForce r s o.driver
OpensOf r None = ⊥

-- it came of what the reopening had kept
abbrev pub OpensFrom : ReopeningModel → Option JournalState → Type 0
OpensFrom r (Some o) = IsOpenedFrom r o.driver
OpensFrom r None = ⊥

-- this became of the reopening under way
abbrev pub BecomesLast : (ReopeningModel → ReopeningModel → Type 0) → Option ReopeningModel → ReopeningModel → Type 0
BecomesLast P (Some r) last = P r last
BecomesLast P None last = ⊥

-- the last party has taken its settle, so all have, and the settlement is in force
abbrev pub ComesInForceBy : (ReopeningModel → ReopeningModel → Type 0) → Option UnderWay → Option UnderWay
    → Option JournalState → Type 0
ComesInForceBy P under after new =
    (last : ReopeningModel) × BecomesLast P (reopening_under_way under) last × AllTook (net_reopening last.ongoing)
    × (after ≡ None) × OpensOf last new
    × OpensFrom last new

-- the same, whichever party it is
abbrev pub ComesInForce : Option UnderWay → Option UnderWay → Option JournalState → Type 0
ComesInForce = ComesInForceBy TakesSettled

-- The effect of a command that changed something on the open journal, and on the reopening under way. While one is
-- under way the driver stays as it is.
pub data HasChanged (opened : Option JournalState) (under : Option UnderWay) (new : Option JournalState) (after : Option UnderWay) : Type 0 where
  Drives : under ≡ None → after ≡ None → HasDriven (driver_of opened) (driver_of new)
      → HasChanged opened under new after
  Reopens : new ≡ opened → HasReopened opened under after → HasChanged opened under new after
  Follows : new ≡ opened → HasGoneOn under after → HasChanged opened under new after
  Opens : ComesInForce under after new → HasChanged opened under new after

-- the number of commands that have changed something, after one that has, or has not; it ends at 2^64 - 1
abbrev pub count_after : Bool → ℕ → ℕ
count_after true place = min (place + 1) (2 ^ 64 - 1)
count_after false place = place

-- nothing is open or under way in a session, and no line has changed anything
abbrev pub IsNew : Session → Type 0
IsNew s = (s.opened ≡ None) × (s.under_way ≡ None) × (s.place ≡ 0)

-- what a line that changed something made of a session
abbrev pub SessionChanges : Session → Session → Type 0
SessionChanges old new = HasChanged old.opened old.under_way new.opened new.under_way
