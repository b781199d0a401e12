-- The effect of a line on a session, as its command asks for it.
use Rattle.std.specs.Prelude.{◌≡◌, ◌<◌, ◌⊎◌, ℕ, Bool, true, false, List, [], ◌∷◌, Option, Some, None, Ok, length}
use Rattle.std.specs.Prelude.{option_map, replicate}
use Rattle.std.specs.List.{flat_map}
use Rattle.std.specs.Option.{option_map_or}
use Rattle.std.specs.Borrow.{Bor}
use Rattle.serde_json.specs.Data.{Data}
use Rattle.serde_json.specs.Find.{as_str}
use Rattle.json_tree.specs.View.{view}
use Rattle.json_tree.specs.declared.tree.Tree.{Tree}
use Rattle.sm_placement.specs.Opening.{opened_place}
use Rattle.sm_placement.specs.Setup.{Setup, names_of_servers, names_of_shards, server_named, shard_named, sizes_of}
use Rattle.sm_reservation.specs.declared.stream_id.StreamId.{StreamId}
use Rattle.sm_plan_code.specs.Plan.{PlanModel}
use Rattle.sm_verifier.specs.Plan.{IsCheckedPlan}
use Rattle.sm_plan_text.specs.Documents.{DocumentModel}
use Rattle.sm_plan_text.specs.Opened.{opening_of}
use Rattle.sm_plan_text.specs.Reading.{data_of, read_data, read_plan_data, rows_of}
use Rattle.sm_protocol.specs.State.{opened}
use Rattle.sm_driver.specs.Driver.{DriverModel, HasApproved, HasBegunPlan, HasRestored, HasTakenStep, base, is_due}
use Rattle.sm_driver.specs.Driver.{record_of}
use Rattle.sm_driver.specs.Permits.{opening_permits}
use Rattle.sm_driver.specs.declared.copies.ToldCopies.{ToldCopies}
use Rattle.smpland_lines.specs.Commands.{IsKnownCommand}
use Rattle.smpland_lines.specs.Lines.{Says}
use Rattle.smpland_lines.specs.declared.command.LineCommand.{LineCommand}
use Rattle.smpland_lines.specs.declared.command.LineCommand.TheVariants as line
use Rattle.smpland_lines.specs.declared.command.DriverCommand.{DriverCommand}
use Rattle.smpland_lines.specs.declared.command.DriverCommand.TheVariants as driver
use Rattle.smpland_lines.specs.declared.command.ReopeningCommand.TheVariants as reopening
use Rattle.smpland_state.specs.declared.journal_state.JournalState.{JournalState}
use Rattle.laws_network.specs.ReopeningLaws.{AllTook}
use Rattle.sm_reopening.specs.Ongoing.{net_reopening}
use Rattle.smpland_reopening.specs.Reopening.{ReopeningModel}
use Rattle.smpland_reopening_lines.specs.Taken.{ConfirmsAt, TakesFenced, TakesSettledBy}
use Rattle.smpland_state.specs.Known.{unknown_called}
use Rattle.smpland_session.specs.Changes.{ComesInForceBy, EndsRestart, NotesTold, OpensNext, ReopensWithout}
use Rattle.smpland_session.specs.declared.under_way.UnderWay.{UnderWay}
use Rattle.smpland_session.specs.declared.session.Session.{Session}

-- the plan that a value says over the names of servers and shards
abbrev pub SaysPlan : Setup → Data → PlanModel → Type 0
SaysPlan setup value plan = read_plan_data (names_of_shards setup) (names_of_servers setup) (Some value) ≡ Ok plan

-- the plan of a value, which was checked, and calls no server that is not known, has begun
abbrev pub BeginsPlanOf : Data → DriverModel → DriverModel → Type 0
BeginsPlanOf value old new =
    (plan : PlanModel) × (number : ℕ) × SaysPlan old.machine.placement.setup value plan
    × IsCheckedPlan (record_of old).sizes plan
    × (unknown_called old plan ≡ None) × HasBegunPlan plan number old new

-- this stream has made the step whose answer came under this number
abbrev pub TakesAnswerOf : StreamId → ℕ → DriverModel → DriverModel → Type 0
TakesAnswerOf id number old new = (is_due old id number ≡ true) × HasTakenStep id old new

-- the restart of the server with this name was approved
abbrev pub ApprovesRestartOf : List ℕ → DriverModel → DriverModel → Type 0
ApprovesRestartOf name old new =
    (server : ℕ) × (permit : ℕ) × (server_named old.machine.placement.setup name ≡ Some server)
    × (server < (record_of old).sizes.servers)
    × HasApproved server permit old new

-- the server with this name was restored under this nonce
abbrev pub RestoresServerOf : List ℕ → ℕ → DriverModel → DriverModel → Type 0
RestoresServerOf name nonce old new =
    (server : ℕ) × (server_named old.machine.placement.setup name ≡ Some server) × HasRestored server nonce old new

-- these copies of the shard with this name were noted
abbrev pub NotesCopiesOf : List ℕ → ToldCopies → DriverModel → DriverModel → Type 0
NotesCopiesOf name told old new = (shard : ℕ) × (shard_named old.machine.placement.setup name ≡ Some shard)
    × NotesTold shard told old new

-- the effect of a command on the driver of an open journal
abbrev pub DoesToDriver : DriverCommand → DriverModel → DriverModel → Type 0
DoesToDriver (driver.Begin plan _) old new = BeginsPlanOf (view plan.now) old new
DoesToDriver (driver.Answered plan stream number) old new = TakesAnswerOf (record { plan = plan; stream = stream }) number old new
DoesToDriver (driver.Approve server _) old new = ApprovesRestartOf server.now old new
DoesToDriver (driver.Restarted permit base) old new = EndsRestart permit base old new
DoesToDriver (driver.Restore server nonce) old new = RestoresServerOf server.now nonce old new
DoesToDriver driver.NewEpoch old new = OpensNext old new
DoesToDriver (driver.Copied shard journal fence copies) old new =
    NotesCopiesOf shard.now (record { journal = journal; fence = fence; copies = copies }) old new

-- A driver has just opened the first epoch of a journal: nothing fences it, each server that is down has a new permit,
-- none was carried over or restored, and no copies of a shard were told.
pub record IsFirstOpened (servers shards : ℕ) (down : ℕ → Bool) (d : DriverModel) : Type 0 where
  pub fence : d.fence ≡ 0
  pub permits : d.permits ≡ opening_permits (base d) [] servers down
  pub carried : d.carried ≡ replicate servers false
  pub restores : d.restores ≡ replicate servers None
  pub copies : d.copies ≡ replicate shards 1

-- a driver is open over the document that a value says, in the first epoch of a journal
abbrev pub IsOpenedBy : Data → ℕ → ℕ → DriverModel → Type 0
IsOpenedBy value journal epoch d =
    (document : DocumentModel) × (read_data (Some value) ≡ Ok document)
    × (d.machine.placement.setup ≡ document.setup)
    × (record_of d ≡ opened (sizes_of document.setup) (opened_place (opening_of document)) document.log)
    × (d.journal ≡ journal) × (d.epoch ≡ epoch)
    × IsFirstOpened (length document.setup.servers) (length document.setup.shards) (opened_place (opening_of document)).down d

-- none was open, and now this one is
abbrev pub OpensOver : Data → ℕ → ℕ → Option JournalState → Option JournalState → Type 0
OpensOver value journal epoch None (Some new) = IsOpenedBy value journal epoch new.driver
OpensOver value journal epoch old new = ⊥

-- the journal that is open stays so, and this became of its driver
abbrev pub StaysOpen : (DriverModel → DriverModel → Type 0) → Option JournalState → Option JournalState → Type 0
StaysOpen P (Some old) (Some new) = P old.driver new.driver
StaysOpen P old new = ⊥

-- the reopening that is under way stays so, and this became of it
abbrev pub StaysUnderWay : (ReopeningModel → ReopeningModel → Type 0) → Option UnderWay → Option UnderWay → Type 0
StaysUnderWay P (Some old) (Some new) = P old.reopening new.reopening
StaysUnderWay P old new = ⊥

-- it stays so, and not all parties have taken their settles
abbrev pub WaitsUnderWay : (ReopeningModel → ReopeningModel → Type 0) → Option UnderWay → Option UnderWay → Type 0
WaitsUnderWay P = StaysUnderWay (λ old new. P old new × (AllTook (net_reopening new.ongoing) → ⊥))

-- the texts among values
abbrev pub texts_among : List Tree → List (List ℕ)
texts_among values = flat_map (λ value. option_map_or (λ text. text ∷ []) (as_str (view value)) []) values

-- the reopening under way is under the document that a value says
abbrev pub IsUnderDocument : Data → Option UnderWay → Type 0
IsUnderDocument value (Some u) = read_data (Some value) ≡ Ok (rows_of u.reopening.document)
IsUnderDocument value None = ⊥

-- a reopening over nothing opens this epoch of this journal
abbrev pub OpensAsNamed : Option ℕ → Option ℕ → Option JournalState → Option UnderWay → Option UnderWay → Type 0
OpensAsNamed journal epoch None None (Some u) = (journal ≡ Some u.reopening.journal) × (epoch ≡ Some u.reopening.epoch)
OpensAsNamed journal epoch opened under after = Unit {0}

-- The effect of a command that changed something. A command of a reopening begins one. Otherwise the one under way
-- takes an answer to a fence, a confirmation or an answer to a settle. With the last such answer it comes in force.
abbrev pub Does : LineCommand → Option JournalState → Option UnderWay → Option JournalState → Option UnderWay → Type 0
Does (line.Open document journal epoch) opened under new after = OpensOver (view document.now) journal epoch opened new
Does (line.Reopening (reopening.Reopen document lost journal epoch)) opened under new after =
    ReopensWithout (texts_among lost.now) opened under after × IsUnderDocument (view document.now) after
    × OpensAsNamed journal epoch opened under after
    × (new ≡ opened)
Does (line.Reopening (reopening.Fenced server base told)) opened under new after = StaysUnderWay (TakesFenced server base told) under after × (new ≡ opened)
Does (line.Reopening (reopening.Confirm base cells lost)) opened under new after =
    StaysUnderWay (ConfirmsAt base cells.now lost.now) under after × (new ≡ opened)
Does (line.Reopening (reopening.Settled server base)) opened under new after =
    (WaitsUnderWay (TakesSettledBy server base) under after × (new ≡ opened))
    ⊎ ComesInForceBy (TakesSettledBy server base) under after new
Does (line.Driver command) opened under new after = StaysOpen (DoesToDriver command) opened new
Does (line.Question question) opened under new after = ⊥

-- the effect of a command on a session
abbrev pub DoesToSession : LineCommand → Session → Session → Type 0
DoesToSession command old new = Does command old.opened old.under_way new.opened new.under_way

-- the servers and shards of the document in force, if there is one
abbrev pub setup_in_force : Session → Option Setup
setup_in_force s = option_map (λ (o : JournalState). o.driver.machine.placement.setup) s.opened

-- a command is known over these servers and shards, or over any if there are none
abbrev pub IsKnownOver : Option Setup → LineCommand → Type 0
IsKnownOver setup command = (config : Option (Bor Setup)) × (option_map (λ (c : Bor Setup). c.now) config ≡ setup)
    × IsKnownCommand config command

-- a value says a command that is known, and the session has done it
abbrev pub DoesAsTold : Data → Session → Session → Type 0
DoesAsTold value old new =
    (command : LineCommand) × Says value command × IsKnownOver (setup_in_force old) command
    × DoesToSession command old new

-- so does the JSON value of a line
abbrev pub DoesAsSaid : List ℕ → Session → Session → Type 0
DoesAsSaid text old new = (value : Data) × (data_of text ≡ Some value) × DoesAsTold value old new
