-- A line that changes something is a command of the driver, whose entries tell the truth if the line does.
use Rattle.std.proofs.Common.{◌≡◌, ◌∷◌, ◌++◌, [], ℕ, Option, Some, None, List, refl, sym, subst, inl, inr}
use Rattle.std.specs.Prelude.{IsSome, map, reverse}
use Rattle.std.specs.List.{AllByRecursion}
use Rattle.sm_reservation.specs.declared.stream_id.StreamId.{StreamId}
use Rattle.serde_json.specs.Data.{Data}
use Rattle.sm_plan_text.specs.Reading.{data_of}
use Rattle.sm_protocol.specs.Happens.{Step}
use Rattle.sm_protocol.specs.Laws.{ServerCall}
use Rattle.sm_protocol.specs.Next.{next_call_of}
use Rattle.laws_network.specs.Words.{Begin}
use Rattle.laws_network.specs.Controller.{Answered, Approve, Ended, JournalEntry, Made, Opened as EpochOpened, Restored, Stored}
use Rattle.laws_network.specs.Fleet.{Fleet}
use Rattle.sm_driver.specs.Driver.{DriverModel, record_of}
use Rattle.laws_driver.specs.Control.{ApproveRestart, BeginPlan, Command, EndRestart, IsCallable, IsWritten, NoteCopies, OpenEpoch, RestoreServer, TakeAnswer, free_steps}
use Rattle.laws_driver.specs.ControlLaws.{AnswersHaveEntries}
use Rattle.laws_driver.specs.Driven.{Driven, Takes, TellsTruth, TurnFits}
use Rattle.smpland_lines.specs.Lines.{Says}
use Rattle.smpland_lines.specs.declared.command.DriverCommand.{DriverCommand}
use Rattle.smpland_lines.specs.declared.command.DriverCommand.TheVariants as driver
use Rattle.smpland_lines.specs.declared.command.LineCommand.{LineCommand}
use Rattle.smpland_lines.specs.declared.command.LineCommand.TheVariants as line
use Rattle.smpland_lines.specs.declared.command.ReopeningCommand.TheVariants as reopening
use Rattle.smpland_state.specs.declared.journal_state.JournalState.{JournalState}
use Rattle.smpland_session.specs.Asked.{Does, DoesAsSaid, DoesToDriver, StaysOpen}
use Rattle.smpland_session.specs.Changes.{driver_of}
use Rattle.smpland_session.specs.declared.session.Session.{Session}
use Rattle.laws_run.specs.RunLaws.{LinesGoOn}
use Rattle.laws_run.specs.Runs.{Run}
use Rattle.laws_run.specs.Truth.{AnswerIsGiven, CommandIsTrue, SaysCommand}

-- A line is a command of a driver, by which the journal that is open has this driver.
pub record IsCommandLine (text : List ℕ) (d : DriverModel) (new : Option JournalState) : Type 0 where
  pub command : Command
  pub driver : DriverModel
  pub after : driver_of new ≡ Some driver
  pub says : SaysCommand d.machine.placement.setup text command
  pub callable : IsCallable d command
  pub written : IsWritten command d driver

module _ (answers : AnswersHaveEntries) (text : List ℕ) (value : Data) (is : data_of text ≡ Some value) where
  -- a command on the driver
  of_driver : (said : DriverCommand) → Says value (line.Driver said) → (old new : JournalState) → DoesToDriver said old.driver new.driver → IsCommandLine text old.driver (Some new)
  of_driver (driver.Begin plan name) says old new h = record {
    command = BeginPlan h.0;
    driver = new.driver;
    after = refl;
    says = (value, driver.Begin plan name, is, says, h.2);
    callable = h.3;
    written = (free_steps h.5.advanced.streams ++ Made (Begin h.0) ∷ [], (h.1, h.5, refl));
  }
  of_driver (driver.Answered plan stream number) says old new h =
      let id : StreamId = record { plan = plan; stream = stream } in record {
        command = TakeAnswer id number;
        driver = new.driver;
        after = refl;
        says = (value, driver.Answered plan stream number, is, says, (refl, refl));
        callable = tt;
        written = answers id number old.driver new.driver h.0 h.1;
      }
  of_driver (driver.Approve name by) says old new h = record {
    command = ApproveRestart h.0;
    driver = new.driver;
    after = refl;
    says = (value, driver.Approve name by, is, says, h.2);
    callable = h.3;
    written = (Made (Approve h.0) ∷ [], (h.1, h.4, refl));
  }
  of_driver (driver.Restarted permit base) says old new h = record {
    command = EndRestart permit base;
    driver = new.driver;
    after = refl;
    says = (value, driver.Restarted permit base, is, says, (refl, refl));
    callable = tt;
    written = (Ended h.0 permit ∷ [], (h.0, h.1, refl));
  }
  of_driver (driver.Restore name nonce) says old new h = record {
    command = RestoreServer h.0 nonce;
    driver = new.driver;
    after = refl;
    says = (value, driver.Restore name nonce, is, says, (h.1, refl));
    callable = tt;
    written = (Restored h.0 nonce ∷ [], (h.2, refl));
  }
  of_driver driver.NewEpoch says old new h = record {
    command = OpenEpoch;
    driver = new.driver;
    after = refl;
    says = (value, driver.NewEpoch, is, says, tt);
    callable = tt;
    written = (EpochOpened (record_of old.driver).room ∷ [], (h.1, h.0, refl));
  }
  of_driver (driver.Copied name journal fence copies) says old new h = record {
    command = NoteCopies h.0 copies;
    driver = new.driver;
    after = refl;
    says = (value, driver.Copied name journal fence copies, is, says, (h.1, refl));
    callable = h.2.0;
    written = ([], (h.2.2, refl));
  }

  of_open : (said : DriverCommand) → Says value (line.Driver said) → (old new : Option JournalState) (d : DriverModel) → driver_of old ≡ Some d →
      StaysOpen (DoesToDriver said) old new → IsCommandLine text d new
  of_open said says (Some old) (Some new) d e h = subst (λ d. IsCommandLine text d (Some new)) (let q = e in cc) (of_driver said says old new h)
  of_open said says (Some old) None d e h = absurd h
  of_open said says None new d e h = absurd (cc)

  -- no line opens or reopens anything here
  of_line : (command : LineCommand) → Says value command → (old new : Option JournalState) (d : DriverModel) → driver_of old ≡ Some d →
      Does command old None new None → IsCommandLine text d new
  of_line (line.Driver said) says old new d e h = of_open said says old new d e h
  of_line (line.Open document journal epoch) says (Some old) new d e h = absurd h
  of_line (line.Open document journal epoch) says None new d e h = absurd (cc)
  of_line (line.Reopening (reopening.Reopen document lost journal epoch)) says (Some old) new d e h = absurd h.0
  of_line (line.Reopening (reopening.Reopen document lost journal epoch)) says None new d e h = absurd (cc)
  of_line (line.Reopening (reopening.Fenced server base told)) says old new d e h = absurd h.0
  of_line (line.Reopening (reopening.Confirm base cells lost)) says old new d e h = absurd h.0
  of_line (line.Reopening (reopening.Settled server base)) says old new d e h = elim h [ inl stays ↦ absurd stays.0 | inr comes ↦ absurd comes.1 ]
  of_line (line.Question question) says old new d e h = absurd h

-- so is what a line does as it says
line_is : AnswersHaveEntries → (text : List ℕ) (old new : Session) (d : DriverModel) → driver_of old.opened ≡ Some d → old.under_way ≡ None → new.under_way ≡ None →
    DoesAsSaid text old new → IsCommandLine text d new.opened
line_is answers text old new d opened before after h =
    of_line answers text h.0 h.1 h.2.0 h.2.1 old.opened new.opened d opened
    (subst (λ u. Does h.2.0 old.opened u new.opened None) before (subst (λ u. Does h.2.0 old.opened old.under_way new.opened u) after h.2.3))

-- ---- the truth of entries

-- local steps tell nothing
steps_true : (f : Fleet) (ids : List StreamId) (e : JournalEntry) → TellsTruth f e → AllByRecursion (TellsTruth f) (map (λ id. Made (Step id)) ids ++ e ∷ [])
steps_true f [] e so = (so, tt)
steps_true f (id ∷ ids) e so = (tt, steps_true f ids e so)

entries_true : (f : Fleet) (ids : List StreamId) (e : JournalEntry) → TellsTruth f e → AllByRecursion (TellsTruth f) (free_steps ids ++ e ∷ [])
entries_true f ids e so = steps_true f (reverse ids) e so

-- a command that is true writes entries that tell the truth
pub true_entries : (x : Driven) (command : Command) (new : DriverModel) → IsCallable x.driver command → IsWritten command x.driver new → CommandIsTrue x command →
    (es : List JournalEntry) × TurnFits x (Takes command new es)
true_entries x (BeginPlan plan) new callable w so =
    (w.0, (callable, w.1, subst (AllByRecursion (TellsTruth x.fleet)) (sym w.1.2) (entries_true x.fleet w.1.1.advanced.streams (Made (Begin plan)) tt)))
true_entries x (TakeAnswer id number) new callable w so = go (next_call_of (record_of x.driver) id) refl so
  where
    go : (call : Option ServerCall) → next_call_of (record_of x.driver) id ≡ call → AnswerIsGiven x id number call → (es : List JournalEntry) × TurnFits x (Takes (TakeAnswer id number) new es)
    go (Some call) e given = (
      free_steps w.1.0.advanced.streams ++ Answered given.0 ∷ [],
      (
        tt,
        (w.1.0, Answered given.0, w.1.2, (given.2, given.3, subst IsSome (sym e) refl), refl),
        entries_true x.fleet w.1.0.advanced.streams (Answered given.0) given.1,
      ),
    )
    go None e given = (
      free_steps w.1.0.advanced.streams ++ Stored given.0 ∷ [],
      (tt, (w.1.0, Stored given.0, w.1.2, given.2, refl), entries_true x.fleet w.1.0.advanced.streams (Stored given.0) given.1),
    )
true_entries x (ApproveRestart v) new callable w so = (w.0, (callable, w.1, subst (AllByRecursion (TellsTruth x.fleet)) (sym w.1.2) (tt, tt)))
true_entries x (EndRestart permit base) new callable w so = (w.0, (tt, w.1, subst (AllByRecursion (TellsTruth x.fleet)) (sym w.1.2) (tt, tt)))
true_entries x (RestoreServer v nonce) new callable w so = (w.0, (tt, w.1, subst (AllByRecursion (TellsTruth x.fleet)) (sym w.1.1) (so, tt)))
true_entries x (NoteCopies s copies) new callable w so = (w.0, (callable, w.1, subst (AllByRecursion (TellsTruth x.fleet)) (sym w.1.1) tt))
true_entries x OpenEpoch new callable w so = (w.0, (tt, w.1, subst (AllByRecursion (TellsTruth x.fleet)) (sym w.1.2) (tt, tt)))

-- ---- lines

-- a line goes on, over a session whose journal is open with the driver
pub goes_on : AnswersHaveEntries → (x : Run) → driver_of x.session.opened ≡ Some x.driven.driver → x.session.under_way ≡ None → LinesGoOn x
goes_on answers x opened under text session changes said after so =
    let is = line_is answers text x.session session x.driven.driver opened under after said in
    let es = true_entries x.driven is.command is.driver is.callable is.written (so is.command is.says) in
    (is.command, is.driver, es.0, record { changes = changes; said = said; open_with = (is.after, after); truth = so; says = is.says; writes = es.1 })
