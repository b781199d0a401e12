-- Plays: the premises of the laws of replays can hold.
use Rattle.std.specs.Prelude.{◌≡◌, ℕ, List, Option, Some, None, codes}
use Rattle.std.specs.Borrow.{Bor}
use Rattle.serde_json.specs.Data.{Data, member, no_members, object, string}
use Rattle.sm_plan_text.specs.Reading.{data_of}
use Rattle.sm_driver.specs.Driver.{DriverModel}
use Rattle.smpland_lines.specs.Lines.{Says}
use Rattle.smpland_lines.specs.declared.command.LineCommand.TheVariants as line
use Rattle.smpland_lines.specs.declared.command.ReopeningCommand.TheVariants as reopening
use Rattle.smpland_lines.specs.declared.command.InventoryText.{InventoryText}
use Rattle.smpland_state.specs.declared.journal_state.JournalState.{JournalState}
use Rattle.smpland_reopening.specs.Reopening.{ReopeningModel}
use Rattle.smpland_reopening_lines.specs.Taken.{TakesFenced}
use Rattle.smpland_session.specs.Changes.{OpensNext}
use Rattle.smpland_session.specs.declared.session.Session.{Session}
use Rattle.smpland_session.specs.declared.under_way.UnderWay.{UnderWay}
use Rattle.laws_session.specs.Replays.{TakesEntry}

-- the value of the line that asks for the next epoch
abbrev pub next_epoch_entry : Data
next_epoch_entry = object (member (codes "do") (string (codes "new_epoch")) no_members)

-- the session with another driver of its journal
abbrev pub with_driver : Session → JournalState → DriverModel → Session
with_driver a o d = record a { opened = Some (record o { driver = d }) }

-- Whenever the driver of a journal can open the next epoch, the line that asks for it can be an entry.
abbrev pub NextEpochIsAnEntry : Type 0
NextEpochIsAnEntry = (text : List ℕ) (a : Session) (o : JournalState) (next : DriverModel)
    → data_of text ≡ Some next_epoch_entry → a.opened ≡ Some o → a.under_way ≡ None →
    OpensNext o.driver next → TakesEntry text a (with_driver a o next)

-- the session with this reopening under way
abbrev pub with_reopening : Session → ReopeningModel → Session
with_reopening a r = record a { under_way = Some (record { reopening = r }) }

-- Whenever the reopening under way can take the answer to a fence that a line says, the line can be an entry.
abbrev pub AnswerIsAnEntry : Type 0
AnswerIsAnEntry = (text : List ℕ) (value : Data) (server : Option (Bor (List ℕ))) (base : ℕ) (told : InventoryText) (a : Session) (u : UnderWay) (next : ReopeningModel)
    → data_of text ≡ Some value → Says value (line.Reopening (reopening.Fenced server base told))
    → a.under_way ≡ Some u → TakesFenced server base told u.reopening next
    → TakesEntry text a (with_reopening a next)
