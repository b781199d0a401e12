-- Replies by which nothing has come of a command.
use Rattle.std.specs.Prelude.{◌≡◌, ◌⊎◌, ℕ, List, [], ◌++◌, IfSome, None, Option, Some, codes}
use Rattle.json.specs.Token.{Token}
use Rattle.json.specs.Print.{print}
use Rattle.serde_json.specs.Data.{Data}
use Rattle.sm_placement.specs.Setup.{server_named}
use Rattle.sm_plan_text.specs.Reading.{data_of}
use Rattle.smpland_state.specs.Names.{value_of}
use Rattle.smpland_lines.specs.BadLines.{told_bad}
use Rattle.smpland_lines.specs.declared.bad_line.BadLine.{BadLine}
use Rattle.smpland_lines.specs.declared.command.LineCommand.{LineCommand}
use Rattle.smpland_lines.specs.declared.command.LineCommand.TheVariants as line
use Rattle.smpland_lines.specs.declared.command.DriverCommand.{DriverCommand}
use Rattle.smpland_lines.specs.declared.command.DriverCommand.TheVariants as driver
use Rattle.smpland_lines.specs.Ids.{line_id}
use Rattle.smpland_lines.specs.Lines.{Says}
use Rattle.smpland_lines.specs.Members.{object, text_member}
use Rattle.smpland_lines.specs.Refusals.{TellsRefused}
use Rattle.smpland_state.specs.declared.journal_state.JournalState.{JournalState}
use Rattle.smpland_session.specs.declared.session.Session.{Session}

-- behind what was written is told, as a member, what is wrong with a line
abbrev pub TellsBad : List Token → List Token → Type 0
TellsBad before after = (fault : BadLine) × (after ≡ before ++ told_bad fault)

-- behind it is told, as a member, why a line is ignored
abbrev pub IgnoresIt : List Token → List Token → Type 0
IgnoresIt before after = (why : List ℕ) × (after ≡ before ++ text_member (codes "ignored") why)

-- A reply says that nothing has come of a command: it is refused, something is wrong with its line, or it is ignored.
pub data Declines (before after : List Token) : Type 0 where
  Refused : TellsRefused before after → Declines before after
  Bad : TellsBad before after → Declines before after
  Ignored : IgnoresIt before after → Declines before after

-- A command that could have changed the driver of a journal is declined, but for one under a name that was used before.
-- Of a restore this is said as long as there is no such server.
abbrev pub DriverDeclines : DriverCommand → Option JournalState → List Token → List Token → Type 0
DriverDeclines (driver.Begin _ name) opened before after = IfSome opened (λ o. value_of o.plans name.now ≡ None)
    → Declines before after
DriverDeclines (driver.Approve _ by) opened before after = IfSome opened (λ o. value_of o.approvals by.now ≡ None)
    → Declines before after
DriverDeclines (driver.Restore name _) opened before after =
    IfSome opened (λ o. server_named o.driver.machine.placement.setup name.now ≡ None) → Declines before after
DriverDeclines (driver.Answered _ _ _) opened before after = Declines before after
DriverDeclines (driver.Restarted _ _) opened before after = Declines before after
DriverDeclines driver.NewEpoch opened before after = Declines before after
DriverDeclines (driver.Copied _ _ _ _) opened before after = Declines before after

-- So is one of a session. Of questions nothing is said, nor of lines of a reopening.
abbrev pub SessionDeclines : LineCommand → Session → List Token → List Token → Type 0
SessionDeclines (line.Open _ _ _) s before after = Declines before after
SessionDeclines (line.Driver command) s before after = DriverDeclines command s.opened before after
SessionDeclines (line.Reopening _) s before after = Unit {0}
SessionDeclines (line.Question _) s before after = Unit {0}

-- ---- lines

-- a value is bad, or the command that it says is declined
abbrev pub DeclinesValue : Data → Session → List Token → List Token → Type 0
DeclinesValue value s before after = TellsBad before after
    ⊎ ((command : LineCommand) × Says value command × SessionDeclines command s before after)

-- a line is bad, or its value is, behind its id, or declined there
abbrev pub DeclinesLine : List ℕ → Session → List Token → List Token → Type 0
DeclinesLine line s before after =
    TellsBad before after ⊎ ((value : Data) × (data_of line ≡ Some value)
    × DeclinesValue value s (before ++ line_id value) after)

-- a reply declines a line
abbrev pub DeclinesBy : List ℕ → List ℕ → Session → Type 0
DeclinesBy reply line s = (members : List Token) × (reply ≡ print (object members)) × DeclinesLine line s [] members
