-- Answers to lines, whether they change something or not: a command that comes again is told what it was told, an
-- answer that no stream waits for is ignored, so are copies that are not noted, a question is told what it asks, and a
-- line that is no command is told as bad.
use Rattle.std.specs.Prelude.{◌≡◌, ◌<◌, ◌⊎◌, ℕ, Bool, true, false, List, ◌++◌, Some, None, IfSome, bytes_eq, codes}
use Rattle.std.specs.Prelude.{is_some, length, not, string_bytes}
use Rattle.json.specs.Token.{Token}
use Rattle.serde_json.specs.Data.{Data}
use Rattle.serde_json.specs.Find.{as_object}
use Rattle.json_tree.specs.View.{view}
use Rattle.journal_lines.specs.Objects.{IsObject}
use Rattle.sm_placement.specs.Setup.{Setup, server_named, shard_named}
use Rattle.sm_reservation.specs.declared.stream_id.StreamId.{StreamId}
use Rattle.sm_plan_text.specs.Reading.{data_of}
use Rattle.smpland_state.specs.Names.{value_of}
use Rattle.sm_driver.specs.Driver.{DriverModel}
use Rattle.sm_driver.specs.declared.copies.CopiesEffect.{CopiesEffect}
use Rattle.sm_driver.specs.declared.copies.CopiesEffect.TheVariants as effect
use Rattle.sm_driver.specs.declared.copies.ToldCopies.{ToldCopies}
use Rattle.smpland_lines.specs.BadLines.{told_bad}
use Rattle.smpland_lines.specs.Ids.{line_id}
use Rattle.smpland_lines.specs.Lines.{Says}
use Rattle.smpland_lines.specs.Members.{text_member}
use Rattle.smpland_lines.specs.Refusals.{TellsRefused, refused_member}
use Rattle.smpland_lines.specs.declared.bad_line.BadLine.{BadLine}
use Rattle.smpland_lines.specs.declared.bad_line.BadLine.TheVariants as bad
use Rattle.smpland_lines.specs.declared.command.LineCommand.{LineCommand}
use Rattle.smpland_lines.specs.declared.command.LineCommand.TheVariants as line
use Rattle.smpland_lines.specs.declared.command.DriverCommand.{DriverCommand}
use Rattle.smpland_lines.specs.declared.command.DriverCommand.TheVariants as driver
use Rattle.smpland_lines.specs.declared.line_part.LinePart.TheVariants.{Line}
use Rattle.smpland_state.specs.declared.given_permits.GivenAt.{GivenAt}
use Rattle.smpland_state.specs.declared.given_permits.GivenPermit.{GivenPermit}
use Rattle.smpland_state.specs.declared.journal_state.JournalState.{JournalState}
use Rattle.smpland_state.specs.Given.{given_at}
use Rattle.smpland_state.specs.Permits.{given_member}
use Rattle.smpland_state.specs.Restores.{TellsAgain}
use Rattle.smpland_session.specs.Asked.{IsKnownOver, setup_in_force}
use Rattle.smpland_session.specs.Begins.{TellsUnder}
use Rattle.smpland_session.specs.Outcomes.{above_want, copies_effect_now, ignored_word, is_expected, why_ignored}
use Rattle.smpland_session.specs.Questions.{TellsAnswer}
use Rattle.smpland_session.specs.declared.session.Session.{Session}
use Rattle.smpland_session.specs.declared.reading.TheConstants.{MOST_BYTES}

-- ---- names and nonces that come again

-- a plan has begun under this name: that it has is told again, or that a value says another one
abbrev pub TellsBegunAgain : JournalState → Bool → Data → List ℕ → List Token → List Token → Type 0
TellsBegunAgain o is_reopening value name before after =
    IfSome (value_of o.plans name) (λ plan. TellsUnder o.driver (not is_reopening) value name plan before after)

-- The reply tells what came of a permit that was given under a name. If another server has it, the line is refused.
pub record TellsGiven (d : DriverModel) (server : List ℕ) (given : GivenPermit) (before after : List Token) : Type 0 where
  pub same : bytes_eq (string_bytes given.server) server ≡ true → after ≡ before ++ given_member d server given.permit
  pub other : bytes_eq (string_bytes given.server) server ≡ false → TellsRefused before after

-- the same of the permit that a name stands for, if it has not been forgotten
abbrev pub TellsGivenAt : JournalState → GivenAt → List ℕ → List Token → List Token → Type 0
TellsGivenAt o at server before after = IfSome (given_at o.permits at) (λ given. TellsGiven o.driver server given before after)

-- a restart was approved under this name: what came of its permit is told
abbrev pub TellsApprovedAgain : JournalState → List ℕ → List ℕ → List Token → List Token → Type 0
TellsApprovedAgain o server by before after = IfSome (value_of o.approvals by) (λ at. TellsGivenAt o at server before after)

-- the server of this name was told something under this nonce: the same is told again
abbrev pub TellsRestoredAgain : JournalState → List ℕ → ℕ → List Token → List Token → Type 0
TellsRestoredAgain o name nonce before after =
    IfSome (server_named o.driver.machine.placement.setup name) (λ server. TellsAgain o server nonce before after)

-- ---- answers that tell nothing new

-- an answer that no stream waits for is ignored
abbrev pub TellsIgnored : DriverModel → Bool → StreamId → ℕ → List Token → List Token → Type 0
TellsIgnored d is_reopening id number before after = is_expected is_reopening d id number ≡ false
    → after ≡ before ++ text_member (codes "ignored") (ignored_word (why_ignored is_reopening d id number))

-- ---- copies that are not noted

-- copies of a shard that are not noted are ignored, or refused as more than it wants
abbrev pub TellsNotNoted : CopiesEffect → Setup → ℕ → List Token → List Token → Type 0
TellsNotNoted effect.Noted setup shard before after = Unit {0}
TellsNotNoted effect.Old setup shard before after = after ≡ before ++ text_member (codes "ignored") (codes "old")
TellsNotNoted effect.AboveWant setup shard before after = after ≡ before ++ refused_member (above_want setup shard)

-- so it is with those of the shard of this name
abbrev pub TellsNotCopied : DriverModel → Bool → List ℕ → ToldCopies → List Token → List Token → Type 0
TellsNotCopied d is_reopening name told before after = IfSome (shard_named d.machine.placement.setup name)
    (λ shard. TellsNotNoted (copies_effect_now is_reopening d shard told) d.machine.placement.setup shard before after)

-- ---- commands

-- a command on a journal that is open is told what it was told before, or that it tells nothing new
abbrev pub AnswersAgain : DriverCommand → JournalState → Bool → List Token → List Token → Type 0
AnswersAgain (driver.Begin plan name) o is_reopening before after = TellsBegunAgain o is_reopening (view plan.now) name.now before after
AnswersAgain (driver.Approve server by) o is_reopening before after = TellsApprovedAgain o server.now by.now before after
AnswersAgain (driver.Restore name nonce) o is_reopening before after = TellsRestoredAgain o name.now nonce before after
AnswersAgain (driver.Answered plan stream number) o is_reopening before after =
    TellsIgnored o.driver is_reopening (record { plan = plan; stream = stream }) number before after
AnswersAgain (driver.Copied shard journal fence copies) o is_reopening before after =
    TellsNotCopied o.driver is_reopening shard.now (record { journal = journal; fence = fence; copies = copies }) before after
AnswersAgain _ o is_reopening before after = Unit {0}

-- So is a command to a session, and a question is told what it asks. Of other commands nothing is said.
abbrev pub Answers : LineCommand → Session → List Token → List Token → Type 0
Answers (line.Question asked) s before after = TellsAnswer asked s before after
Answers (line.Driver command) s before after = IfSome s.opened (λ o. AnswersAgain command o (is_some s.under_way) before after)
Answers _ s before after = Unit {0}

-- ---- lines

-- An object is told as bad, or answered as the known command that it says.
pub data AnswersObject (value : Data) (s : Session) (before after : List Token) : Type 0 where
  IsBad : (fault : BadLine) → after ≡ before ++ told_bad fault → AnswersObject value s before after
  IsCommand : (command : LineCommand) → Says value command → IsKnownOver (setup_in_force s) command
      → Answers command s before after
      → AnswersObject value s before after

-- The reply tells that a line is bad if it is too long, is no JSON on one line, or has a value that is no object.
-- Otherwise it answers the line behind its id.
pub data AnswersLine (text : List ℕ) (s : Session) (before after : List Token) : Type 0 where
  TooLong : MOST_BYTES < length text → after ≡ before ++ told_bad bad.TooLong → AnswersLine text s before after
  NotJson : (data_of text ≡ None) ⊎ (IsObject text → ⊥) → after ≡ before ++ told_bad bad.NotJson
      → AnswersLine text s before after
  NoObject : (value : Data) → data_of text ≡ Some value → as_object value ≡ None
      → after ≡ before ++ told_bad (bad.Malformed Line)
      → AnswersLine text s before after
  Object : (value : Data) → data_of text ≡ Some value → AnswersObject value s (before ++ line_id value) after
      → AnswersLine text s before after
