-- What comes of a line to a session, and the reply that tells it: command, outcome, change and reply are of one
-- exchange. (The clause `told` of `Session::apply` says so, by `IsLineReply` of Replies.antt.) `IsNoObject`,
-- `ReadsObject`, `TellsClosed`, `TellsExchange`, `KnowsAll`, `Replies` and `Exchanges` are internal: you need not read
-- them for the public contracts.
use Rattle.std.specs.Prelude.{◌≡◌, ◌<◌, ◌⊎◌, ℕ, Bool, true, false, List, [], ◌++◌, IfSome, Ok, Err, Option, Some, None}
use Rattle.std.specs.Prelude.{Result, codes, if◌then◌else◌, is_some, length}
use Rattle.json.specs.Token.{Token}
use Rattle.json.specs.Print.{print}
use Rattle.serde_json.specs.Data.{Data}
use Rattle.serde_json.specs.Find.{as_object}
use Rattle.json_tree.specs.View.{view}
use Rattle.json_tree.specs.declared.tree.Tree.{Tree}
use Rattle.journal_lines.specs.Objects.{IsObject}
use Rattle.sm_plan_text.specs.Reading.{data_of}
use Rattle.smpland_lines.specs.BadLines.{told_bad}
use Rattle.smpland_lines.specs.Ids.{line_id}
use Rattle.smpland_lines.specs.Lines.{Says}
use Rattle.smpland_lines.specs.Members.{object, text_member}
use Rattle.smpland_lines.specs.Refusals.{TellsRefused}
use Rattle.smpland_lines.specs.Writer.{HasNoLineFeed}
use Rattle.smpland_lines.specs.declared.bad_line.BadLine.{BadLine}
use Rattle.smpland_lines.specs.declared.bad_line.BadLine.TheVariants as bad
use Rattle.smpland_lines.specs.declared.command.DriverCommand.{DriverCommand}
use Rattle.smpland_lines.specs.declared.command.DriverCommand.TheVariants as driver
use Rattle.smpland_lines.specs.declared.command.LineCommand.{LineCommand}
use Rattle.smpland_lines.specs.declared.command.LineCommand.TheVariants as line
use Rattle.smpland_lines.specs.declared.command.ReopeningCommand.TheVariants as reopening
use Rattle.smpland_lines.specs.declared.line_part.LinePart.TheVariants.{Line}
use Rattle.smpland_state.specs.declared.journal_state.JournalState.{JournalState}
use Rattle.smpland_reopening_lines.specs.Outcomes.{DoesConfirm, DoesFenced, has_counted}
use Rattle.smpland_session.specs.Asked.{IsKnownOver, setup_in_force}
use Rattle.smpland_session.specs.Changes.{count_after}
use Rattle.smpland_session.specs.Openings.{DoesOpen, TellsOpen, has_opened}
use Rattle.smpland_session.specs.Outcomes.{HasOutcome, KnowsServers, TellsOutcome, has_changed}
use Rattle.smpland_session.specs.Questions.{TellsAnswer}
use Rattle.smpland_session.specs.Reopenings.{DoesReopen, DoesSettle, DoesUnderWay, TellsReopen, TellsUnderWay}
use Rattle.smpland_session.specs.Reopenings.{has_begun}
use Rattle.smpland_session.specs.declared.closed.Closed.{Closed}
use Rattle.smpland_session.specs.declared.closed.Closed.TheVariants as closed
use Rattle.smpland_session.specs.declared.driver_outcome.DriverOutcome.{DriverOutcome}
use Rattle.smpland_session.specs.declared.outcome.Outcome.{Outcome}
use Rattle.smpland_session.specs.declared.outcome.Outcome.TheVariants as came
use Rattle.smpland_session.specs.declared.reading.TheConstants.{MOST_BYTES}
use Rattle.smpland_session.specs.declared.session.LineEffect.{LineEffect}
use Rattle.smpland_session.specs.declared.session.LineEffect.TheVariants.{Changed, Unchanged}
use Rattle.smpland_session.specs.declared.session.Session.{Session}
use Rattle.smpland_session.specs.declared.under_way.UnderWay.{UnderWay}

-- ---- reading

-- A text is no object that a line may be: it is too long, is no JSON on one line, or has a value that is no object.
pub data IsNoObject (text : List ℕ) (fault : BadLine) : Type 0 where
  TooLong : MOST_BYTES < length text → fault ≡ bad.TooLong → IsNoObject text fault
  NotJson : (data_of text ≡ None) ⊎ (IsObject text → ⊥) → fault ≡ bad.NotJson → IsNoObject text fault
  NoObject : (value : Data) → data_of text ≡ Some value → as_object value ≡ None → fault ≡ bad.Malformed Line
      → IsNoObject text fault

-- a line is an object of this value, or it is bad
abbrev pub ReadsObject : List ℕ → Result Tree BadLine → Type 0
ReadsObject text (Ok tree) = (data_of text ≡ Some (view tree)) × IsObject text
ReadsObject text (Err fault) = IsNoObject text fault

-- ---- changes

-- why nothing comes of a command on a journal, as long as none is open: what ends, answers or tells something of before
-- a reopening is old
abbrev pub why_closed : DriverCommand → Bool → Closed
why_closed (driver.Restarted _ _) is_reopening = if is_reopening then closed.Old else closed.NotOpened
why_closed (driver.Answered _ _ _) is_reopening = if is_reopening then closed.Old else closed.NotOpened
why_closed (driver.Copied _ _ _ _) is_reopening = if is_reopening then closed.Old else closed.NotOpened
why_closed _ is_reopening = if is_reopening then closed.Reopening else closed.NotOpened

-- something has changed
abbrev pub is_change : Outcome → Bool
is_change (came.Bad _) = false
is_change (came.Open it) = has_opened it
is_change (came.Driver it) = has_changed it
is_change (came.Closed _) = false
is_change (came.Reopen it) = has_begun it
is_change (came.Reopening it) = has_counted it
is_change (came.Answered _) = false

-- the effect of a line that has changed something, or has not
abbrev pub effect_if : Bool → LineEffect
effect_if true = Changed
effect_if false = Unchanged

-- the journal that is open takes a command, with this outcome
abbrev pub TakesOnOpen : DriverCommand → Bool → Option JournalState → DriverOutcome → Option JournalState → Type 0
TakesOnOpen command is_reopening (Some old) it (Some new) = HasOutcome command is_reopening old it new
TakesOnOpen command is_reopening _ it _ = ⊥

-- A command comes to an outcome, over what is open and under way. It is the command's own: no other kind of outcome is.
abbrev pub ComesTo : LineCommand → Option JournalState → Option UnderWay → Outcome → Option JournalState
    → Option UnderWay → Type 0
ComesTo (line.Open document journal epoch) opened under (came.Open it) new after =
    (after ≡ under) × DoesOpen (record { document = document; journal = journal; epoch = epoch }) (is_some under) opened it new
ComesTo (line.Driver command) opened under (came.Driver it) new after = (after ≡ under)
    × TakesOnOpen command (is_some under) opened it new
ComesTo (line.Driver command) opened under (came.Closed why) new after =
    (after ≡ under) × (opened ≡ None) × (new ≡ opened) × (why ≡ why_closed command (is_some under))
ComesTo (line.Reopening (reopening.Reopen document lost journal epoch)) opened under (came.Reopen it) new after =
    (new ≡ opened) × DoesReopen (record { document = document; lost = lost; journal = journal; epoch = epoch }) opened under it after
ComesTo (line.Reopening (reopening.Fenced server base told)) opened under (came.Reopening it) new after =
    (new ≡ opened) × DoesUnderWay (DoesFenced server base told) under it after
ComesTo (line.Reopening (reopening.Confirm base cells lost)) opened under (came.Reopening it) new after =
    (new ≡ opened) × DoesUnderWay (DoesConfirm base cells.now lost.now) under it after
ComesTo (line.Reopening (reopening.Settled server base)) opened under (came.Reopening it) new after = DoesSettle server base opened under it new after
ComesTo (line.Question asked) opened under (came.Answered it) new after = (new ≡ opened) × (after ≡ under)
    × (it ≡ asked)
ComesTo _ opened under _ new after = ⊥

-- So does a command to a session, which counts it if something has changed.
abbrev pub Comes : LineCommand → Session → Outcome → Session → Type 0
Comes command old it new =
    ComesTo command old.opened old.under_way it new.opened new.under_way
    × (new.place ≡ count_after (is_change it) old.place)

-- A session takes the value of a line: its command comes to an outcome; or it is bad, and nothing changes.
pub data Takes (value : Data) (old : Session) (it : Outcome) (new : Session) : Type 0 where
  TakesBad : (fault : BadLine) → it ≡ came.Bad fault → new ≡ old → Takes value old it new
  TakesCommand : (command : LineCommand) → Says value command → IsKnownOver (setup_in_force old) command
      → Comes command old it new
      → Takes value old it new

-- ---- replies

-- the reply that tells why nothing comes of a command, as long as no journal is open
abbrev pub TellsClosed : Closed → List Token → List Token → Type 0
TellsClosed closed.Old before after = after ≡ before ++ text_member (codes "ignored") (codes "old")
TellsClosed _ before after = TellsRefused before after

-- behind what was written is told, by the session after the change, what has come of a line
abbrev pub TellsExchange : Session → Outcome → List Token → List Token → Type 0
TellsExchange s (came.Bad fault) before after = after ≡ before ++ told_bad fault
TellsExchange s (came.Open it) before after = TellsOpen s.opened it before after
TellsExchange s (came.Driver it) before after = IfSome s.opened (λ (o : JournalState). TellsOutcome o it before after)
TellsExchange s (came.Closed why) before after = TellsClosed why before after
TellsExchange s (came.Reopen it) before after = TellsReopen s.under_way it before after
TellsExchange s (came.Reopening it) before after = TellsUnderWay s.opened s.under_way it before after
TellsExchange s (came.Answered asked) before after = TellsAnswer asked s before after

-- the servers that are told their cells are known
abbrev pub KnowsAll : Session → Outcome → Type 0
KnowsAll s (came.Driver it) = IfSome s.opened (λ (o : JournalState). KnowsServers o.driver it)
KnowsAll s _ = Unit {0}

-- Behind other replies stands the one that tells what has come of a line, behind these members: an object on one line.
pub record Replies (s : Session) (it : Outcome) (front : List Token) (before after : List ℕ) : Type 0 where
  pub members : List Token
  pub tells : TellsExchange s it front members
  pub is : after ≡ before ++ print (object members)
  pub one_line : HasNoLineFeed (print (object members))

-- A session takes the value of a line, and the reply behind the value's id tells the outcome after the change.
pub record Exchanges (value : Data) (old : Session) (effect : LineEffect) (new : Session) (before after : List ℕ) : Type 0 where
  pub outcome : Outcome
  pub takes : Takes value old outcome new
  pub replies : Replies new outcome (line_id value) before after
  pub is : effect ≡ effect_if (is_change outcome)

-- A session takes a text, whatever the reply: its value comes to an outcome; or it has none, and nothing changes.
pub data TakesAgain (text : List ℕ) (old : Session) (effect : LineEffect) (new : Session) : Type 0 where
  OfValue : (value : Data) → data_of text ≡ Some value → (it : Outcome) → Takes value old it new
      → effect ≡ effect_if (is_change it)
      → TakesAgain text old effect new
  OfNoValue : data_of text ≡ None → effect ≡ Unchanged → new ≡ old → TakesAgain text old effect new
