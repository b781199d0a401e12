-- The outcomes of lines that open a journal, and the replies that tell them.
-- `TellsNotOpened` and `TellsOpen` are internal: you need not read them for the public contracts.
use Rattle.std.specs.Prelude.{◌≡◌, Bool, true, false, List, ◌++◌, IfSome, Option}
use Rattle.json.specs.Token.{Token}
use Rattle.json_tree.specs.View.{view}
use Rattle.smpland_lines.specs.BadLines.{told_bad}
use Rattle.smpland_lines.specs.Refusals.{TellsRefused}
use Rattle.smpland_lines.specs.declared.bad_line.BadLine.TheVariants as bad
use Rattle.smpland_lines.specs.declared.command_member.CommandMember.TheVariants as member
use Rattle.smpland_state.specs.declared.journal_state.JournalState.{JournalState}
use Rattle.smpland_state.specs.Permits.{opened_member}
use Rattle.smpland_session.specs.Asked.{OpensOver}
use Rattle.smpland_session.specs.Changes.{HasDriven, driver_of}
use Rattle.smpland_session.specs.declared.opening.NotOpened.{NotOpened}
use Rattle.smpland_session.specs.declared.opening.NotOpened.TheVariants as not_opened
use Rattle.smpland_session.specs.declared.opening.OpenLine.{OpenLine}
use Rattle.smpland_session.specs.declared.opening.OpenOutcome.{OpenOutcome}
use Rattle.smpland_session.specs.declared.opening.OpenOutcome.TheVariants as opens

-- a journal has opened
abbrev pub has_opened : OpenOutcome → Bool
has_opened opens.Opened = true
has_opened (opens.NotOpened _) = false

-- A line opens a journal: none was open, no reopening was under way, and now one is open as the line says; or nothing
-- has changed.
abbrev pub DoesOpen : OpenLine → Bool → Option JournalState → OpenOutcome → Option JournalState → Type 0
DoesOpen line is_reopening old opens.Opened new =
    (is_reopening ≡ false) × HasDriven (driver_of old) (driver_of new)
    × OpensOver (view line.document.now) line.journal line.epoch old new
DoesOpen line is_reopening old (opens.NotOpened _) new = new ≡ old

-- the reply that tells why no journal has opened
abbrev pub TellsNotOpened : NotOpened → List Token → List Token → Type 0
TellsNotOpened (not_opened.Malformed fault) before after = after ≡ before ++ told_bad (bad.Within member.Document fault)
TellsNotOpened _ before after = TellsRefused before after

-- the reply to a line that opens a journal: the one that is open, or why none has opened
abbrev pub TellsOpen : Option JournalState → OpenOutcome → List Token → List Token → Type 0
TellsOpen opened opens.Opened before after =
    IfSome opened (λ (o : JournalState). after ≡ before ++ opened_member o.driver)
TellsOpen opened (opens.NotOpened why) before after = TellsNotOpened why before after
