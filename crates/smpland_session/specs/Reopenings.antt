-- What comes of lines of a reopening to a session, and the replies that tell it.
-- `TellsNotBegun`, `TellsReopen`, `TellsNotUnderWay` and `TellsUnderWay` are internal: you need not read them for the
-- public contracts.
use Rattle.std.specs.Prelude.{◌≡◌, ℕ, Bool, true, false, List, ◌++◌, IfSome, Option, Some, None, codes, string_bytes}
use Rattle.std.specs.Borrow.{Bor}
use Rattle.json.specs.Token.{Token}
use Rattle.json_tree.specs.View.{view}
use Rattle.smpland_lines.specs.Members.{text_member}
use Rattle.smpland_lines.specs.BadLines.{told_bad}
use Rattle.smpland_lines.specs.Refusals.{TellsRefused, refused_member}
use Rattle.smpland_lines.specs.declared.bad_line.BadLine.TheVariants as bad
use Rattle.smpland_lines.specs.declared.command_member.CommandMember.TheVariants as member
use Rattle.smpland_state.specs.declared.journal_state.JournalState.{JournalState}
use Rattle.smpland_state.specs.Bits.{hexadecimal}
use Rattle.smpland_state.specs.Permits.{opened_member}
use Rattle.smpland_reopening.specs.Reopening.{ReopeningModel}
use Rattle.smpland_reopening_lines.specs.Outcomes.{DoesSettled, TellsTaken}
use Rattle.smpland_reopening_lines.specs.Parties.{fences_member}
use Rattle.smpland_reopening_lines.specs.Taken.{TakesSettledBy}
use Rattle.smpland_reopening_lines.specs.declared.outcome.ReopeningOutcome.{ReopeningOutcome}
use Rattle.smpland_reopening_lines.specs.declared.outcome.ReopeningOutcome.TheVariants as outcome
use Rattle.smpland_session.specs.Asked.{IsUnderDocument, OpensAsNamed, texts_among}
use Rattle.smpland_session.specs.Changes.{ComesInForceBy, ReopensWithout}
use Rattle.smpland_session.specs.Lost.{first_unknown_server, numbered, unknown_server}
use Rattle.smpland_session.specs.declared.reopen_outcome.NotBegun.{NotBegun}
use Rattle.smpland_session.specs.declared.reopen_outcome.NotBegun.TheVariants as not_begun
use Rattle.smpland_session.specs.declared.reopen_line.ReopenLine.{ReopenLine}
use Rattle.smpland_session.specs.declared.reopen_outcome.ReopenOutcome.{ReopenOutcome}
use Rattle.smpland_session.specs.declared.reopen_outcome.ReopenOutcome.TheVariants as reopen
use Rattle.smpland_session.specs.declared.under_way.UnderWay.{UnderWay}

-- ---- changes

-- a reopening has begun
abbrev pub has_begun : ReopenOutcome → Bool
has_begun reopen.Begun = true
has_begun (reopen.NotBegun _) = false

-- the first server that a line says to be lost and nobody knows
abbrev pub unknown_lost : ReopenLine → Option JournalState → Option UnderWay → Option (List ℕ)
unknown_lost line opened under = first_unknown_server (numbered opened under) (texts_among line.lost.now)

-- A line asks for a reopening: it has begun, under the line's document and without the servers that are lost, which are
-- known; or nothing has changed.
abbrev pub DoesReopen : ReopenLine → Option JournalState → Option UnderWay → ReopenOutcome → Option UnderWay → Type 0
DoesReopen line opened under reopen.Begun after =
    ReopensWithout (texts_among line.lost.now) opened under after × IsUnderDocument (view line.document.now) after
    × OpensAsNamed line.journal line.epoch opened under after × (unknown_lost line opened under ≡ None)
DoesReopen line opened under (reopen.NotBegun _) after = after ≡ under

-- this has come of a line to the reopening under way; without one, each line is old
abbrev pub DoesUnderWay : (ReopeningModel → ReopeningOutcome → ReopeningModel → Type 0) → Option UnderWay
    → ReopeningOutcome → Option UnderWay → Type 0
DoesUnderWay P (Some old) came (Some new) = P old.reopening came new.reopening
DoesUnderWay P None came None = came ≡ outcome.Old
DoesUnderWay P _ came _ = ⊥

-- An answer to a settle, from the party that the line names: with the last one what was settled is in force. Any other
-- leaves the journal as it is.
abbrev pub DoesSettle : Option (Bor (List ℕ)) → ℕ → Option JournalState → Option UnderWay → ReopeningOutcome
    → Option JournalState → Option UnderWay → Type 0
DoesSettle server base opened under outcome.Complete new after = ComesInForceBy (TakesSettledBy server base) under after new
DoesSettle server base opened under came new after = DoesUnderWay (DoesSettled server base) under came after
    × (new ≡ opened)

-- ---- replies

-- the reply that tells why no reopening has begun
abbrev pub TellsNotBegun : NotBegun → List Token → List Token → Type 0
TellsNotBegun (not_begun.Malformed fault) before after = after ≡ before ++ told_bad (bad.Within member.Document fault)
TellsNotBegun (not_begun.UnknownLost name) before after = after
    ≡ before ++ refused_member (unknown_server (string_bytes name))
TellsNotBegun _ before after = TellsRefused before after

-- the reply to a line that asks for a reopening: the fences of the one that has begun, or why none has
abbrev pub TellsReopen : Option UnderWay → ReopenOutcome → List Token → List Token → Type 0
TellsReopen after_it reopen.Begun before after =
    IfSome after_it (λ (u : UnderWay). after ≡ before ++ fences_member (hexadecimal u.reopening.journal) u.reopening)
TellsReopen after_it (reopen.NotBegun why) before after = TellsNotBegun why before after

-- the reply to a line on a reopening, as long as none is under way: it is old, and refused if nothing was opened
abbrev pub TellsNotUnderWay : Option JournalState → List Token → List Token → Type 0
TellsNotUnderWay (Some o) before after = after ≡ before ++ text_member (codes "ignored") (codes "old")
TellsNotUnderWay None before after = TellsRefused before after

-- The reply to a line on the reopening under way: with the last settle that the next epoch is open, and otherwise what
-- has come of the line.
abbrev pub TellsUnderWay : Option JournalState → Option UnderWay → ReopeningOutcome → List Token → List Token → Type 0
TellsUnderWay opened under outcome.Complete before after = IfSome opened (λ (o : JournalState). after ≡ before ++ opened_member o.driver)
TellsUnderWay opened (Some u) came before after = TellsTaken (hexadecimal u.reopening.journal) u.reopening came before after
TellsUnderWay opened None came before after = TellsNotUnderWay opened before after
