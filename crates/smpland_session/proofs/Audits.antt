-- Replies to `audit`.
use Rattle.std.proofs.Common.{◌≡◌, ◌∙◌, ◌++◌, ℕ, List, Result, Ok, Err, OnOk, ap}
use Rattle.json.specs.Token.{Token}
use Rattle.json_tree.specs.declared.tree.Tree.{Tree}
use Rattle.smpland_lines.specs.BadLines.{told_bad}
use Rattle.smpland_lines.specs.Slots.{TellSlots}
use Rattle.smpland_lines.specs.declared.bad_line.BadLine.{BadLine}
use Rattle.smpland_lines.specs.declared.slots.SlotText.{SlotText}
use Rattle.smpland_state.specs.declared.journal_state.JournalState.{JournalState}
use Rattle.smpland_state.specs.Audit.{audit_reply}
use Rattle.smpland_session.specs.Questions.{TellsAudit, Compared, Malformed}

-- the slots that rows tell are compared
pub tells_compared : {A E : Type 0} (r : Result A E) (o : JournalState) (server : List ℕ) (place : ℕ) (rows : List Tree) (slots items : List SlotText) (before after : List Token) →
    TellSlots rows slots → items ≡ slots → OnOk r (after ≡ before ++ audit_reply o server place items) → OnOk r (TellsAudit o server place rows before after)
tells_compared (Ok x) o server place rows slots items before after told is e = Compared slots told (e ∙ ap (λ xs. before ++ audit_reply o server place xs) is)
tells_compared (Err x) o server place rows slots items before after told is e = tt

-- a row tells no slot
pub tells_malformed : {A E : Type 0} (r : Result A E) (o : JournalState) (server : List ℕ) (place : ℕ) (rows : List Tree) (fault : BadLine) (before after : List Token) →
    OnOk r (after ≡ before ++ told_bad fault) → OnOk r (TellsAudit o server place rows before after)
tells_malformed (Ok x) o server place rows fault before after e = Malformed fault e
tells_malformed (Err x) o server place rows fault before after e = tt
