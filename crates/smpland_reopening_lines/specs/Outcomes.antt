-- What comes of lines on a reopening that is under way, and the replies that tell it.
use Rattle.std.specs.Prelude.{◌≡◌, ℕ, Bool, false, true, List, ◌++◌, Option, Some, None, codes, is_some}
use Rattle.std.specs.Borrow.{Bor}
use Rattle.json.specs.Token.{Token}
use Rattle.json_tree.specs.declared.tree.Tree.{Tree}
use Rattle.laws_network.specs.Reopening.{Party, is_first}
use Rattle.laws_network.specs.ReopeningLaws.{AllTook}
use Rattle.sm_reopening.specs.Ongoing.{net_reopening}
use Rattle.sm_reopening.specs.Settles.{is_due_settle}
use Rattle.smpland_reopening.specs.Reopening.{ReopeningModel}
use Rattle.smpland_reopening.specs.Waiting.{unsettled_parties}
use Rattle.smpland_lines.specs.BadLines.{told_bad}
use Rattle.smpland_lines.specs.Members.{text_member}
use Rattle.smpland_lines.specs.Refusals.{TellsRefused}
use Rattle.smpland_lines.specs.declared.command.InventoryText.{InventoryText}
use Rattle.smpland_reopening_lines.specs.Parties.{waiting_member}
use Rattle.smpland_reopening_lines.specs.Proposals.{TellsAwaited}
use Rattle.smpland_reopening_lines.specs.Settles.{settles_member}
use Rattle.smpland_reopening_lines.specs.Taken.{ConfirmsAt, TakesSettledOf, TakesToldBy, party_named}
use Rattle.smpland_reopening_lines.specs.declared.outcome.ReopeningOutcome.{ReopeningOutcome}
use Rattle.smpland_reopening_lines.specs.declared.outcome.ReopeningOutcome.TheVariants as outcome

-- ---- changes

-- the line has told or confirmed something
abbrev pub has_counted : ReopeningOutcome → Bool
has_counted outcome.Fenced = true
has_counted outcome.Confirmed = true
has_counted outcome.Settled = true
has_counted outcome.Complete = true
has_counted outcome.Old = false
has_counted (outcome.Bad _) = false
has_counted (outcome.Refused _) = false

-- An answer of this party to the fence with this base: it has told what its line tells, for the first time; or the
-- answer is not its first; or its slots are malformed.
abbrev pub DoesFencedOf : ℕ → InventoryText → Party → ReopeningModel → ReopeningOutcome → ReopeningModel → Type 0
DoesFencedOf base told party old outcome.Fenced new = TakesToldBy party base told old new
DoesFencedOf base told party old outcome.Old new = (is_first (net_reopening old.ongoing) party base ≡ false)
    × (new ≡ old)
DoesFencedOf base told party old (outcome.Bad _) new = new ≡ old
DoesFencedOf base told party old _ new = ⊥

-- A confirmation of the reopening with this base: what may be is confirmed; or it has another base, or is confirmed
-- already; or the cells are malformed; or they may not be confirmed, or other shards may be lost than are named.
abbrev pub DoesConfirm : ℕ → List Tree → List Tree → ReopeningModel → ReopeningOutcome → ReopeningModel → Type 0
DoesConfirm base cells lost old outcome.Confirmed new = ConfirmsAt base cells lost old new
DoesConfirm base cells lost old outcome.Old new =
    (base ≡ (net_reopening old.ongoing).base → is_some (net_reopening old.ongoing).settlement ≡ true) × (new ≡ old)
DoesConfirm base cells lost old (outcome.Bad _) new = new ≡ old
DoesConfirm base cells lost old (outcome.Refused _) new = new ≡ old
DoesConfirm base cells lost old _ new = ⊥

-- An answer of this party to its settle with this base: it has taken it, and others have not taken theirs, or all have;
-- or no such answer is due.
abbrev pub DoesSettledOf : ℕ → Party → ReopeningModel → ReopeningOutcome → ReopeningModel → Type 0
DoesSettledOf base party old outcome.Settled new = TakesSettledOf party base old new
    × (AllTook (net_reopening new.ongoing) → ⊥)
DoesSettledOf base party old outcome.Complete new =
    TakesSettledOf party base old new × AllTook (net_reopening new.ongoing)
    × (is_some (net_reopening new.ongoing).settlement ≡ true)
DoesSettledOf base party old outcome.Old new = (is_due_settle (net_reopening old.ongoing) party base ≡ false)
    × (new ≡ old)
DoesSettledOf base party old _ new = ⊥

-- what comes of the answer of a party, or of one that nobody knows: that is old
abbrev pub DoesOf : (Party → ReopeningModel → ReopeningOutcome → ReopeningModel → Type 0) → Option Party
    → ReopeningModel → ReopeningOutcome
    → ReopeningModel → Type 0
DoesOf P (Some party) old came new = P party old came new
DoesOf P None old came new = (came ≡ outcome.Old) × (new ≡ old)

-- of the answer to a fence from the party that a line names
abbrev pub DoesFenced : Option (Bor (List ℕ)) → ℕ → InventoryText → ReopeningModel → ReopeningOutcome → ReopeningModel
    → Type 0
DoesFenced server base told old came new = DoesOf (DoesFencedOf base told) (party_named old.numbering server) old came new

-- of the answer to a settle from it
abbrev pub DoesSettled : Option (Bor (List ℕ)) → ℕ → ReopeningModel → ReopeningOutcome → ReopeningModel → Type 0
DoesSettled server base old came new = DoesOf (DoesSettledOf base) (party_named old.numbering server) old came new

-- ---- replies

-- The reply that tells what has come of a line, by the reopening after it, in this journal. An answer to a fence tells
-- who has to answer, or otherwise what may be confirmed, a confirmation the settles, and an answer to a settle who has
-- not taken its own. The last one tells nothing here: the next epoch is open.
abbrev pub TellsTaken : List ℕ → ReopeningModel → ReopeningOutcome → List Token → List Token → Type 0
TellsTaken journal r outcome.Fenced before after = TellsAwaited r before after
TellsTaken journal r outcome.Confirmed before after = after ≡ before ++ settles_member journal r
TellsTaken journal r outcome.Settled before after = after
    ≡ before ++ waiting_member r.numbering (unsettled_parties (net_reopening r.ongoing))
TellsTaken journal r outcome.Complete before after = after ≡ before
TellsTaken journal r outcome.Old before after = after ≡ before ++ text_member (codes "ignored") (codes "old")
TellsTaken journal r (outcome.Bad fault) before after = after ≡ before ++ told_bad fault
TellsTaken journal r (outcome.Refused _) before after = TellsRefused before after
