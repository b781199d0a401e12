-- Replies to questions.
use Rattle.std.specs.Prelude.{◌≡◌, ℕ, Bool, true, false, List, [], ◌++◌, Option, Some, None, codes, if◌then◌else◌}
use Rattle.std.specs.Prelude.{is_some, nat_lt}
use Rattle.json.specs.Token.{Token}
use Rattle.json_tree.specs.View.{view}
use Rattle.json_tree.specs.declared.tree.Tree.{Tree}
use Rattle.sm_placement.specs.Setup.{server_named}
use Rattle.sm_reservation.specs.declared.stream_id.StreamId.{StreamId}
use Rattle.sm_driver.specs.Driver.{record_of}
use Rattle.sm_driver.specs.Orders.{awaiting_of}
use Rattle.sm_reopening.specs.Ongoing.{net_reopening}
use Rattle.smpland_reopening.specs.Reopening.{ReopeningModel}
use Rattle.smpland_lines.specs.BadLines.{told_bad}
use Rattle.smpland_lines.specs.Members.{list_member, name_member, number_member, object_member, text_member}
use Rattle.smpland_lines.specs.Refusals.{TellsRefused}
use Rattle.smpland_lines.specs.Slots.{TellSlots}
use Rattle.smpland_lines.specs.declared.bad_line.BadLine.{BadLine}
use Rattle.smpland_lines.specs.declared.command.FailedAnswer.{FailedAnswer}
use Rattle.smpland_lines.specs.declared.command.PlanQuestion.TheVariants as plans
use Rattle.smpland_lines.specs.declared.command.Question.{Question}
use Rattle.smpland_lines.specs.declared.command.Question.TheVariants as question
use Rattle.smpland_lines.specs.declared.command.StateOf.{StateOf}
use Rattle.smpland_lines.specs.declared.command.StateOf.TheVariants as of
use Rattle.smpland_lines.specs.declared.slots.SlotText.{SlotText}
use Rattle.smpland_state.specs.declared.journal_state.JournalState.{JournalState}
use Rattle.smpland_state.specs.Audit.{audit_reply, audited_member}
use Rattle.smpland_state.specs.Bits.{bits_member, hexadecimal}
use Rattle.smpland_state.specs.Document.{document_member}
use Rattle.smpland_state.specs.Failed.{failed_member}
use Rattle.smpland_state.specs.Messages.{orders_member}
use Rattle.smpland_state.specs.Notices.{carried_member}
use Rattle.smpland_state.specs.Published.{map_member}
use Rattle.smpland_state.specs.Since.{since_member}
use Rattle.smpland_state.specs.State.{TellsPlanState, recorded_members, shard_state_reply}
use Rattle.smpland_reopening_lines.specs.Parties.{fences_member}
use Rattle.smpland_reopening_lines.specs.Progress.{progress_member}
use Rattle.smpland_reopening_lines.specs.Settles.{settles_member}
use Rattle.smpland_session.specs.Checks.{TellsCheck}
use Rattle.smpland_session.specs.Planned.{TellsDrain, TellsMoves}
use Rattle.smpland_session.specs.declared.session.Session.{Session}
use Rattle.smpland_session.specs.declared.telling.hello.TheConstants.{FORMAT}
use Rattle.smpland_session.specs.declared.under_way.UnderWay.{UnderWay}

-- ---- orders

-- the orders and publications of the journal that is open: those that its streams stand before
abbrev pub present_orders : Option JournalState → List Token
present_orders (Some o) = orders_member o.driver (awaiting_of (record_of o.driver))
present_orders None = list_member (codes "orders") []

-- the notices to the servers that were carried over at its opening
abbrev pub present_notices : Option JournalState → List Token
present_notices (Some o) = carried_member o.driver
present_notices None = list_member (codes "notice") []

-- the reply to `orders` as long as no reopening is under way: these, and that no party is to be fenced or settled
abbrev pub orders_reply : Option JournalState → List Token
orders_reply opened =
    present_orders opened ++ list_member (codes "fence") [] ++ list_member (codes "settle") [] ++ present_notices opened

-- the fences that are not answered: none once something is confirmed
abbrev pub fences_left : ReopeningModel → List Token
fences_left r =
    if is_some (net_reopening r.ongoing).settlement then list_member (codes "fence") [] else fences_member (hexadecimal r.journal) r

-- the reply to `orders` while a reopening is under way: what its parties have not answered, and no order and no notice
abbrev pub orders_during : ReopeningModel → List Token
orders_during r =
    list_member (codes "orders") [] ++ fences_left r ++ settles_member (hexadecimal r.journal) r
    ++ list_member (codes "notice") []

-- the reply to `orders`
abbrev pub all_orders : Option JournalState → Option UnderWay → List Token
all_orders opened (Some u) = orders_during u.reopening
all_orders opened None = orders_reply opened

-- ---- where the journal stands

-- the journal: the one that is open, or else the one that opens with the reopening under way
abbrev pub present_journal : Option JournalState → Option UnderWay → Option ℕ
present_journal (Some o) under = Some o.driver.journal
present_journal None (Some u) = Some u.reopening.journal
present_journal None None = None

-- the journal as a member, null if there is none
abbrev pub journal_member : Option ℕ → List Token
journal_member (Some journal) = bits_member (codes "journal") journal
journal_member None = name_member (codes "journal") None

-- the epoch that is open as a member, null if none is
abbrev pub epoch_member : Option JournalState → List Token
epoch_member (Some o) = number_member (codes "epoch") o.driver.epoch
epoch_member None = name_member (codes "epoch") None

-- the journal, its epoch, and how many commands have changed something
abbrev pub place_members : Session → List Token
place_members s = journal_member (present_journal s.opened s.under_way) ++ epoch_member s.opened
    ++ number_member (codes "place") s.place

-- what the program is, and where its journal stands
abbrev pub hello_members : Session → List Token
hello_members s = text_member (codes "program") (codes "smpland") ++ number_member (codes "format") FORMAT
    ++ place_members s

-- ---- journals

-- the journal in force: the one that is open, as long as no reopening is under way
abbrev pub journal_in_force : Session → Option JournalState
journal_in_force s = if is_some s.under_way then None else s.opened

-- what is told of a journal: the question is refused if there is none
abbrev pub TellsOf : Option JournalState → (JournalState → List Token → List Token → Type 0) → List Token → List Token
    → Type 0
TellsOf (Some o) Tells before after = Tells o before after
TellsOf None Tells before after = TellsRefused before after

-- the reply to `failed`: what to do about the stream's order under this number; while a reopening is under way it is
-- old
abbrev pub TellsFailed : StreamId → ℕ → FailedAnswer → Option JournalState → Option UnderWay → List Token → List Token
    → Type 0
TellsFailed id number answer opened (Some _) before after = after
    ≡ before ++ text_member (codes "ignored") (codes "old")
TellsFailed id number answer (Some o) None before after = after ≡ before ++ failed_member o.driver id number answer
TellsFailed id number answer None None before after = TellsRefused before after

-- What an audit tells of rows of slots: the slots that they tell, against what is recorded; or that a row tells none.
pub data TellsAudit (o : JournalState) (server : List ℕ) (place : ℕ) (rows : List Tree) (before after : List Token) : Type 0 where
  Malformed : (fault : BadLine) → after ≡ before ++ told_bad fault → TellsAudit o server place rows before after
  Compared : (slots : List SlotText) → TellSlots rows slots → after ≡ before ++ audit_reply o server place slots
      → TellsAudit o server place rows before after

-- the reply to `audit`, by whether its place is still to come
abbrev pub TellsUnlessLater : Bool → Option JournalState → List ℕ → ℕ → List Tree → List Token → List Token → Type 0
TellsUnlessLater true opened server place rows before after = after ≡ before ++ audited_member server (codes "later")
TellsUnlessLater false opened server place rows before after = TellsOf opened (λ o. TellsAudit o server place rows) before after

-- the fence of the journal that is open, 0 without one
abbrev pub fence_now : Option JournalState → ℕ
fence_now (Some o) = o.driver.fence
fence_now None = 0

-- the word for what there is: a journal, or none, as long as no reopening is under way
abbrev pub condition_word : Option JournalState → Option UnderWay → List ℕ
condition_word opened (Some u) = codes "reopening"
condition_word (Some o) None = codes "open"
condition_word None None = codes "new"

-- all that is recorded in the journal, if there is one
abbrev pub recorded_of : Option JournalState → Bool → List Token
recorded_of (Some o) is_reopening = recorded_members o is_reopening
recorded_of None is_reopening = []

-- how far a reopening is, if one is under way
abbrev pub reopening_progress : Option UnderWay → List Token
reopening_progress (Some u) = progress_member u.reopening
reopening_progress None = []

-- where the journal stands, its fence, and a word for whether anything may begin
abbrev pub state_head : Session → List Token
state_head s =
    place_members s
    ++ number_member (codes "fence") (fence_now s.opened)
    ++ text_member (codes "is") (condition_word s.opened s.under_way)

-- these, all that is recorded, and how far a reopening is
abbrev pub state_members : Session → List Token
state_members s = state_head s ++ recorded_of s.opened (is_some s.under_way) ++ reopening_progress s.under_way

-- the reply to `state` of one shard, of one plan, or of all
abbrev pub TellsState : StateOf → Session → List Token → List Token → Type 0
TellsState (of.Shard name) s before after =
    TellsOf s.opened (λ o before after. after ≡ before ++ shard_state_reply o.driver name.now) before after
TellsState (of.Plan number) s before after = TellsOf s.opened (λ o. TellsPlanState o (is_some s.under_way) number) before after
TellsState of.Whole s before after = after ≡ before ++ object_member (codes "state") (state_members s)

-- ---- questions

-- the reply to `drain` of the server with a name
abbrev pub TellsDrainOf : List ℕ → JournalState → List Token → List Token → Type 0
TellsDrainOf name o before after =
    TellsDrain o.driver.machine (server_named o.driver.machine.placement.setup name) before after

-- The reply to a question. Of the moves that a line asks for nothing is said but that the plan makes some.
abbrev pub TellsAnswer : Question → Session → List Token → List Token → Type 0
TellsAnswer question.Hello s before after = after ≡ before ++ object_member (codes "hello") (hello_members s)
TellsAnswer question.Orders s before after = after ≡ before ++ all_orders s.opened s.under_way
TellsAnswer question.Map s before after = TellsOf s.opened (λ o before after. after ≡ before ++ map_member o.driver) before after
TellsAnswer (question.Since place) s before after =
    TellsOf s.opened (λ o before after. after ≡ before ++ since_member o (is_some s.under_way) s.place place) before after
TellsAnswer (question.State of) s before after = TellsState of s before after
TellsAnswer question.Document s before after = TellsOf s.opened (λ o before after. after ≡ before ++ document_member o) before after
TellsAnswer (question.InForce (plans.Check plan)) s before after =
    TellsOf (journal_in_force s) (λ o. TellsCheck o.driver (view plan.now)) before after
TellsAnswer (question.InForce (plans.Failed plan stream number answer)) s before after =
    TellsFailed (record { plan = plan; stream = stream }) number answer s.opened s.under_way before after
TellsAnswer (question.InForce (plans.Moves _)) s before after = TellsOf (journal_in_force s) (λ o. TellsMoves o.driver.machine) before after
TellsAnswer (question.InForce (plans.Drain server)) s before after = TellsOf (journal_in_force s) (TellsDrainOf server.now) before after
TellsAnswer (question.InForce (plans.Audit server place rows)) s before after =
    TellsUnlessLater (nat_lt s.place place) (journal_in_force s) server.now place rows.now before after
