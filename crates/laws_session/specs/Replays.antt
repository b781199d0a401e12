-- Entries that two sessions take: what becomes of them is alike.
use Rattle.std.specs.Prelude.{◌≡◌, ℕ, List, [], ◌∷◌, Option, Some, option_map}
use Rattle.std.specs.Borrow.{Bor}
use Rattle.json.specs.Token.{Token}
use Rattle.serde_json.specs.Data.{Data}
use Rattle.json_tree.specs.View.{items_view}
use Rattle.json_tree.specs.declared.tree.Tree.{Tree}
use Rattle.sm_plan_text.specs.Reading.{data_of}
use Rattle.smpland_lines.specs.Ids.{line_id}
use Rattle.smpland_lines.specs.Lines.{Says}
use Rattle.smpland_lines.specs.declared.command.LineCommand.{LineCommand}
use Rattle.smpland_lines.specs.declared.command.LineCommand.TheVariants as line
use Rattle.smpland_lines.specs.declared.command.InventoryText.{InventoryText}
use Rattle.smpland_lines.specs.declared.command.InventoryText.TheVariants as told
use Rattle.smpland_reopening.specs.Reopening.{ReopeningModel}
use Rattle.smpland_reopening_lines.specs.Taken.{ConfirmsAt, TakesFenced, TakesSettledBy}
use Rattle.smpland_session.specs.Asked.{DoesToSession}
use Rattle.smpland_session.specs.Changes.{IsNew}
use Rattle.smpland_session.specs.Replies.{SessionTells}
use Rattle.smpland_session.specs.declared.session.Session.{Session}
use Rattle.laws_session.specs.Alike.{AreReopeningsAlike, AreSessionsAlike}

-- ---- entries

-- a command is no question: it may change something
abbrev pub IsOnJournal : LineCommand → Type 0
IsOnJournal (line.Question _) = ⊥
IsOnJournal _ = Unit {0}

-- A session took a line that is no question, and did what it asks for: the line is an entry. This is what a replay of a
-- changing line promises.
pub record TakesEntry (text : List ℕ) (old new : Session) : Type 0 where
  pub value : Data
  pub read : data_of text ≡ Some value
  pub command : LineCommand
  pub on_journal : IsOnJournal command
  pub says : Says value command
  pub does : DoesToSession command old new
  pub members : List Token
  pub tells : SessionTells command old new (line_id value) members

-- If two sessions take the same entry, they are alike afterwards.
abbrev pub EntriesGoAlike : Session → Session → Type 0
EntriesGoAlike a b = (text : List ℕ) (new next : Session) → TakesEntry text a new → TakesEntry text b next
    → AreSessionsAlike new next

-- Entries, one after the other, lead from one session to another.
abbrev pub TakesEntries : List (List ℕ) → Session → Session → Type 0
TakesEntries [] old new = new ≡ old
TakesEntries (text ∷ texts) old new = (between : Session) × TakesEntry text old between × TakesEntries texts between new

-- The same entries make sessions that are alike of both.
abbrev pub ReplaysStayAlike : Session → Session → Type 0
ReplaysStayAlike a b = (texts : List (List ℕ)) (new next : Session) → TakesEntries texts a new
    → TakesEntries texts b next → AreSessionsAlike new next

-- So sessions that begin with nothing and take the same entries are alike: a session after its recovery is like the one
-- before.
abbrev pub ReplaysAgree : Type 0
ReplaysAgree = (a b : Session) → IsNew a → IsNew b → ReplaysStayAlike a b

-- ---- reopenings

-- two lines name the same server, or none
abbrev pub IsSameName : Option (Bor (List ℕ)) → Option (Bor (List ℕ)) → Type 0
IsSameName server other = option_map (λ (name : Bor (List ℕ)). name.now) other
    ≡ option_map (λ (name : Bor (List ℕ)). name.now) server

-- two lines tell the same: rows of the same values, or the same nonce
abbrev pub IsSameTold : InventoryText → InventoryText → Type 0
IsSameTold told.Map told.Map = Unit {0}
IsSameTold (told.Slots rows) (told.Slots others) = items_view others.now ≡ items_view rows.now
IsSameTold (told.Unknown nonce) (told.Unknown other) = other ≡ nonce
IsSameTold _ _ = ⊥

-- Two reopenings take the same answer to a fence, the same confirmation, or the same answer to a settle: they are alike
-- afterwards.
pub record ReopeningsGoAlike (r s : ReopeningModel) : Type 0 where
  pub fenced : (server other : Option (Bor (List ℕ))) (base : ℕ) (tells also : InventoryText) (new next : ReopeningModel) → IsSameName server other →
      IsSameTold tells also → TakesFenced server base tells r new → TakesFenced other base also s next
      → AreReopeningsAlike new next
  pub confirmed : (base : ℕ) (cells lost others more : List Tree) (new next : ReopeningModel)
      → items_view others ≡ items_view cells →
      ConfirmsAt base cells lost r new → ConfirmsAt base others more s next → AreReopeningsAlike new next
  pub settled : (server other : Option (Bor (List ℕ))) (base : ℕ) (new next : ReopeningModel)
      → IsSameName server other → TakesSettledBy server base r new →
      TakesSettledBy other base s next → AreReopeningsAlike new next

-- so it is of all reopenings that are alike
abbrev pub EachReopeningAlike : (ReopeningModel → ReopeningModel → Type 0) → Type 0
EachReopeningAlike P = (r s : ReopeningModel) → AreReopeningsAlike r s → P r s
