-- Commands as lines say them: a line is an object, whose member `do` has the command's word, and whose other members have what it asks for.
-- `TellsFound` and `OfWord` are internal: you need not read them for the public contracts.
use Rattle.std.specs.Prelude.{◌≡◌, ℕ, Bool, List, [], ◌∷◌, bytes_eq, codes, Option, Some, None, Result, IfOk}
use Rattle.std.specs.Prelude.{option_map}
use Rattle.std.specs.Borrow.{Bor}
use Rattle.std.specs.List.{list_any}
use Rattle.serde_json.specs.Data.{Data, Items, null}
use Rattle.json_tree.specs.View.{view, items_view}
use Rattle.json_tree.specs.declared.tree.Tree.{Tree}
use Rattle.smpland_lines.specs.Values.{bits_at, entries_at, list_at, text_at, value_at, whole_at}
use Rattle.smpland_lines.specs.declared.bad_line.BadLine.{BadLine}
use Rattle.smpland_lines.specs.declared.command_member.CommandMember.{CommandMember}
use Rattle.smpland_lines.specs.declared.command_member.CommandMember.TheVariants as at
use Rattle.smpland_lines.specs.declared.command.FailedAnswer.{FailedAnswer}
use Rattle.smpland_lines.specs.declared.command.FailedAnswer.TheVariants.{Old, Refused, Foreign, NotReady}
use Rattle.smpland_lines.specs.declared.command.StateOf.{StateOf}
use Rattle.smpland_lines.specs.declared.command.StateOf.TheVariants.{Whole, Shard, Plan}
use Rattle.smpland_lines.specs.declared.command.InventoryText.{InventoryText}
use Rattle.smpland_lines.specs.declared.command.InventoryText.TheVariants as told
use Rattle.smpland_lines.specs.declared.command.LineCommand.{LineCommand}
use Rattle.smpland_lines.specs.declared.command.LineCommand.TheVariants as line
use Rattle.smpland_lines.specs.declared.command.DriverCommand.TheVariants as driver
use Rattle.smpland_lines.specs.declared.command.ReopeningCommand.TheVariants as reopening
use Rattle.smpland_lines.specs.declared.command.Question.TheVariants as question
use Rattle.smpland_lines.specs.declared.command.PlanQuestion.TheVariants as plans

-- the word of a command
abbrev pub command_word : LineCommand → List ℕ
command_word (line.Open _ _ _) = codes "open"
command_word (line.Driver (driver.Begin _ _)) = codes "begin"
command_word (line.Driver (driver.Answered _ _ _)) = codes "answered"
command_word (line.Driver (driver.Approve _ _)) = codes "approve"
command_word (line.Driver (driver.Restarted _ _)) = codes "restarted"
command_word (line.Driver (driver.Restore _ _)) = codes "restore"
command_word (line.Driver driver.NewEpoch) = codes "new_epoch"
command_word (line.Driver (driver.Copied _ _ _ _)) = codes "copied"
command_word (line.Reopening (reopening.Reopen _ _ _ _)) = codes "reopen"
command_word (line.Reopening (reopening.Fenced _ _ _)) = codes "fenced"
command_word (line.Reopening (reopening.Confirm _ _ _)) = codes "confirm"
command_word (line.Reopening (reopening.Settled _ _)) = codes "settled"
command_word (line.Question (question.InForce (plans.Check _))) = codes "check"
command_word (line.Question (question.InForce (plans.Moves _))) = codes "moves"
command_word (line.Question (question.InForce (plans.Drain _))) = codes "drain"
command_word (line.Question question.Map) = codes "map"
command_word (line.Question question.Document) = codes "document"
command_word (line.Question question.Orders) = codes "orders"
command_word (line.Question question.Hello) = codes "hello"
command_word (line.Question (question.State _)) = codes "state"
command_word (line.Question (question.Since _)) = codes "since"
command_word (line.Question (question.InForce (plans.Audit _ _ _))) = codes "audit"
command_word (line.Question (question.InForce (plans.Failed _ _ _ _))) = codes "failed"

-- the words that there are
abbrev pub command_words : List (List ℕ)
command_words =
    codes "open" ∷ codes "begin" ∷ codes "answered" ∷ codes "approve" ∷ codes "restarted" ∷ codes "restore"
    ∷ codes "new_epoch" ∷ codes "copied" ∷ codes "reopen" ∷ codes "fenced" ∷ codes "confirm" ∷ codes "settled"
    ∷ codes "hello" ∷ codes "orders" ∷ codes "map" ∷ codes "document" ∷ codes "state" ∷ codes "moves" ∷ codes "drain"
    ∷ codes "check" ∷ codes "since" ∷ codes "audit" ∷ codes "failed" ∷ []

-- a text is one of them
abbrev pub is_command_word : List ℕ → Bool
is_command_word word = list_any (bytes_eq word) command_words

-- the word of an answer that failed
abbrev pub failed_word : FailedAnswer → List ℕ
failed_word Old = codes "old"
failed_word Refused = codes "refused"
failed_word Foreign = codes "foreign"
failed_word NotReady = codes "not_ready"

-- a member is a name, or null for none
abbrev pub IsNameOrNull : CommandMember → Data → Option (Bor (List ℕ)) → Type 0
IsNameOrNull member d (Some name) = text_at member d ≡ Some name.now
IsNameOrNull member d None = value_at member d ≡ Some null

-- who answers: the server that is named, or for null the map's owner
abbrev pub IsFrom : Data → Option (Bor (List ℕ)) → Type 0
IsFrom d server = IsNameOrNull at.Server d server

-- the slots that an answer to a fence tells
abbrev pub told_slots : InventoryText → Option Items
told_slots (told.Slots slots) = Some (items_view slots.now)
told_slots _ = None

-- the nonce that it tells
abbrev pub told_nonce : InventoryText → Option ℕ
told_nonce (told.Unknown nonce) = Some nonce
told_nonce _ = None

-- the answer to a fence has slots or a nonce, and that of the map's owner neither
abbrev pub HasToldMembers : Data → InventoryText → Type 0
HasToldMembers d told = (list_at at.Slots d ≡ told_slots told) × (bits_at at.Unknown d ≡ told_nonce told)

-- the part of the state that is asked for: a shard or a plan, if one is named
abbrev pub HasStateMembers : Data → StateOf → Type 0
HasStateMembers d Whole = (text_at at.Shard d ≡ None) × (whole_at at.Plan d ≡ None)
HasStateMembers d (Shard name) = (text_at at.Shard d ≡ Some name.now) × (whole_at at.Plan d ≡ None)
HasStateMembers d (Plan plan) = (text_at at.Shard d ≡ None) × (whole_at at.Plan d ≡ Some plan)

-- a plan, a stream of it, and the number of its order
abbrev pub IsOfOrder : Data → ℕ → ℕ → ℕ → Type 0
IsOfOrder d plan stream number =
    (whole_at at.Plan d ≡ Some plan) × (whole_at at.Stream d ≡ Some stream) × (whole_at at.Number d ≡ Some number)

-- the members of a command; a base or an epoch that is missing or null is none
abbrev pub HasMembers : Data → LineCommand → Type 0
HasMembers d (line.Open document journal epoch) =
    (value_at at.Document d ≡ Some (view document.now)) × (bits_at at.Journal d ≡ Some journal)
    × (whole_at at.Epoch d ≡ Some epoch)
HasMembers d (line.Driver (driver.Begin plan name)) = (value_at at.Plan d ≡ Some (view plan.now))
    × (text_at at.Name d ≡ Some name.now)
HasMembers d (line.Driver (driver.Answered plan stream number)) = IsOfOrder d plan stream number
HasMembers d (line.Driver (driver.Approve server by)) = (text_at at.Server d ≡ Some server.now)
    × (text_at at.By d ≡ Some by.now)
HasMembers d (line.Driver (driver.Restarted permit base)) = (whole_at at.Permit d ≡ Some permit)
    × (whole_at at.Base d ≡ base)
HasMembers d (line.Driver (driver.Restore server nonce)) = (text_at at.Server d ≡ Some server.now)
    × (bits_at at.Nonce d ≡ Some nonce)
HasMembers d (line.Driver (driver.Copied shard journal fence copies)) =
    (text_at at.Shard d ≡ Some shard.now) × (bits_at at.Journal d ≡ Some journal) × (whole_at at.Fence d ≡ Some fence)
    × (whole_at at.Copies d ≡ Some copies)
HasMembers d (line.Reopening (reopening.Reopen document lost journal epoch)) =
    (value_at at.Document d ≡ Some (view document.now)) × (entries_at at.Lost d ≡ items_view lost.now)
    × (bits_at at.Journal d ≡ journal) × (whole_at at.Epoch d ≡ epoch)
HasMembers d (line.Reopening (reopening.Fenced server base told)) = IsFrom d server × (whole_at at.Base d ≡ Some base)
    × HasToldMembers d told
HasMembers d (line.Reopening (reopening.Confirm base cells lost)) =
    (whole_at at.Base d ≡ Some base) × (entries_at at.Cells d ≡ items_view cells.now)
    × (entries_at at.Lost d ≡ items_view lost.now)
HasMembers d (line.Reopening (reopening.Settled server base)) = IsFrom d server × (whole_at at.Base d ≡ Some base)
HasMembers d (line.Question (question.InForce (plans.Check plan))) = value_at at.Plan d ≡ Some (view plan.now)
HasMembers d (line.Question (question.InForce (plans.Moves moves))) = list_at at.Moves d ≡ Some (items_view moves.now)
HasMembers d (line.Question (question.InForce (plans.Drain server))) = text_at at.Server d ≡ Some server.now
HasMembers d (line.Question (question.State of)) = HasStateMembers d of
HasMembers d (line.Question (question.Since place)) = whole_at at.Place d ≡ Some place
HasMembers d (line.Question (question.InForce (plans.Audit server place slots))) =
    (text_at at.Server d ≡ Some server.now) × (whole_at at.Place d ≡ Some place)
    × (list_at at.Slots d ≡ Some (items_view slots.now))
HasMembers d (line.Question (question.InForce (plans.Failed plan stream number answer))) = IsOfOrder d plan stream number × (text_at at.Answer d ≡ Some (failed_word answer))
HasMembers d _ = Unit {0}

-- a line says a command
abbrev pub Says : Data → LineCommand → Type 0
Says d command = (text_at at.Do d ≡ Some (command_word command)) × HasMembers d command

-- the answer to a fence has the slots that were found, and the nonce
abbrev pub TellsFound : Option (Bor (List Tree)) → Option ℕ → InventoryText → Type 0
TellsFound slots bits told =
    (option_map (λ (found : Bor (List Tree)). items_view found.now) slots ≡ told_slots told) × (bits ≡ told_nonce told)

-- what was read of a line whose word this is
abbrev pub OfWord : List ℕ → Data → Result LineCommand BadLine → Type 0
OfWord word d read = IfOk read (λ command. (command_word command ≡ word) × HasMembers d command)
