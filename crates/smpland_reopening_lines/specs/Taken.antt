-- The effects of lines on a reopening.
use Rattle.std.specs.Prelude.{◌≡◌, ◌≢◌, ◌<◌, ◌⊎◌, ℕ, List, [], Option, Some, None, map, option_and_then, option_map}
use Rattle.std.specs.Prelude.{true, unwrap_or}
use Rattle.std.specs.Borrow.{Bor}
use Rattle.json_tree.specs.declared.tree.Tree.{Tree}
use Rattle.sm_server.specs.declared.call.Role.{Role}
use Rattle.sm_placement.specs.Setup.{Setup, server_named, shard_named}
use Rattle.laws_network.specs.Reopening.{Confirm, Entries, Inventory, MapOwner, Party, Server, Settlement, Slots, Told}
use Rattle.laws_network.specs.Reopening.{Took, Unknown, entered, is_first}
use Rattle.sm_copies.specs.declared.order.ToldCopy.{ToldCopy}
use Rattle.sm_reopening.specs.Faults.{MayConfirm}
use Rattle.sm_reopening.specs.Ongoing.{net_reopening, told_copies}
use Rattle.sm_reopening.specs.States.{no_copy}
use Rattle.sm_reopening.specs.Settles.{is_due_settle}
use Rattle.json_tree.specs.View.{items_view, view}
use Rattle.serde_json.specs.Find.{as_str}
use Rattle.smpland_reopening.specs.Confirmed.{KeepsChosen, SettlesChosen}
use Rattle.smpland_reopening.specs.Proposal.{NamesLost}
use Rattle.smpland_reopening.specs.declared.choice.Choice.{Choice}
use Rattle.smpland_reopening.specs.Reopening.{IsUnder, ReopeningModel}
use Rattle.smpland_lines.specs.Choices.{AreChoicesSaid}
use Rattle.smpland_lines.specs.declared.choices.CellChoice.{CellChoice}
use Rattle.smpland_lines.specs.declared.choices.ShardChoice.{ShardChoice}
use Rattle.smpland_lines.specs.declared.command.InventoryText.{InventoryText}
use Rattle.smpland_lines.specs.declared.command.InventoryText.TheVariants as told
use Rattle.smpland_reopening_lines.specs.Slots.{AreSlotsOf}

-- The copies of all other parties stay, and a server that is Unknown tells none.
pub record KeepsCopies (party : Party) (inventory : Inventory) (old new : ℕ → ℕ → ToldCopy) : Type 0 where
  pub others : (s v : ℕ) → party ≢ Server v → new s v ≡ old s v
  pub unknown : (s v nonce : ℕ) → party ≡ Server v → inventory ≡ Unknown nonce → new s v ≡ no_copy

-- a copy that is told began below this number; one of view 0 is of no list that a reopening or an order began
abbrev pub BeganBelow : ℕ → ToldCopy → Type 0
BeganBelow base copy = (copy.view ≡ 0) ⊎ (copy.view < base)

-- A party has told what it has, for the first time at the fence with this base: copies that began below it.
pub record TakesToldOf (party : Party) (base : ℕ) (inventory : Inventory) (old new : ReopeningModel) : Type 0 where
  pub first : is_first (net_reopening old.ongoing) party base ≡ true
  pub taken : net_reopening new.ongoing ≡ entered (Told party base inventory) (net_reopening old.ongoing)
  pub copies : KeepsCopies party inventory (told_copies old.ongoing) (told_copies new.ongoing)
  pub below : (s v : ℕ) → party ≡ Server v → BeganBelow base (told_copies new.ongoing s v)
  pub under : IsUnder old new
  pub next : new.next ≡ old.next

-- some party has told something
abbrev pub TakesTold : ReopeningModel → ReopeningModel → Type 0
TakesTold old new = (party : Party) × (base : ℕ) × (inventory : Inventory) × TakesToldOf party base inventory old new

-- A settlement is confirmed that may be: it is that of the roles that were chosen, and the next driver opens with the
-- same.
pub record TakesConfirm (old new : ReopeningModel) : Type 0 where
  pub chosen : List Choice
  pub settlement : Settlement
  pub may : MayConfirm old.ongoing settlement
  pub settles : SettlesChosen old chosen settlement
  pub taken : net_reopening new.ongoing ≡ entered (Confirm settlement) (net_reopening old.ongoing)
  pub kept : KeepsChosen old new chosen
  pub copies : told_copies new.ongoing ≡ told_copies old.ongoing
  pub under : IsUnder old new

-- A party has taken its settle with this base, and has said so for the first time.
pub record TakesSettledOf (party : Party) (base : ℕ) (old new : ReopeningModel) : Type 0 where
  pub due : is_due_settle (net_reopening old.ongoing) party base ≡ true
  pub taken : net_reopening new.ongoing ≡ entered (Took party base) (net_reopening old.ongoing)
  pub copies : told_copies new.ongoing ≡ told_copies old.ongoing
  pub under : IsUnder old new
  pub next : new.next ≡ old.next

-- some party has taken its settle
abbrev pub TakesSettled : ReopeningModel → ReopeningModel → Type 0
TakesSettled old new = (party : Party) × (base : ℕ) × TakesSettledOf party base old new

-- ---- as lines ask for it

-- the party that a line names: the server of the name, and without a name the map's owner
abbrev pub party_named : Setup → Option (Bor (List ℕ)) → Option Party
party_named numbering (Some name) = option_map Server (server_named numbering name.now)
party_named numbering None = Some MapOwner

-- an inventory, with the copies of its slots, is of the slots that rows tell
abbrev pub ListsSlots : Setup → List Tree → Inventory → (ℕ → ToldCopy) → Type 0
ListsSlots numbering rows (Slots cells reached) copies =
    AreSlotsOf numbering rows (λ s. record { cell = cells s; copy = copies s; reached = reached s })
ListsSlots numbering rows (Unknown _) copies = ⊥
ListsSlots numbering rows Entries copies = ⊥

-- the inventory of a server is what a line tells: slots, or the nonce under which it asks for them
abbrev pub IsToldAs : Setup → InventoryText → Inventory → (ℕ → ToldCopy) → Type 0
IsToldAs numbering (told.Unknown nonce) inventory copies = inventory ≡ Unknown nonce
IsToldAs numbering (told.Slots rows) inventory copies = ListsSlots numbering rows.now inventory copies
IsToldAs numbering told.Map inventory copies = ListsSlots numbering [] inventory copies

-- that of the map's owner is the map
abbrev pub IsInventoryOf : Party → InventoryText → Inventory → ReopeningModel → Type 0
IsInventoryOf (Server v) told inventory new = IsToldAs new.numbering told inventory (λ s. told_copies new.ongoing s v)
IsInventoryOf MapOwner told inventory new = inventory ≡ Entries

-- a party has told what a line tells, by the names that have numbers
abbrev pub TakesToldBy : Party → ℕ → InventoryText → ReopeningModel → ReopeningModel → Type 0
TakesToldBy party base told old new = (inventory : Inventory) × IsInventoryOf party told inventory new
    × TakesToldOf party base inventory old new

-- the party that a line names has told what it tells
abbrev pub TakesFenced : Option (Bor (List ℕ)) → ℕ → InventoryText → ReopeningModel → ReopeningModel → Type 0
TakesFenced server base told old new = (party : Party) × (party_named old.numbering server ≡ Some party)
    × TakesToldBy party base told old new

-- the number of the shard that a value names, or one that no shard has
abbrev pub shard_told : Setup → Tree → ℕ
shard_told numbering value = unwrap_or (option_and_then (shard_named numbering) (as_str (view value))) 4294967295

-- the shard of a choice, and its replicas
abbrev pub choice_made : Choice → ℕ × List (ℕ × Role)
choice_made choice = (choice.shard, choice.replicas.items)

-- the server of a replica, and its role
abbrev pub replica_said : CellChoice → ℕ × Role
replica_said cell = (cell.server, cell.role)

-- the shard and the replicas of a choice that was read
abbrev pub choice_said : ShardChoice → ℕ × List (ℕ × Role)
choice_said choice = (choice.shard, map replica_said choice.cells.items)

-- the choices are those that values say, by the names of a document
abbrev pub AreChosen : Setup → List Tree → List Choice → Type 0
AreChosen config cells chosen = (said : List ShardChoice) × AreChoicesSaid config (items_view cells) said
    × (map choice_made chosen ≡ map choice_said said)

-- A settlement is confirmed of the reopening with this base. The first values name the roles that were chosen, and the
-- others the shards that may be lost.
abbrev pub ConfirmsAt : ℕ → List Tree → List Tree → ReopeningModel → ReopeningModel → Type 0
ConfirmsAt base cells lost old new =
    (base ≡ (net_reopening old.ongoing).base) × NamesLost old (map (shard_told old.numbering) lost)
    × (taken : TakesConfirm old new)
    × AreChosen old.document.config cells taken.chosen

-- the party that a line names has taken its settle with this base
abbrev pub TakesSettledBy : Option (Bor (List ℕ)) → ℕ → ReopeningModel → ReopeningModel → Type 0
TakesSettledBy server base old new = (party : Party) × (party_named old.numbering server ≡ Some party)
    × TakesSettledOf party base old new
