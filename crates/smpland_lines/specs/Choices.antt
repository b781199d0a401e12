-- The choices of a confirmation: what its rows say, and which are of known shards and servers.
use Rattle.std.specs.Prelude.{◌≡◌, ◌<◌, All, List, [], ◌∷◌, ℕ, Some, codes, length, option_and_then}
use Rattle.serde_json.specs.Data.{Data, Items, item, no_items}
use Rattle.sm_server.specs.declared.call.Role.{Role}
use Rattle.sm_server.specs.declared.call.Role.TheVariants as role
use Rattle.sm_placement.specs.Setup.{Setup, server_named, shard_named}
use Rattle.smpland_lines.specs.Values.{list_at, text_at}
use Rattle.smpland_lines.specs.declared.choices.CellChoice.{CellChoice}
use Rattle.smpland_lines.specs.declared.choices.ShardChoice.{ShardChoice}
use Rattle.smpland_lines.specs.declared.command_member.CommandMember.TheVariants as at

-- the configuration has the server of the replica
abbrev pub HasKnownServer : Setup → CellChoice → Type 0
HasKnownServer config cell = cell.server < length config.servers

-- the configuration has the shard, and the servers of its replicas
pub record IsKnownChoice (config : Setup) (choice : ShardChoice) : Type 0 where
  pub shard : choice.shard < length config.shards
  pub cells : All (HasKnownServer config) choice.cells.items

-- ---- what rows say

-- the word of a role
abbrev pub role_chosen_word : Role → List ℕ
role_chosen_word role.Primary = codes "primary"
role_chosen_word role.Secondary = codes "secondary"

-- a replica is the one that a row says: of the server that it names, in the role of its word
pub record IsCellSaid (config : Setup) (row : Data) (cell : CellChoice) : Type 0 where
  pub server : option_and_then (server_named config) (text_at at.Server row) ≡ Some cell.server
  pub role : text_at at.State row ≡ Some (role_chosen_word cell.role)

-- the replicas are those that rows say, one for each, in their order
abbrev pub AreCellsSaid : Setup → Items → List CellChoice → Type 0
AreCellsSaid config no_items [] = Unit {0}
AreCellsSaid config (item row rows) (cell ∷ cells) = IsCellSaid config row cell × AreCellsSaid config rows cells
AreCellsSaid config no_items (cell ∷ cells) = ⊥
AreCellsSaid config (item row rows) [] = ⊥

-- a choice is the one that a row says: of the shard that it names, with the replicas of its list
pub record IsChoiceSaid (config : Setup) (row : Data) (choice : ShardChoice) : Type 0 where
  pub shard : option_and_then (shard_named config) (text_at at.Shard row) ≡ Some choice.shard
  pub rows : Items
  pub list : list_at at.Cells row ≡ Some rows
  pub cells : AreCellsSaid config rows choice.cells.items

-- the choices are those that rows say, one for each, in their order
abbrev pub AreChoicesSaid : Setup → Items → List ShardChoice → Type 0
AreChoicesSaid config no_items [] = Unit {0}
AreChoicesSaid config (item row rows) (choice ∷ choices) = IsChoiceSaid config row choice
    × AreChoicesSaid config rows choices
AreChoicesSaid config no_items (choice ∷ choices) = ⊥
AreChoicesSaid config (item row rows) [] = ⊥
