-- Rows of the same values say the same choices.
use Rattle.std.proofs.Common.{◌≡◌, ◌∙◌, ℕ, List, [], ◌∷◌, Option, Some, ap, ap₂, map, refl, subst, sym}
use Rattle.std.specs.Prelude.{option_and_then}
use Rattle.serde_json.specs.Data.{Data, Items, item, no_items}
use Rattle.sm_server.specs.declared.call.Role.{Role}
use Rattle.sm_server.specs.declared.call.Role.TheVariants as role
use Rattle.sm_placement.specs.Setup.{Setup, server_named, shard_named}
use Rattle.smpland_lines.specs.Choices.{AreCellsSaid, AreChoicesSaid, IsCellSaid, IsChoiceSaid, role_chosen_word}
use Rattle.smpland_lines.specs.Values.{list_at, text_at}
use Rattle.smpland_lines.specs.declared.choices.CellChoice.{CellChoice}
use Rattle.smpland_lines.specs.declared.choices.ShardChoice.{ShardChoice}
use Rattle.smpland_lines.specs.declared.command_member.CommandMember.TheVariants as at
use Rattle.smpland_reopening_lines.specs.Taken.{choice_said, replica_said}
use Rattle.laws_session.proofs.Commands.{apart, one_value}

-- a word is of one role
one_role : (a b : Role) → role_chosen_word b ≡ role_chosen_word a → b ≡ a
one_role role.Primary role.Primary is = refl
one_role role.Secondary role.Secondary is = refl
one_role role.Primary role.Secondary is = apart (role_chosen_word role.Primary) (role_chosen_word role.Secondary) (ap (λ w. Some w) (sym is)) refl
one_role role.Secondary role.Primary is = apart (role_chosen_word role.Secondary) (role_chosen_word role.Primary) (ap (λ w. Some w) (sym is)) refl

-- a replica by its server and its role
abbrev replica_by : ℕ → Role → ℕ × Role
replica_by server role = (server, role)

-- a row says one replica
one_cell_said : (config : Setup) (row : Data) (a b : CellChoice) → IsCellSaid config row a → IsCellSaid config row b → replica_said b ≡ replica_said a
one_cell_said config row a b x y =
    ap₂ replica_by (one_value (option_and_then (server_named config) (text_at at.Server row)) a.server b.server x.server y.server)
    (one_role a.role b.role (one_value (text_at at.State row) (role_chosen_word a.role) (role_chosen_word b.role) x.role y.role))

-- a list by its first item
abbrev list_by : {A : Type 0} → A → List A → List A
list_by x xs = x ∷ xs

-- rows say one list of replicas
one_cells : (config : Setup) (rows : Items) (a b : List CellChoice) → AreCellsSaid config rows a → AreCellsSaid config rows b → map replica_said b ≡ map replica_said a
one_cells config no_items [] [] x y = refl
one_cells config no_items [] (d ∷ ds) x y = absurd y
one_cells config no_items (c ∷ cs) b x y = absurd x
one_cells config (item row rows) (c ∷ cs) (d ∷ ds) x y = ap₂ list_by (one_cell_said config row c d x.0 y.0) (one_cells config rows cs ds x.1 y.1)
one_cells config (item row rows) (c ∷ cs) [] x y = absurd y
one_cells config (item row rows) [] b x y = absurd x

-- a choice by its shard and its replicas
abbrev choice_by : ℕ → List (ℕ × Role) → ℕ × List (ℕ × Role)
choice_by shard replicas = (shard, replicas)

-- a row says one choice
one_choice_said : (config : Setup) (row : Data) (a b : ShardChoice) → IsChoiceSaid config row a → IsChoiceSaid config row b → choice_said b ≡ choice_said a
one_choice_said config row a b x y =
    let rows : y.rows ≡ x.rows = one_value (list_at at.Cells row) x.rows y.rows x.list y.list in
    ap₂ choice_by (one_value (option_and_then (shard_named config) (text_at at.Shard row)) a.shard b.shard x.shard y.shard)
    (one_cells config x.rows a.cells.items b.cells.items x.cells (subst (λ (is : Items). AreCellsSaid config is b.cells.items) rows y.cells))

-- rows say one list of choices
pub one_choices : (config : Setup) (rows : Items) (a b : List ShardChoice) → AreChoicesSaid config rows a → AreChoicesSaid config rows b → map choice_said b ≡ map choice_said a
one_choices config no_items [] [] x y = refl
one_choices config no_items [] (d ∷ ds) x y = absurd y
one_choices config no_items (c ∷ cs) b x y = absurd x
one_choices config (item row rows) (c ∷ cs) (d ∷ ds) x y = ap₂ list_by (one_choice_said config row c d x.0 y.0) (one_choices config rows cs ds x.1 y.1)
one_choices config (item row rows) (c ∷ cs) [] x y = absurd y
one_choices config (item row rows) [] b x y = absurd x
