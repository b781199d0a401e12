-- Choices row by row.
use Rattle.std.proofs.Common.{◌++◌, ◌∷◌, [], List}
use Rattle.json_tree.specs.View.{items_view, view}
use Rattle.json_tree.specs.declared.tree.Tree.{Tree}
use Rattle.sm_placement.specs.Setup.{Setup}
use Rattle.smpland_lines.specs.Choices.{AreCellsSaid, AreChoicesSaid, IsCellSaid, IsChoiceSaid}
use Rattle.smpland_lines.specs.declared.choices.CellChoice.{CellChoice}
use Rattle.smpland_lines.specs.declared.choices.ShardChoice.{ShardChoice}

-- one more replica is the one that one more row says
pub cells_more : (config : Setup) (rows : List Tree) (cells : List CellChoice) (row : Tree) (cell : CellChoice) → AreCellsSaid config (items_view rows) cells →
    IsCellSaid config (view row) cell → AreCellsSaid config (items_view (rows ++ row ∷ [])) (cells ++ cell ∷ [])
cells_more config [] [] row cell said says = (says, tt)
cells_more config (r ∷ rows) (c ∷ cells) row cell said says = (said.0, cells_more config rows cells row cell said.1 says)
cells_more config [] (c ∷ cells) row cell said says = absurd said
cells_more config (r ∷ rows) [] row cell said says = absurd said

-- one more choice
pub choices_more : (config : Setup) (rows : List Tree) (choices : List ShardChoice) (row : Tree) (choice : ShardChoice) → AreChoicesSaid config (items_view rows) choices →
    IsChoiceSaid config (view row) choice → AreChoicesSaid config (items_view (rows ++ row ∷ [])) (choices ++ choice ∷ [])
choices_more config [] [] row choice said says = (says, tt)
choices_more config (r ∷ rows) (c ∷ choices) row choice said says = (said.0, choices_more config rows choices row choice said.1 says)
choices_more config [] (c ∷ choices) row choice said says = absurd said
choices_more config (r ∷ rows) [] row choice said says = absurd said
