-- The data that a tree stands for.
use Rattle.std.specs.Prelude.{ℕ, List, [], ◌∷◌, map}
use Rattle.std.specs.Borrow.{Bor}
use Rattle.serde_json.specs.Data.{Data, null, boolean, number, string, array, object, Items, Members, no_members, put}
use Rattle.serde_json.specs.View.{number_view, items_of}
use Rattle.json_tree.specs.declared.tree.Tree.{Tree, fold-Tree}
use Rattle.json_tree.specs.declared.tree.Tree.TheOpen.{Tree-F}

-- The members go in one after another, so the last value of a name stays.
abbrev pub members_after : Members → List (Bor (List ℕ) × Data) → Members
members_after found [] = found
members_after found (m ∷ ms) = members_after (put m.0.now m.1 found) ms

-- one level, with each tree inside already seen as its data
abbrev pub view_step : Tree-F Data → Data
view_step Tree-F.Null = null
view_step (Tree-F.Bool b) = boolean b
view_step (Tree-F.Number n) = number (number_view n)
view_step (Tree-F.String s) = string s.now
view_step (Tree-F.Array v) = array (items_of v.items)
view_step (Tree-F.Object v) = object (members_after no_members v.items)

-- the JSON value (RFC 8259) that a tree stands for
abbrev pub view : Tree → Data
view = fold-Tree Data view_step

-- the values of an array that has these trees
abbrev pub items_view : List Tree → Items
items_view trees = items_of (map view trees)

-- the members of an object that has these names and trees; of a name that stands twice, the last value
abbrev pub members_view : List (Bor (List ℕ) × Tree) → Members
members_view members = members_after no_members (map (λ m. (m.0, view m.1)) members)
