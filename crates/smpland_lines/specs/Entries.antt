-- The entries of a line's lists: which have the text of an earlier one, and which are no names.
-- `text_in_entry`, `IsDouble`, `AreSingle` and `is_nameless` are internal: you need not read them for the public contracts.
use Rattle.std.specs.Prelude.{◌≡◌, ◌<◌, ℕ, Bool, false, List, Option, Some, not, option_and_then, slice_get}
use Rattle.std.specs.Option.{option_map_or}
use Rattle.serde_json.specs.Data.{Data}
use Rattle.serde_json.specs.Find.{as_str}
use Rattle.json_tree.specs.View.{view}
use Rattle.json_tree.specs.declared.tree.Tree.{Tree}
use Rattle.sm_placement.specs.Names.{is_name}
use Rattle.smpland_lines.specs.Values.{text_at}
use Rattle.smpland_lines.specs.declared.command_member.CommandMember.{CommandMember}

-- the text that the entry at a place has in a member, if it has one
abbrev pub text_in_entry : CommandMember → List Tree → ℕ → Option (List ℕ)
text_in_entry key entries at = option_and_then (λ (entry : Tree). text_at key (view entry)) (slice_get entries at)

-- the entry at a place has in a member the text of an earlier one
pub record IsDouble (key : CommandMember) (entries : List Tree) (at : ℕ) : Type 0 where
  pub text : List ℕ
  pub here : text_in_entry key entries at ≡ Some text
  pub earlier : ℕ
  pub before : earlier < at
  pub there : text_in_entry key entries earlier ≡ Some text

-- none of so many first entries has
abbrev pub AreSingle : CommandMember → List Tree → ℕ → Type 0
AreSingle key entries count = (at : ℕ) → at < count → IsDouble key entries at → ⊥

-- a value is no name
abbrev pub is_nameless : Data → Bool
is_nameless d = not (option_map_or is_name (as_str d) false)
