-- Facts that are known once a member was read, and which members may stand in an object.
-- `is_clean`, `is_needed`, `row_member`, `object_data`, `ReadsOn`, `IsRead`, `IsValueOf`, `is_name_of`, `is_whole_line`, `may_stand`, `first_unknown` and
-- `IsObjectFault` are internal: you need not read them for the public contracts.
use Rattle.std.specs.Prelude.{◌≡◌, ◌&&◌, ◌||◌, ℕ, List, [], ◌∷◌, Bool, Option, true, false, find, is_none, not}
use Rattle.std.specs.Prelude.{option_map}
use Rattle.std.specs.Borrow.{Bor}
use Rattle.std.specs.List.{list_any}
use Rattle.std.specs.Str.{bytes_eq}
use Rattle.serde_json.specs.Data.{Data}
use Rattle.json_tree.specs.View.{view}
use Rattle.json_tree.specs.declared.tree.Tree.{Tree}
use Rattle.smpland_lines.specs.Texts.{member_text}
use Rattle.smpland_lines.specs.declared.bad_line.BadLine.{BadLine}
use Rattle.smpland_lines.specs.declared.bad_line.BadLine.TheVariants.{Malformed, UnknownMember}
use Rattle.smpland_lines.specs.declared.command_member.CommandMember.{CommandMember}
use Rattle.smpland_lines.specs.declared.command_member.CommandMember.TheVariants.{Do, Id}
use Rattle.smpland_lines.specs.declared.line_part.LinePart.{LinePart}
use Rattle.smpland_lines.specs.declared.line_part.LinePart.TheVariants.{Line, Entry, InnerEntry}
use Rattle.smpland_lines.specs.declared.faults.Faults.{Faults}
use Rattle.smpland_lines.specs.declared.reader.Reader.{Reader}
use Rattle.smpland_lines.specs.declared.row.Row.{Row}
use Rattle.smpland_lines.specs.declared.row.Row.TheVariants.{One, Maybe}

-- no fault was met
abbrev pub is_clean : Faults → Bool
is_clean faults = is_none faults.lowest

-- the member has to be there
abbrev pub is_needed : Row → Bool
is_needed (One _) = true
is_needed (Maybe _) = false

-- the member of a row
abbrev pub row_member : Row → CommandMember
row_member (One member) = member
row_member (Maybe member) = member

-- the object that is read
abbrev pub object_data : Reader → Data
object_data reader = view reader.object.now

-- The same object is read, and a fault that was met before stays one.
pub record ReadsOn (old new : Reader) : Type 0 where
  pub object : new.object ≡ old.object
  pub kept : is_clean new.faults ≡ true → is_clean old.faults ≡ true

-- So it is, and there is a fault if a member that has to be there was not found.
pub record IsRead (old new : Reader) (row : Row) (found : Bool) : Type 0 where
  pub on : ReadsOn old new
  pub there : is_clean new.faults ≡ true → is_needed row ≡ true → found ≡ true

-- if no fault was met, the value that was found in a member is the one that it has
abbrev pub IsValueOf : {A : Type 0} → Reader → Reader → (CommandMember → Data → Option A) → Row → Option A → Type 0
IsValueOf old new value row found = is_clean new.faults ≡ true → found ≡ value (row_member row) (object_data old)

-- a text is the name of one of these members
abbrev pub is_name_of : List CommandMember → List ℕ → Bool
is_name_of members name = list_any (λ member. bytes_eq name (member_text member)) members

-- a part is the line itself
abbrev pub is_whole_line : LinePart → Bool
is_whole_line Line = true
is_whole_line (Entry _ _) = false
is_whole_line (InnerEntry _ _ _ _) = false

-- a member of this name may stand in a part: one of these, and in a line what each command has
abbrev pub may_stand : LinePart → List CommandMember → List ℕ → Bool
may_stand part members name = is_name_of members name || (is_whole_line part && is_name_of (Do ∷ Id ∷ []) name)

-- the name of the first of an object's members that may not stand in the part that it is
abbrev pub first_unknown : LinePart → List CommandMember → List (Bor (List ℕ) × Tree) → Option (List ℕ)
first_unknown part known members = option_map (λ m. m.0.now) (find (λ m. not (may_stand part known m.0.now)) members)

-- a fault of a part that has to be an object of members with these names
abbrev pub IsObjectFault : LinePart → List CommandMember → BadLine → Type 0
IsObjectFault part members (Malformed found) = found ≡ part
IsObjectFault part members (UnknownMember found name) = (found ≡ part) × (may_stand part members name.now ≡ false)
IsObjectFault part members _ = ⊥
