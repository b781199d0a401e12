-- The values of the members of a line's object.
-- `is_hexadecimal` is internal: you need not read it for the public contracts.
use Rattle.std.specs.Prelude.{◌&&◌, ◌||◌, ℕ, List, Bool, Option, nat_le, option_and_then, option_map, unwrap_or}
use Rattle.std.specs.Str.Parse.{digits_value}
use Rattle.serde_json.specs.Data.{Data, Items, no_items}
use Rattle.serde_json.specs.Find.{get, as_array, as_bool, as_number, as_str, as_u64}
use Rattle.smpland_lines.specs.declared.command_member.CommandMember.{CommandMember}
use Rattle.smpland_lines.specs.Texts.{member_text}

-- the value of a member, if it is there
abbrev pub value_at : CommandMember → Data → Option Data
value_at member d = get (member_text member) d

-- the text that a member is, if it is one
abbrev pub text_at : CommandMember → Data → Option (List ℕ)
text_at member d = option_and_then as_str (value_at member d)

-- the whole number from 0 on that a value is, if it is one
abbrev pub whole : Data → Option ℕ
whole d = option_and_then as_u64 (as_number d)

-- the whole number from 0 on that a member is, if it is one
abbrev pub whole_at : CommandMember → Data → Option ℕ
whole_at member d = option_and_then whole (value_at member d)

-- the truth value that a member is, if it is one
abbrev pub truth_at : CommandMember → Data → Option Bool
truth_at member d = option_and_then as_bool (value_at member d)

-- a byte is a hexadecimal digit as lines write them: 0 to 9, or a to f
abbrev pub is_hexadecimal : ℕ → Bool
is_hexadecimal b = (nat_le 48 b && nat_le b 57) || (nat_le 97 b && nat_le b 102)

-- the number that the hexadecimal digits of a member's text write
abbrev pub bits_at : CommandMember → Data → Option ℕ
bits_at member d = option_map (digits_value 16) (text_at member d)

-- the entries of the list that a member is, if it is one
abbrev pub list_at : CommandMember → Data → Option Items
list_at member d = option_and_then as_array (value_at member d)

-- the same of a list that may be missing, and has no entries then
abbrev pub entries_at : CommandMember → Data → Items
entries_at member d = unwrap_or (list_at member d) no_items
