-- The ids by which clients tell their lines.
-- `value_fault` and `id_fault` are internal: you need not read them for the public contracts.
use Rattle.std.specs.Prelude.{◌&&◌, ℕ, Bool, List, [], Option, Some, None, codes, if◌then◌else◌, length, nat_le}
use Rattle.std.specs.Prelude.{option_and_then}
use Rattle.std.specs.List.{list_all}
use Rattle.std.specs.Option.{option_map_or}
use Rattle.json.specs.Token.{Token}
use Rattle.serde_json.specs.Data.{Data, Num, number, string, unsigned}
use Rattle.sm_placement.specs.Names.{is_name_byte}
use Rattle.smpland_lines.specs.Members.{number_member, text_member}
use Rattle.smpland_lines.specs.Values.{value_at}
use Rattle.smpland_lines.specs.declared.bad_line.BadLine.{BadLine}
use Rattle.smpland_lines.specs.declared.bad_line.BadLine.TheVariants.{Number, Shape}
use Rattle.smpland_lines.specs.declared.command_member.CommandMember.TheVariants as at
use Rattle.smpland_lines.specs.declared.line_part.LinePart.TheVariants.{Line}
use Rattle.smpland_lines.specs.declared.form.TheConstants.{MOST_EXACT, MOST_LABEL}

-- a label: 1 to 64 bytes, each allowed in names
abbrev pub is_label : List ℕ → Bool
is_label bytes = (nat_le 1 (length bytes) && nat_le (length bytes) MOST_LABEL) && list_all is_name_byte bytes

-- a value as a reply tells it again, if it is a label or a whole number
abbrev pub told_id : Data → List Token
told_id (string text) = if is_label text then text_member (codes "id") text else []
told_id (number (unsigned n)) = if nat_le n MOST_EXACT then number_member (codes "id") n else []
told_id _ = []

-- the id of a line, with which its reply begins: none if the line has none, or one that is neither
abbrev pub line_id : Data → List Token
line_id d = option_map_or told_id (value_at at.Id d) []

-- what is wrong with a value as an id: a text that is no label, a number that is no whole one up to the limit, or
-- neither
abbrev pub value_fault : Data → Option BadLine
value_fault (string text) = if is_label text then None else Some (Shape Line at.Id)
value_fault (number (unsigned n)) = if nat_le n MOST_EXACT then None else Some (Number Line at.Id)
value_fault (number _) = Some (Number Line at.Id)
value_fault _ = Some (Shape Line at.Id)

-- what is wrong with the id of a line, if it has one
abbrev pub id_fault : Data → Option BadLine
id_fault d = option_and_then value_fault (value_at at.Id d)
