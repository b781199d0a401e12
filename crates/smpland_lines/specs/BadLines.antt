-- A reply to a line that is no command tells the kind of its fault, where the fault lies, and both in words.
-- `told_first` is internal: you need not read it for the public contracts.
use Rattle.std.specs.Prelude.{ℕ, List, [], ◌++◌, Option, Some, None, codes, decimal, nat_lt, if◌then◌else◌}
use Rattle.std.specs.List.{flat_map}
use Rattle.json.specs.Token.{Token}
use Rattle.sm_plan_text.specs.declared.fault.TextFault.{TextFault}
use Rattle.sm_plan_text.specs.declared.fault.TextFault.TheVariants as within
use Rattle.sm_plan_text.specs.declared.member.Member.{Member}
use Rattle.sm_plan_text.specs.declared.member.Member.TheVariants as inner
use Rattle.sm_plan_text.specs.Faults.{number_of}
use Rattle.sm_plan_text.specs.Members.{text_of}
use Rattle.smpland_lines.specs.declared.bad_line.BadLine.{BadLine}
use Rattle.smpland_lines.specs.declared.bad_line.BadLine.TheVariants.{NotJson, TooLong, Malformed, UnknownMember}
use Rattle.smpland_lines.specs.declared.bad_line.BadLine.TheVariants.{Missing, Shape, UnknownName, TooMany, Number}
use Rattle.smpland_lines.specs.declared.bad_line.BadLine.TheVariants.{Within}
use Rattle.smpland_lines.specs.declared.command_member.CommandMember.{CommandMember}
use Rattle.smpland_lines.specs.declared.command_member.CommandMember.TheVariants.{Command, Do}
use Rattle.smpland_lines.specs.declared.line_part.LinePart.{LinePart}
use Rattle.smpland_lines.specs.declared.line_part.LinePart.TheVariants.{Line, Entry, InnerEntry}
use Rattle.smpland_lines.specs.Lines.{command_words}
use Rattle.smpland_lines.specs.Members.{object_member}
use Rattle.smpland_lines.specs.Refusals.{bad_members}
use Rattle.smpland_lines.specs.Texts.{member_text}

-- the kind of a fault in a document or a plan
abbrev pub text_fault_kind : TextFault → List ℕ
text_fault_kind within.NoMemory = codes "NoMemory"
text_fault_kind within.NotJson = codes "NotJson"
text_fault_kind (within.Shape _) = codes "Shape"
text_fault_kind (within.UnknownName _) = codes "UnknownName"
text_fault_kind (within.TooMany _) = codes "TooMany"
text_fault_kind (within.Number _) = codes "Number"

-- a member somewhere in a document or a plan, unless it is that itself
abbrev pub member_below : Member → Option (List ℕ)
member_below inner.Document = None
member_below member = Some (text_of member)

-- the member in which a fault in a document or a plan lies, unless that is all of it
abbrev pub inner_text : TextFault → Option (List ℕ)
inner_text within.NoMemory = None
inner_text within.NotJson = None
inner_text (within.Shape member) = member_below member
inner_text (within.UnknownName member) = member_below member
inner_text (within.TooMany member) = member_below member
inner_text (within.Number member) = member_below member

-- the kind of a fault; that a member is not known, is missing or is not in its form, is of one kind
abbrev pub bad_kind : BadLine → List ℕ
bad_kind NotJson = codes "NotJson"
bad_kind TooLong = codes "TooLong"
bad_kind (Malformed _) = codes "Shape"
bad_kind (UnknownMember _ _) = codes "Shape"
bad_kind (Missing _ _) = codes "Shape"
bad_kind (Shape _ _) = codes "Shape"
bad_kind (UnknownName _ _) = codes "UnknownName"
bad_kind (TooMany _ _) = codes "TooMany"
bad_kind (Number _ _) = codes "Number"
bad_kind (Within _ fault) = text_fault_kind fault

-- the number of a kind, which is that of `smplan`
abbrev pub bad_number : BadLine → ℕ
bad_number NotJson = 2
bad_number (Malformed _) = 3
bad_number (UnknownMember _ _) = 3
bad_number (Missing _ _) = 3
bad_number (Shape _ _) = 3
bad_number (UnknownName _ _) = 4
bad_number (TooMany _ _) = 5
bad_number (Number _ _) = 6
bad_number TooLong = 7
bad_number (Within _ fault) = number_of fault

-- of two faults the one of the lower number is told, and of one number the first
abbrev pub told_first : Option BadLine → BadLine → BadLine
told_first None later = later
told_first (Some first) later = if nat_lt (bad_number later) (bad_number first) then later else first

-- the path of an entry of a list
abbrev pub entry_path : CommandMember → ℕ → List ℕ
entry_path list at = codes "." ++ member_text list ++ codes "[" ++ decimal at ++ codes "]"

-- the path of a part of a line
abbrev pub part_path : LinePart → List ℕ
part_path Line = codes "$"
part_path (Entry list at) = codes "$" ++ entry_path list at
part_path (InnerEntry outer outer_at list at) = codes "$" ++ entry_path outer outer_at ++ entry_path list at

-- the path of a member of a part
abbrev pub path_in : LinePart → List ℕ → List ℕ
path_in part name = part_path part ++ codes "." ++ name

-- behind the path of a document or a plan: that a member stands somewhere below
abbrev pub below_path : Option (List ℕ) → List ℕ
below_path (Some name) = codes ".." ++ name
below_path None = []

-- where a fault lies: a member that is missing lies in its object, and one that is not known where it stands
abbrev pub bad_path : BadLine → List ℕ
bad_path NotJson = codes "$"
bad_path TooLong = codes "$"
bad_path (Malformed part) = part_path part
bad_path (Missing part _) = part_path part
bad_path (UnknownMember part name) = path_in part name.now
bad_path (Shape part member) = path_in part (member_text member)
bad_path (UnknownName part member) = path_in part (member_text member)
bad_path (TooMany part member) = path_in part (member_text member)
bad_path (Number part member) = path_in part (member_text member)
bad_path (Within member fault) = path_in Line (member_text member) ++ below_path (inner_text fault)

-- the entry at a place of a list that stands in a part; below an entry of such a list no list stands
abbrev pub part_entry : LinePart → CommandMember → ℕ → LinePart
part_entry Line list at = Entry list at
part_entry (Entry outer outer_at) list at = InnerEntry outer outer_at list at
part_entry (InnerEntry outer outer_at inner inner_at) _ _ = InnerEntry outer outer_at inner inner_at

-- the list whose entry a part is; of the line itself what a bad line calls it
abbrev pub part_member : LinePart → CommandMember
part_member Line = Command
part_member (Entry list _) = list
part_member (InnerEntry _ _ list _) = list

-- the member below which a fault lies, or else the one that has the document or the plan
abbrev pub member_within : CommandMember → Option (List ℕ) → List ℕ
member_within _ (Some name) = name
member_within member None = member_text member

-- the member that is told
abbrev pub bad_member : BadLine → Option (List ℕ)
bad_member NotJson = None
bad_member TooLong = None
bad_member (Malformed part) = Some (member_text (part_member part))
bad_member (UnknownMember part _) = Some (member_text (part_member part))
bad_member (Missing _ member) = Some (member_text member)
bad_member (Shape _ member) = Some (member_text member)
bad_member (UnknownName _ member) = Some (member_text member)
bad_member (TooMany _ member) = Some (member_text member)
bad_member (Number _ member) = Some (member_text member)
bad_member (Within member fault) = Some (member_within member (inner_text fault))

-- a member behind a space, if one is told
abbrev pub member_words : Option (List ℕ) → List ℕ
member_words (Some name) = codes " " ++ name
member_words None = []

-- the name of a member that is not known, behind what it is no member of
abbrev pub unknown_words : BadLine → List ℕ
unknown_words (UnknownMember _ name) = codes " has no member " ++ name.now
unknown_words _ = []

-- what a line's `do` has to be: one of the words that there are
abbrev pub command_choices : List ℕ
command_choices = codes " has to be one of" ++ flat_map (λ word. codes " " ++ word) command_words

-- what a member has to be, if that is told
abbrev pub member_choices : CommandMember → List ℕ
member_choices Do = command_choices
member_choices _ = []

-- the same of the member that is missing, or not in its form
abbrev pub choices_words : BadLine → List ℕ
choices_words (Missing _ member) = member_choices member
choices_words (Shape _ member) = member_choices member
choices_words _ = []

-- a kind with its number, in words
abbrev pub kind_words : ℕ → List ℕ → List ℕ
kind_words n kind = codes "bad input: " ++ decimal n ++ codes " " ++ kind

-- the words for a fault that `smplan` has, too
abbrev pub plain_words : BadLine → List ℕ
plain_words bad = kind_words (bad_number bad) (bad_kind bad) ++ member_words (bad_member bad)

-- a fault in words
abbrev pub bad_words : BadLine → List ℕ
bad_words bad = plain_words bad ++ unknown_words bad ++ choices_words bad

-- what is wrong with a line, as a member of its reply
abbrev pub told_bad : BadLine → List Token
told_bad bad = object_member (codes "bad") (bad_members (bad_kind bad) (bad_path bad) (bad_words bad))
