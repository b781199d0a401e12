-- The line of an input that is no document.
use Rattle.std.specs.Prelude.{ℕ, List, [], ◌∷◌, codes}
use Rattle.sm_plan_text.specs.declared.fault.TextFault.{TextFault}
use Rattle.sm_plan_text.specs.declared.fault.TextFault.TheVariants.{NoMemory, NotJson, Shape, UnknownName, TooMany}
use Rattle.sm_plan_text.specs.declared.fault.TextFault.TheVariants.{Number}
use Rattle.sm_plan_text.specs.Members.{text_of}
use Rattle.sm_report_text.specs.Lines.{line}

-- the line of a fault that lies in no member
abbrev pub bad_input_line : List ℕ → List ℕ
bad_input_line what = line (codes "bad input: " ∷ what ∷ [])

-- the line of a fault, with the member that it lies in
abbrev pub bad_member_line : List ℕ → List ℕ → List ℕ
bad_member_line what member = line (codes "bad input: " ∷ what ∷ codes " " ∷ member ∷ [])

-- The line that says what is wrong with a text. The one of NoMemory is in no report: if memory is short, nothing is
-- written.
abbrev pub text_fault_line : TextFault → List ℕ
text_fault_line NoMemory = bad_input_line (codes "1 NoMemory")
text_fault_line NotJson = bad_input_line (codes "2 NotJson")
text_fault_line (Shape member) = bad_member_line (codes "3 Shape") (text_of member)
text_fault_line (UnknownName member) = bad_member_line (codes "4 UnknownName") (text_of member)
text_fault_line (TooMany member) = bad_member_line (codes "5 TooMany") (text_of member)
text_fault_line (Number member) = bad_member_line (codes "6 Number") (text_of member)

-- the line of an input that is longer than any document may be
abbrev pub too_long_line : List ℕ
too_long_line = bad_input_line (codes "7 TooLong")
