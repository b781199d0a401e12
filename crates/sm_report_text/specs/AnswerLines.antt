-- The lines of the answers to calls.
use Rattle.std.specs.Prelude.{ℕ, List, [], ◌∷◌, codes, Option, Some, None}
use Rattle.std.specs.Fmt.{decimal}
use Rattle.sm_server.specs.declared.call.Refusal.{Refusal}
use Rattle.sm_server.specs.declared.call.Refusal.TheVariants.{Down, AlreadyHeld, NotHeld, WrongRole, NoRoom}
use Rattle.sm_report_text.specs.Lines.{line}

-- the number of a refusal; if several apply, the lowest is answered
abbrev pub refusal_number : Refusal → ℕ
refusal_number Down = 1
refusal_number AlreadyHeld = 2
refusal_number NotHeld = 3
refusal_number WrongRole = 4
refusal_number NoRoom = 5

-- the name of a refusal, as the line of an answer has it
abbrev pub refusal_name : Refusal → List ℕ
refusal_name Down = codes "Down"
refusal_name AlreadyHeld = codes "AlreadyHeld"
refusal_name NotHeld = codes "NotHeld"
refusal_name WrongRole = codes "WrongRole"
refusal_name NoRoom = codes "NoRoom"

-- the answer to the call of this number: it was made, or it was refused
abbrev pub answer_line : ℕ → Option Refusal → List ℕ
answer_line i None = line (codes "call " ∷ decimal i ∷ codes ": ok" ∷ [])
answer_line i (Some why) = line (codes "call " ∷ decimal i ∷ codes ": refused " ∷ decimal (refusal_number why) ∷ codes " " ∷ refusal_name why ∷ [])
