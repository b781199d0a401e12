-- The lowest server that is down and mentioned, found along the codes, as `first_holding` finds it. The law
-- `finds_holding` says what that finds, without any of this.
use Rattle.std.specs.Prelude.{ℕ, Bool, Option, Some, None, List, [], ◌∷◌, nat_lt, if◌then◌else◌}
use Rattle.sm_plan_code.specs.declared.instruction.Instr.{Instr}
use Rattle.sm_plan_code.specs.Instr.{names_of}
use Rattle.sm_plan_code.specs.Plan.{StreamModel}

-- the lower one of two numbers, if they are given
abbrev pub lower_number : Option ℕ → Option ℕ → Option ℕ
lower_number None b = b
lower_number (Some v) None = Some v
lower_number (Some v) (Some w) = if nat_lt w v then Some w else Some v

-- the server, if it is down
abbrev pub if_down : (ℕ → Bool) → Option ℕ → Option ℕ
if_down down None = None
if_down down (Some v) = if down v then Some v else None

-- the lowest server that is down, of the one found before and those that this instruction mentions
abbrev pub down_at : (ℕ → Bool) → Option ℕ → Instr → Option ℕ
down_at down lowest i = lower_number (lower_number lowest (if_down down (names_of i).first)) (if_down down (names_of i).second)

-- the lowest server that is down, of the one found before and those that this code mentions
abbrev pub down_in_code : (ℕ → Bool) → Option ℕ → List Instr → Option ℕ
down_in_code down lowest [] = lowest
down_in_code down lowest (i ∷ is) = down_in_code down (down_at down lowest i) is

-- the lowest server that is down, of the one found before and those that the codes of these streams mention
abbrev pub down_in_streams : (ℕ → Bool) → Option ℕ → List StreamModel → Option ℕ
down_in_streams down lowest [] = lowest
down_in_streams down lowest (s ∷ ss) = down_in_streams down (down_in_code down lowest s.code) ss
