-- The faults of a text, and the one that is answered.
use Rattle.std.specs.Prelude.{◌≡◌, ◌<◌, ◌≤◌, ℕ, List, [], ◌∷◌, ◌++◌, Option, Some, None, nat_lt, if◌then◌else◌, All}
use Rattle.sm_plan_text.specs.declared.fault.TextFault.{TextFault}
use Rattle.sm_plan_text.specs.declared.fault.TextFault.TheVariants.{NoMemory, NotJson, Shape, UnknownName, TooMany}
use Rattle.sm_plan_text.specs.declared.fault.TextFault.TheVariants.{Number}

-- the number of a fault, as its line says it: of several faults one of the lowest number is answered
abbrev pub number_of : TextFault → ℕ
number_of NoMemory = 1
number_of NotJson = 2
number_of (Shape _) = 3
number_of (UnknownName _) = 4
number_of (TooMany _) = 5
number_of (Number _) = 6

-- the one of lower number, of equals the first
abbrev pub lower_fault : Option TextFault → TextFault → TextFault
lower_fault None later = later
lower_fault (Some best) later = if nat_lt (number_of later) (number_of best) then later else best

-- what is answered once these faults have come too
abbrev pub noted : Option TextFault → List TextFault → Option TextFault
noted best [] = best
noted best (fault ∷ faults) = noted (Some (lower_fault best fault)) faults

-- what is answered of the faults that a walk meets
abbrev pub answered : List TextFault → Option TextFault
answered faults = noted None faults

-- of the lowest number the first: the faults before it have higher numbers, and those after it have no lower ones
pub record IsFirstOfLowest (faults : List TextFault) (fault : TextFault) : Type 0 where
  pub before : List TextFault
  pub after : List TextFault
  pub stands : faults ≡ before ++ fault ∷ after
  pub above : All (λ other. number_of fault < number_of other) before
  pub not_below : All (λ other. number_of fault ≤ number_of other) after
