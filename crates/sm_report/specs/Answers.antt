-- Calls made one after the other, and the lines of their answers.
-- `IsKnownNamed` is internal: you need not read it for the public contracts.
use Rattle.std.specs.Prelude.{◌<◌, ℕ, ◌+◌, length, List, [], ◌∷◌, ◌++◌, codes, Option, Some, None, Result, Ok, Err}
use Rattle.std.specs.Fmt.{decimal}
use Rattle.sm_server.specs.declared.call.Refusal.{Refusal}
use Rattle.sm_server.specs.declared.call.Refusal.TheVariants.{Down, AlreadyHeld, NotHeld, WrongRole, NoRoom}
use Rattle.sm_placement.specs.Setup.{Setup, Sizes}
use Rattle.sm_placement.specs.Rows.{IsKnownCall}
use Rattle.sm_placement.specs.Place.{Place, called}
use Rattle.sm_plan_text.specs.Calls.{NamedCall}
use Rattle.sm_report_text.specs.AnswerLines.{answer_line}

-- the call's shard and servers are known
abbrev pub IsKnownNamed : Setup → NamedCall → Type 0
IsKnownNamed setup named = (named.0 < length setup.shards) × (named.1 < length setup.servers)
    × IsKnownCall (length setup.servers) named.2

-- what a call makes of a placement, or why it is refused there
abbrev pub result_of : Sizes → Place → NamedCall → Result Place Refusal
result_of c p named = called c p named.0 named.1 named.2

-- the placement that a call led to; if it was refused, the one before it
abbrev place_in : Place → Result Place Refusal → Place
place_in p (Ok next) = next
place_in p (Err why) = p

-- the placement after a call, which a refused call leaves as it was
abbrev pub place_after : Sizes → Place → NamedCall → Place
place_after c p named = place_in p (result_of c p named)

-- why a call was refused, if it was
abbrev refusal_in : Result Place Refusal → Option Refusal
refusal_in (Ok next) = None
refusal_in (Err why) = Some why

-- why a call is refused, if it is
abbrev pub refusal_at : Sizes → Place → NamedCall → Option Refusal
refusal_at c p named = refusal_in (result_of c p named)

-- the placement after calls made one after the other
abbrev pub place_after_all : Sizes → Place → List NamedCall → Place
place_after_all c p [] = p
place_after_all c p (named ∷ rest) = place_after_all c (place_after c p named) rest

-- the lines of the answers to calls made one after the other, numbered from i
abbrev pub answer_lines : Sizes → Place → ℕ → List NamedCall → List ℕ
answer_lines c p i [] = []
answer_lines c p i (named ∷ rest) = answer_line i (refusal_at c p named)
    ++ answer_lines c (place_after c p named) (i + 1) rest
