-- The servers that codes mention, as a flag for each server up to the last of them.
-- Internal definitions, and what a `ReadyPlan` keeps: you need not read them for the public contracts.
use Rattle.std.specs.Prelude.{◌≡◌, ◌<◌, ℕ, Bool, false, ◌||◌, List, [], Option, Some, length, slice_index_or}
use Rattle.std.specs.List.{list_any}
use Rattle.sm_reservation.specs.Amounts.{same_listed}
use Rattle.sm_plan_code.specs.declared.instruction.Instr.{Instr}
use Rattle.sm_plan_code.specs.Plan.{StreamModel}
use Rattle.sm_verifier.specs.Stream.{no_stream}
use Rattle.sm_protocol.specs.Happens.{is_mentioned}

-- the set has the server
abbrev pub is_in : List Bool → ℕ → Bool
is_in flags v = slice_index_or flags v false

-- the set has the servers that the code mentions, and no other
abbrev pub AreMentioned : List Instr → List Bool → Type 0
AreMentioned code flags = (v : ℕ) → is_in flags v ≡ list_any (is_mentioned v) code

-- for each stream, in their order, there is the set of those that its code mentions
pub record AreMentionedBy (streams : List StreamModel) (sets : List (List Bool)) : Type 0 where
  pub count : length sets ≡ length streams
  pub each : (i : ℕ) → i < length streams
      → AreMentioned (slice_index_or streams i no_stream).code (slice_index_or sets i [])

-- the set has grown by a server, if one is given
abbrev pub HasGrownBy : Option ℕ → List Bool → List Bool → Type 0
HasGrownBy server old new = (v : ℕ) → is_in new v ≡ (is_in old v || same_listed server (Some v))

-- the set has grown by what the code mentions
abbrev pub HasGrownByCode : List Instr → List Bool → List Bool → Type 0
HasGrownByCode code old new = (v : ℕ) → is_in new v ≡ (is_in old v || list_any (is_mentioned v) code)
