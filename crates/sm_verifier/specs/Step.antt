-- The answer of one instruction, the capacity that its maker needs, and how far amounts grow.
-- Public functions' contracts cite `parcels_of`, by way of Stream. The others are internal: you need not read them for
-- the public contracts.
use Rattle.std.specs.Prelude.{◌≡◌, ◌+◌, ◌≤◌, ℕ, Result, Ok, Err, List, length, slice_index_or}
use Rattle.sm_reservation.specs.Rights.{Rights, no_rights}
use Rattle.sm_reservation.specs.Hold.{Hold}
use Rattle.sm_reservation.specs.Capacity.{HoldModel, most_keys}
use Rattle.sm_plan_code.specs.declared.instruction.Instr.{Instr}
use Rattle.sm_plan_code.specs.declared.instruction.Instr.TheVariants.{PrepareAdd, PrepareDrop, Add, Drop, Change}
use Rattle.sm_plan_code.specs.declared.instruction.Instr.TheVariants.{Publish, Unlist, Signal, Wait}
use Rattle.sm_plan_code.specs.declared.instruction.Why.{Why}
use Rattle.sm_verifier.specs.declared.steps.StepFault.{StepFault}
use Rattle.sm_verifier.specs.declared.steps.StepFault.TheVariants.{NoMemory, Refused}

-- what each signal carries
abbrev pub parcels_of : List Rights → ℕ → Rights
parcels_of signals k = slice_index_or signals k no_rights

-- what was answered, with the hold that was left
abbrev pub outcome : {U : Type 0} → Result U Why → Hold → Result Hold Why
outcome (Ok u) h = Ok h
outcome (Err why) h = Err why

-- the answer and the hold that was left are what is said; if memory was short, nothing is said
abbrev pub IsAnswer : {U : Type 0} → Result U StepFault → Hold → Result Hold Why → Type 0
IsAnswer (Ok u) h said = said ≡ Ok h
IsAnswer (Err NoMemory) h said = Unit {0}
IsAnswer (Err (Refused why)) h said = said ≡ Err why

-- each list has capacity for n more keys
pub record HasCapacityFor (n : ℕ) (k : HoldModel) : Type 0 where
  pub cells : length k.rights.cells + n ≤ k.capacity
  pub crowns : length k.rights.crowns + n ≤ k.capacity
  pub room : length k.rights.room + n ≤ k.capacity
  pub spare : length k.rights.spare + n ≤ k.capacity

-- how many keys an instruction adds to a list at most
abbrev pub keys_added : (ℕ → Rights) → Instr → ℕ
keys_added signals (Wait k) = most_keys (signals k)
keys_added signals (Signal k) = 1
keys_added signals (PrepareAdd s v u) = 1
keys_added signals (PrepareDrop s u v) = 1
keys_added signals (Add s v role) = 1
keys_added signals (Drop s v) = 1
keys_added signals (Change s v to) = 1
keys_added signals (Publish s) = 1
keys_added signals (Unlist s) = 1

-- no amount is above n
pub record IsAtMost (n : ℕ) (h : Hold) : Type 0 where
  pub room : (v : ℕ) → h.room v ≤ n
  pub spare : (s : ℕ) → h.spare s ≤ n

-- each amount grows by n at most
pub record Grows (n : ℕ) (h h' : Hold) : Type 0 where
  pub room : (v : ℕ) → h'.room v ≤ h.room v + n
  pub spare : (s : ℕ) → h'.spare s ≤ h.spare s + n
