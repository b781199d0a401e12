-- Plans: what contracts see of them, what every plan keeps, and which plans are of a configuration.
use Rattle.std.specs.Prelude.{◌≤◌, ◌<◌, ℕ, ◌+◌, List, length, count_by, sum_by, All, IfSome}
use Rattle.sm_placement.specs.declared.lead.Lead.{Lead}
use Rattle.sm_placement.specs.declared.lead.Lead.TheVariants.{Gone, At, Ready, Handing, Handed}
use Rattle.sm_reservation.specs.declared.right.CellRight.{CellRight}
use Rattle.sm_reservation.specs.declared.right.Crown.{Crown}
use Rattle.sm_reservation.specs.Rights.{Rights}
use Rattle.sm_reservation.specs.Key.{IsOrdered, IsPositive}
use Rattle.sm_plan_code.specs.declared.instruction.Instr.{Instr}
use Rattle.sm_plan_code.specs.declared.instruction.Instr.TheVariants.{PrepareAdd, PrepareDrop, Add, Drop, Change}
use Rattle.sm_plan_code.specs.declared.instruction.Instr.TheVariants.{Publish, Unlist, Signal, Wait}
use Rattle.sm_plan_code.specs.declared.plan.PlanFault.{PlanFault}
use Rattle.sm_plan_code.specs.declared.plan.PlanFault.TheVariants.{TooMany, UnknownSignal}
use Rattle.sm_plan_code.specs.Instr.{is_no_call, names_of, shard_of}
use Rattle.sm_plan_code.specs.declared.limits.TheConstants.{MOST_STREAMS, MOST_SIGNALS, MOST_INSTRUCTIONS, MOST_CALLS}
use Rattle.sm_plan_code.specs.declared.limits.TheConstants.{MOST_RIGHTS, MOST_AMOUNT}

-- a stream: how many calls it makes at most, how many tries beside them, what it holds at its start, and its
-- instructions
pub record StreamModel : Type 0 where
  pub budget : ℕ
  pub retries : ℕ
  pub holds : Rights
  pub code : List Instr

-- a plan: how many calls and retries its streams have together at most, its streams, and what each signal carries
pub record PlanModel : Type 0 where
  pub budget : ℕ
  pub streams : List StreamModel
  pub signals : List Rights

-- the places of a log that a plan takes: for each stream its budget, its retries, each instruction that is no call, and
-- its end
abbrev pub places_of : PlanModel → ℕ
places_of plan = sum_by (λ stream. stream.budget + stream.retries + count_by is_no_call stream.code + 1) plan.streams

-- ---- within the limits

-- each list of a parcel and each amount is within its limit
pub record IsSmallParcel (r : Rights) : Type 0 where
  pub cells : length r.cells ≤ MOST_RIGHTS
  pub crowns : length r.crowns ≤ MOST_RIGHTS
  pub room : length r.room ≤ MOST_RIGHTS
  pub spare : length r.spare ≤ MOST_RIGHTS
  pub room_amounts : All (λ x. x.amount ≤ MOST_AMOUNT) r.room
  pub spare_amounts : All (λ x. x.amount ≤ MOST_AMOUNT) r.spare

-- a stream's numbers, its parcel and its code are within their limits
pub record IsSmallStream (s : StreamModel) : Type 0 where
  pub budget : s.budget ≤ MOST_CALLS
  pub retries : s.retries ≤ MOST_CALLS
  pub holds : IsSmallParcel s.holds
  pub code : length s.code ≤ MOST_INSTRUCTIONS

-- a plan's budget, its lists, each of its streams and each of its parcels are within their limits
pub record IsSmallPlan (p : PlanModel) : Type 0 where
  pub budget : p.budget ≤ MOST_CALLS
  pub stream_count : length p.streams ≤ MOST_STREAMS
  pub signal_count : length p.signals ≤ MOST_SIGNALS
  pub streams : All IsSmallStream p.streams
  pub signals : All IsSmallParcel p.signals

-- ---- signals

-- the signal that an instruction posts or waits for is one of the first n
abbrev pub KnowsSignal : ℕ → Instr → Type 0
KnowsSignal n (PrepareAdd s v u) = Unit {0}
KnowsSignal n (PrepareDrop s u v) = Unit {0}
KnowsSignal n (Add s v role) = Unit {0}
KnowsSignal n (Drop s v) = Unit {0}
KnowsSignal n (Change s v to) = Unit {0}
KnowsSignal n (Publish s) = Unit {0}
KnowsSignal n (Unlist s) = Unit {0}
KnowsSignal n (Signal k) = k < n
KnowsSignal n (Wait k) = k < n

-- each instruction of each stream posts or waits for a signal of the plan, if it does at all
abbrev pub KnowsSignals : PlanModel → Type 0
KnowsSignals p = All (λ s. All (KnowsSignal (length p.signals)) s.code) p.streams

-- ---- parcels in order

-- each list of a parcel rises by its keys, and no amount is 0
pub record IsOrderedParcel (r : Rights) : Type 0 where
  pub ordered : IsOrdered r
  pub positive : IsPositive r

-- each parcel of a plan is in order: what a stream holds at its start, and what a signal carries
pub record HasOrderedParcels (p : PlanModel) : Type 0 where
  pub streams : All (λ s. IsOrderedParcel s.holds) p.streams
  pub signals : All IsOrderedParcel p.signals

-- ---- plans

-- what every plan keeps
pub record IsPlan (p : PlanModel) : Type 0 where
  pub small : IsSmallPlan p
  pub signals : KnowsSignals p
  pub parcels : HasOrderedParcels p

-- why these parts are no plan: the first fault that they have
abbrev pub IsPlanFault : PlanModel → PlanFault → Type 0
IsPlanFault p TooMany = ¬ IsSmallPlan p
IsPlanFault p UnknownSignal = IsSmallPlan p × ¬ KnowsSignals p

-- ---- plans of a configuration, with its numbers of shards and servers

-- the shard and the server of a cell right are below their counts
abbrev pub IsKnownCellRight : ℕ → ℕ → CellRight → Type 0
IsKnownCellRight shards servers x = (x.shard < shards) × (x.server < servers)

-- each server that a lead names is below the count
abbrev pub IsKnownLead : ℕ → Lead → Type 0
IsKnownLead servers Gone = Unit {0}
IsKnownLead servers (At u) = u < servers
IsKnownLead servers (Ready u v) = (u < servers) × (v < servers)
IsKnownLead servers (Handing u v) = (u < servers) × (v < servers)
IsKnownLead servers (Handed u v) = (u < servers) × (v < servers)

-- a crown's shard, each server of its lead and its listed server are below their counts
abbrev pub IsKnownCrown : ℕ → ℕ → Crown → Type 0
IsKnownCrown shards servers x = (x.shard < shards) × IsKnownLead servers x.lead × IfSome x.listed (λ v. v < servers)

-- each id of each right in a parcel is below its count
pub record IsKnownParcel (shards servers : ℕ) (r : Rights) : Type 0 where
  pub cells : All (IsKnownCellRight shards servers) r.cells
  pub crowns : All (IsKnownCrown shards servers) r.crowns
  pub room : All (λ x. x.server < servers) r.room
  pub spare : All (λ x. x.shard < shards) r.spare

-- the shard of an instruction and each server that it mentions are below their counts
abbrev pub IsKnownInstr : ℕ → ℕ → Instr → Type 0
IsKnownInstr shards servers i =
    IfSome (shard_of i) (λ s. s < shards)
    × IfSome (names_of i).first (λ v. v < servers)
    × IfSome (names_of i).second (λ v. v < servers)

-- each id is below its count in what a stream holds at its start and in its instructions
pub record IsKnownStream (shards servers : ℕ) (s : StreamModel) : Type 0 where
  pub holds : IsKnownParcel shards servers s.holds
  pub code : All (IsKnownInstr shards servers) s.code

-- each id is below its count in each stream and in each signal's parcel
pub record IsKnownPlan (shards servers : ℕ) (p : PlanModel) : Type 0 where
  pub streams : All (IsKnownStream shards servers) p.streams
  pub signals : All (IsKnownParcel shards servers) p.signals
