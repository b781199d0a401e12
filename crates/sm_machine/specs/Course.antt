-- A stream that was begun: how far it has come, and what it holds.
-- Public functions' contracts come to `CourseModel` and `no_course` alone, by `state_of`. The others are internal: you
-- need not read them for the public contracts.
use Rattle.std.specs.Prelude.{◌≡◌, ℕ, not, Option, Some, None, is_some}
use Rattle.sm_reservation.specs.Hold.{Hold, no_hold}
use Rattle.sm_reservation.specs.HoldOf.{hold_of}
use Rattle.sm_reservation.specs.Rights.{Rights, no_rights}
use Rattle.sm_reservation.specs.Capacity.{HoldModel, HasCapacity, HasCapacityAfter}
use Rattle.sm_plan_code.specs.Plan.{IsOrderedParcel}
use Rattle.sm_protocol.specs.State.{Progress, fresh}

-- A stream that was begun: how far it has come, and what it holds.
pub record CourseModel : Type 0 where
  pub progress : Progress
  -- the log's length behind its last step; none before its first
  pub since : Option ℕ
  -- what it holds; none once it has finished
  pub grant : Option HoldModel

-- the default if the plan has no such stream
abbrev pub no_course : CourseModel
no_course = record { progress = fresh; since = None; grant = None }

-- the rights of a grant, and none if there is no grant
abbrev pub hold_in : Option HoldModel → Hold
hold_in None = no_hold
hold_in (Some kept) = hold_of kept.rights

-- the rights of a grant as the lists that it keeps, which are empty if there is no grant
abbrev pub rights_in : Option HoldModel → Rights
rights_in None = no_rights
rights_in (Some kept) = kept.rights

-- there is capacity for the keys of a parcel that are new
abbrev pub HasCapacityIn : Option HoldModel → Rights → Type 0
HasCapacityIn None p = Unit {0}
HasCapacityIn (Some kept) p = HasCapacity kept p

-- there is capacity for the new keys of what is got, once what is given is out
abbrev pub HasCapacityAfterIn : Option HoldModel → Rights → Rights → Type 0
HasCapacityAfterIn None out got = Unit {0}
HasCapacityAfterIn (Some kept) out got = HasCapacityAfter kept out got

-- the lists of a grant are in order, and have no amount of 0
abbrev pub IsGrantInOrder : Option HoldModel → Type 0
IsGrantInOrder None = Unit {0}
IsGrantInOrder (Some kept) = IsOrderedParcel kept.rights

-- for how many keys it has capacity
abbrev pub capacity_in : Option HoldModel → ℕ
capacity_in None = 0
capacity_in (Some kept) = kept.capacity

-- a stream has a grant until it has finished
abbrev pub IsCourse : CourseModel → Type 0
IsCourse x = is_some x.grant ≡ not x.progress.done
