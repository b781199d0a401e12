-- Plans that are ready to start, and what a start gives.
-- Public functions' contracts cite `AreTokens` alone. The others are internal, and what a `ReadyPlan` keeps: you need
-- not read them for the public contracts.
use Rattle.std.specs.Prelude.{◌≡◌, ◌<◌, ◌≤◌, nat_lt, nat_le, ◌||◌, if◌then◌else◌, false, Option, None, ◌++◌, ◌∷◌, [], ℕ}
use Rattle.std.specs.Prelude.{zero, suc, Some, List, length, map, slice_index, slice_index_or}
use Rattle.sm_reservation.specs.Rights.{Rights, no_rights}
use Rattle.sm_reservation.specs.Capacity.{HoldModel, most_keys}
use Rattle.sm_reservation.specs.declared.stream_id.StreamId.{StreamId}
use Rattle.sm_protocol.specs.State.{fresh, no_mark, stream_id, places_of}
use Rattle.sm_verifier.specs.Checked.{CheckedModel}
use Rattle.sm_reservation.specs.Hold.{Hold, no_hold, plus}
use Rattle.sm_reservation.specs.HoldOf.{hold_of}
use Rattle.sm_reservation.specs.CanJoin.{CanJoin}
use Rattle.sm_reservation.specs.Short.{first_short}
use Rattle.sm_plan_code.specs.Plan.{StreamModel}
use Rattle.sm_machine.specs.Course.{CourseModel, no_course, rights_in, hold_in, capacity_in, HasCapacityIn}
use Rattle.sm_machine.specs.Begun.{BegunModel, CarriedModel, course_at}
use Rattle.sm_verifier.specs.FirstHolding.{declared_rights}
use Rattle.sm_machine.specs.Tied.{pool_left}
use Rattle.sm_machine.specs.State.{Whole}
use Rattle.sm_plan_code.specs.Plan.{PlanModel}
use Rattle.sm_plan_code.specs.declared.limits.TheConstants.{MOST_NUMBER, MOST_PLANS}
use Rattle.sm_verifier.specs.declared.admission.Holding.{Holding}
use Rattle.sm_verifier.specs.FirstHolding.{first_holding}
use Rattle.sm_protocol.specs.declared.event.BeginFault.{BeginFault}
use Rattle.sm_protocol.specs.declared.event.BeginFault.TheVariants as fault
use Rattle.sm_verifier.specs.Step.{parcels_of}
use Rattle.sm_protocol.specs.Happens.{started}

-- a grant of nothing, with capacity for this many keys
abbrev pub empty_kept : ℕ → HoldModel
empty_kept n = record { rights = no_rights; capacity = n }

-- a stream that has made nothing and holds nothing, with this capacity
abbrev pub ready_course : ℕ → CourseModel
ready_course n = record { progress = fresh; since = None; grant = Some (empty_kept n) }

-- a signal that was not posted, with capacity for its parcel
abbrev pub ready_signal : Rights → CarriedModel
ready_signal p = record { mark = no_mark; grant = Some (empty_kept (most_keys p)) }

-- it holds nothing
abbrev pub IsEmptyCourse : CourseModel → Type 0
IsEmptyCourse x = rights_in x.grant ≡ no_rights

-- the signal carries nothing
abbrev pub IsEmptyCarried : CarriedModel → Type 0
IsEmptyCarried x = rights_in x.grant ≡ no_rights

-- the streams and the signals of a checked plan before its start: the first n streams, by the capacity of each
abbrev pub first_courses : (ℕ → ℕ) → ℕ → List CourseModel
first_courses peaks zero = []
first_courses peaks (suc n) = first_courses peaks n ++ ready_course (peaks n) ∷ []

-- all streams of a checked plan before its start, each with room for its peak
abbrev pub ready_courses : CheckedModel → List CourseModel
ready_courses p = first_courses (λ i. slice_index p.peaks i) (length p.plan.streams)

-- all signals of a checked plan before its start, each with room for its parcel
abbrev pub ready_signals : CheckedModel → List CarriedModel
ready_signals p = map ready_signal p.plan.signals

-- the plan as it is begun, before its streams have what they declare
abbrev pub begun_of : CheckedModel → ℕ → BegunModel
begun_of p since = record { plan = p.plan; since = since; courses = ready_courses p; signals = ready_signals p; unfinished = length p.plan.streams }

-- ---- what streams declare is taken out of a pool

-- the stream may take these rights out of the pool
pub record CanFillAt (free : Hold) (x : CourseModel) (p : Rights) : Type 0 where
  pub running : x.progress.done ≡ false
  pub enough : first_short free p ≡ None
  pub fits : CanJoin (hold_in x.grant) (hold_of p)
  pub capacity : HasCapacityIn x.grant p

-- each stream may in its turn
abbrev pub CanFillAll : BegunModel → Hold → Type 0
CanFillAll n h = (i : ℕ) → i < length n.plan.streams
    → CanFillAt (pool_left h n.plan.streams i) (course_at n i) (declared_rights n.plan.streams i)

-- the stream has taken them
pub record IsFilledBy (p : Rights) (old new : CourseModel) : Type 0 where
  pub progress : new.progress ≡ old.progress
  pub since : new.since ≡ old.since
  pub hold : hold_in new.grant ≡ plus (hold_in old.grant) p
  pub capacity : capacity_in new.grant ≡ capacity_in old.grant

-- the first n streams have taken what they declare, and the others stand as they stood
pub record AreFilled (streams : List StreamModel) (n : ℕ) (old new : List CourseModel) : Type 0 where
  pub count : length new ≡ length old
  pub filled : (i : ℕ) → i < n → IsFilledBy (declared_rights streams i) (slice_index_or old i no_course) (slice_index_or new i no_course)
  pub left : (i : ℕ) → n ≤ i → slice_index_or new i no_course ≡ slice_index_or old i no_course

-- ---- what a machine has after a start

-- the grant has this, with this capacity
pub record IsGranted (p : Rights) (n : ℕ) (grant : Option HoldModel) : Type 0 where
  pub hold : hold_in grant ≡ plus no_hold p
  pub capacity : capacity_in grant ≡ n

-- The plan is begun, its streams have what they declare, and none of its signals was posted. Nothing else has changed.
pub record IsBegunIn (x : Whole) (p : CheckedModel) (y : Whole) : Type 0 where
  pub state : y.state ≡ started x.state p.plan
  pub setup : y.setup ≡ x.setup
  pub pool : y.pool ≡ pool_left x.pool p.plan.streams (length p.plan.streams)
  pub grants : (k i : ℕ) → k < length x.state.plans → y.grants k i ≡ x.grants k i
  pub granted : (i : ℕ) → i < length p.plan.streams
      → IsGranted (declared_rights p.plan.streams i) (slice_index p.peaks i) (y.grants (length x.state.plans) i)
  pub parcels : (k q : ℕ) → k < length x.state.plans → y.parcels k q ≡ x.parcels k q
  pub parceled : (q : ℕ) → q < length p.plan.signals
      → y.parcels (length x.state.plans) q ≡ Some (empty_kept (most_keys (parcels_of p.plan.signals q)))
  pub unfinished : (k : ℕ) → k < length x.state.plans → y.unfinished k ≡ x.unfinished k
  pub counted : y.unfinished (length x.state.plans) ≡ length p.plan.streams
  pub running : y.running ≡ x.running
  pub free : y.free ≡ x.free

-- why the plan does not start, if memory is there: what holds it up, too few places of the log, or too many plans
abbrev pub fault_after : Whole → PlanModel → Option Holding → Option BeginFault
fault_after x plan (Some why) = Some (fault.Holding why)
fault_after x plan None =
    if nat_lt x.free (places_of plan) then Some fault.LogFull
    else if nat_le MOST_PLANS x.running || nat_lt MOST_NUMBER (length x.state.plans) then Some fault.TooManyPlans
    else None

-- why a machine does not start the plan, if memory is there; none where it starts it
abbrev pub begin_fault : Whole → PlanModel → Option BeginFault
begin_fault x plan = fault_after x plan (first_holding x.state.sizes x.state.place x.pool plan)

-- ---- tokens

-- one for each of the first n streams of a plan, in their order
pub record AreTokens (plan n : ℕ) (tokens : List StreamId) : Type 0 where
  pub count : length tokens ≡ n
  pub each : (i : ℕ) (d : StreamId) → i < n → slice_index_or tokens i d ≡ stream_id plan i
