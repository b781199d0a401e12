-- A plan that was begun: its streams as they stand, and its signals with what they carry.
-- `with_course`, `with_carried` and `IsBegunParts` are internal: you need not read them for the public contracts.
use Rattle.std.specs.Prelude.{◌≡◌, ℕ, Option, None, List, [], length, slice_index_or, slice_set}
use Rattle.sm_reservation.specs.Capacity.{HoldModel}
use Rattle.sm_plan_code.specs.Plan.{PlanModel}
use Rattle.sm_protocol.specs.State.{Mark, no_mark, Start, no_start}
use Rattle.sm_machine.specs.Course.{CourseModel, no_course}

-- A signal of a plan that was begun: what has become of it, and what it carries.
pub record CarriedModel : Type 0 where
  pub mark : Mark
  -- what the signal carries; none once it was awaited
  pub grant : Option HoldModel

-- the default if the plan has no such signal
abbrev pub no_carried : CarriedModel
no_carried = record { mark = no_mark; grant = None }

-- A plan that was begun, the log's length at its start, and its streams and signals as they stand.
pub record BegunModel : Type 0 where
  pub plan : PlanModel
  -- the log's length at the start
  pub since : ℕ
  pub courses : List CourseModel
  pub signals : List CarriedModel
  -- how many streams have not finished
  pub unfinished : ℕ

-- the default if no plan was begun
abbrev pub no_begun : BegunModel
no_begun = record { plan = no_start.plan; since = 0; courses = []; signals = []; unfinished = 0 }

-- the plan with the log's length at its start, as the state of the protocol has it
abbrev pub start_of : BegunModel → Start
start_of n = record { plan = n.plan; since = n.since }

-- the stream of this number, as it stands
abbrev pub course_at : BegunModel → ℕ → CourseModel
course_at n i = slice_index_or n.courses i no_course

-- the signal of this number, as it stands
abbrev pub carried_at : BegunModel → ℕ → CarriedModel
carried_at n q = slice_index_or n.signals q no_carried

-- the plan with one stream as it stands now
abbrev pub with_course : BegunModel → ℕ → CourseModel → BegunModel
with_course n i x = record n { courses = slice_set n.courses i x }

-- the plan with one signal as it stands now
abbrev pub with_carried : BegunModel → ℕ → CarriedModel → BegunModel
with_carried n q x = record n { signals = slice_set n.signals q x }

-- each stream and each signal of the plan has its place
pub record IsBegunParts (n : BegunModel) : Type 0 where
  pub courses : length n.courses ≡ length n.plan.streams
  pub signals : length n.signals ≡ length n.plan.signals
