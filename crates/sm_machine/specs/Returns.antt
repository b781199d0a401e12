-- Amounts that go back to the pool when a machine ends.
-- Internal definitions: you need not read them for the public contracts.
use Rattle.std.specs.Prelude.{◌≡◌, ◌<◌, ◌≤◌, ◌+◌, ◌^◌, ℕ, List, length, sum_by, if◌then◌else◌}
use Rattle.sm_placement.specs.Sums.{sum_below}
use Rattle.sm_reservation.specs.Hold.{Hold}
use Rattle.sm_reservation.specs.Amounts.{Right, count}
use Rattle.sm_reservation.specs.Pool.{PoolModel, pool_hold, IsKnownHold, SameSize}
use Rattle.sm_machine.specs.Course.{CourseModel, hold_in}
use Rattle.sm_machine.specs.Begun.{CarriedModel, BegunModel, course_at, carried_at}

-- how much of a right a stream holds: nothing once it has finished
abbrev pub held_in_course : Right → CourseModel → ℕ
held_in_course r x = if x.progress.done then 0 else count (hold_in x.grant) r

-- how much of it a signal carries
abbrev pub held_in_signal : Right → CarriedModel → ℕ
held_in_signal r x = count (hold_in x.grant) r

-- how much of it the streams of a plan hold and its signals carry
abbrev pub held_in_plan : Right → BegunModel → ℕ
held_in_plan r n =
    sum_below (length n.plan.streams) (λ i. held_in_course r (course_at n i))
    + sum_below (length n.plan.signals) (λ q. held_in_signal r (carried_at n q))

-- how much of it all these plans have
abbrev pub held_in_plans : List BegunModel → Right → ℕ
held_in_plans plans r = sum_by (held_in_plan r) plans

-- A pool can take this much more of each right: it has then no more than some hold of known shards and servers, whose
-- amounts are u64s.
pub record CanTakeBack (k : PoolModel) (more : Right → ℕ) : Type 0 where
  pub all : Hold
  pub known : IsKnownHold k.shards k.servers all
  pub room : (v : ℕ) → all.room v < 2 ^ 64
  pub spare : (s : ℕ) → all.spare s < 2 ^ 64
  pub within : (r : Right) → count (pool_hold k) r + more r ≤ count all r

-- the second pool is the first one with this much more of each right
pub record HasTakenBack (k after : PoolModel) (more : Right → ℕ) : Type 0 where
  pub counts : (r : Right) → count (pool_hold after) r ≡ count (pool_hold k) r + more r
  pub size : SameSize k after
