-- Accepted plans, approved restarts, safe states, and what a state goes on with.
use Rattle.std.specs.Prelude.{◌≡◌, ◌≤◌, ◌<◌, ℕ, ◌+◌, true, false, ◌⊎◌, length}
pub use Rattle.sm_protocol.specs.Words.{AreUp, IsSafePlace, IsServing, IsSound, OfSpare, Passage, PlanModel, Played}
pub use Rattle.sm_protocol.specs.Words.{Right, StreamId, bound, declared_sum, down_count, is_live_at, leads_of, live_at}
pub use Rattle.sm_protocol.specs.Words.{stock, sum_below}
use Rattle.sm_protocol.specs.State.{State, held, free_places, stream_id, plan_at, stream_count, stream_parts}
use Rattle.sm_protocol.specs.State.{progress_of, allowance, is_begun, is_unfinished}
use Rattle.sm_protocol.specs.Steps.{Outcome, Answered, step}
use Rattle.sm_protocol.specs.Happens.{engages}

-- The plan passes the check. Of each right, what its streams declare and what is held or under way are together no more
-- than what there is beside what nobody may use: so each declared cell right and crown is true of the placement,
-- declared once and held by nobody, and the declared room and spare replicas are left. Each server that its code
-- mentions is up.
pub record IsAccepted (w : State) (plan : PlanModel) : Type 0 where
  pub sound : IsSound w.sizes plan
  pub rights : (r : Right) → declared_sum plan.streams r + held w r + bound w.sizes w.place r ≤ stock w.sizes w.place (leads_of w.sizes w.place) r
  pub up : AreUp w.place plan.streams

-- The server is up, no unfinished stream's code mentions it, fewer servers are down than the limit, each shard that is
-- live at it keeps its floor and what is reserved without it (SM 2021, the caps of the TaskController), and the log has
-- two free places.
pub record IsApproved (w : State) (v : ℕ) : Type 0 where
  pub up : w.place.down v ≡ false
  pub free : (id : StreamId) → engages w v id ≡ false
  pub cap : down_count w.sizes w.place < w.place.limit
  pub spare : (s : ℕ) → s < w.sizes.shards → is_live_at w.place s v ≡ true →
      w.sizes.floor s + held w (OfSpare s) + 1 ≤ live_at w.sizes w.place s
  pub places : 2 ≤ free_places w

-- The placement is safe, no more servers are down at once than the limit, each stream's tries are within its allowance
-- and the calls that had their effect within its budget, and the tries of all streams of a plan are within the plan's
-- budget and the refills.
pub record IsSafe (w : State) : Type 0 where
  pub place : IsSafePlace w.sizes w.place
  pub cap : down_count w.sizes w.place ≤ w.place.limit
  pub tries : (id : StreamId) → is_begun w id ≡ true → (progress_of w id).tries ≤ allowance w id
  pub effects : (id : StreamId) → is_begun w id ≡ true → (progress_of w id).effects ≤ (stream_parts w id).budget
  pub plan_tries : (k : ℕ) → k < length w.plans →
      sum_below (stream_count w k) (λ i. (w.progress k i).tries) ≤ (plan_at w k).budget + sum_below (stream_count w k) (λ i. (w.progress k i).refills)

-- the state without the halt flag
abbrev pub unhalted : State → State
unhalted w = record w { halted = false }

-- a step that is made
abbrev pub IsStep : Outcome → Type 0
IsStep (Answered Played.Moved) = Unit {0}
IsStep (Answered Played.Done) = Unit {0}
IsStep _ = ⊥

-- the next step of the stream would be made, the halt flag aside
abbrev pub CanStep : State → StreamId → Type 0
CanStep w id = IsStep (step (unhalted w) id Passage.Through).0

-- the stream stands before a call, and has spent its allowance
abbrev pub HasSpent : State → StreamId → Type 0
HasSpent w id = (step (unhalted w) id Passage.Through).0 ≡ Answered Played.Spent

-- some stream of the plan that has not finished stands so
abbrev pub SomeStream : State → ℕ → (StreamId → Type 0) → Type 0
SomeStream w k P = (i : ℕ) × (i < stream_count w k) × ((w.progress k i).done ≡ false) × P (stream_id k i)

-- of each plan that isn't done some stream can step
abbrev pub SomeCanStep : State → Type 0
SomeCanStep w = (k : ℕ) → k < length w.plans → is_unfinished w k ≡ true → SomeStream w k (CanStep w)

-- of each plan that isn't done some stream can step, or one that isn't done has spent its allowance
abbrev pub SomeCanStepOrSpent : State → Type 0
SomeCanStepOrSpent w = (k : ℕ) → k < length w.plans → is_unfinished w k ≡ true
    → SomeStream w k (CanStep w) ⊎ SomeStream w k (HasSpent w)
