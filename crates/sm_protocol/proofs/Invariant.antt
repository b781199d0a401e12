-- Facts that hold of every state that events lead to.
use Rattle.sm_protocol.proofs.Below.{◌≡◌, ◌≢◌, ◌≤◌, ◌<◌, ℕ, ◌+◌, true, false, Some, nat_lt, List, length, slice_get, Lead, Sizes, Place, IsPlacement, Describes, StreamId, Right, stock, bound, Instr, is_call, PlanModel, IsReachable, IsListable, touched, stream_at, calls_before, code_at, post_of, wait_of}
use Rattle.sm_protocol.proofs.Words.{State, Progress, Mark, fresh, no_mark, plan_at, progress_of, is_begun, reach, held, IsCheckedPlan}

-- A stream of a plan that has come so far: it stands in its code, at the end of it where it has made its end; where a call
-- has had its effect and isn't answered, it stands before a call; its calls that had their effect are those before its
-- reach; and while it hasn't made its end, the servers that its code mentions are up.
pub record IsOnCourse (c : Sizes) (p : Place) (plan : PlanModel) (i : ℕ) (x : Progress) : Type 0 where
  pub within : x.at ≤ length (code_at plan i)
  pub at_end : x.done ≡ true → x.at ≡ length (code_at plan i)
  pub before_call : x.ahead ≡ true → (instr : Instr) × (slice_get (code_at plan i) x.at ≡ Some instr) × (is_call instr ≡ true)
  pub effects : x.effects ≡ calls_before (stream_at c plan i) (reach x.at x.ahead)
  pub reachable : x.done ≡ false → (at : ℕ) (instr : Instr) → slice_get (code_at plan i) at ≡ Some instr → IsReachable c p instr

-- A plan begun: it was checked, its streams are on their courses, and its signals are posted and awaited by the steps made.
pub record IsRunning (c : Sizes) (p : Place) (plan : PlanModel) (progress : ℕ → Progress) (marks : ℕ → Mark) : Type 0 where
  pub checked : IsCheckedPlan c plan
  pub streams : (i : ℕ) → i < length plan.streams → IsOnCourse c p plan i (progress i)
  pub posted : (q : ℕ) → q < length plan.signals → (marks q).posted ≡ nat_lt (post_of plan q).1 (progress (post_of plan q).0).at
  pub awaited : (q : ℕ) → q < length plan.signals → (marks q).awaited ≡ nat_lt (wait_of plan q).1 (progress (wait_of plan q).0).at
  pub in_turn : (q : ℕ) → q < length plan.signals → (marks q).awaited ≡ true → (marks q).posted ≡ true

-- The numbers of calls, where cells have these last numbers and streams with these codes have come so far: all that were used
-- are below the next one. Where a call has had its effect and isn't answered, its number is the last one of its cell; one
-- that is under way and has had none is nowhere; and no two streams try under one number.
pub record AreNumbered (last : ℕ → ℕ → ℕ) (next : ℕ) (code : StreamId → List Instr) (x : StreamId → Progress) : Type 0 where
  pub positive : 0 < next
  pub lasts : (s v : ℕ) → last s v < next
  pub pendings : (id : StreamId) → (x id).pending < next
  pub under_way : (id : StreamId) → (x id).ahead ≡ true → (x id).pending ≢ 0
  pub had : (id : StreamId) (instr : Instr) (s v : ℕ) → (x id).ahead ≡ true → slice_get (code id) (x id).at ≡ Some instr → touched instr ≡ Some (s, v) →
      last s v ≡ (x id).pending
  pub not_had : (id : StreamId) (s v : ℕ) → (x id).ahead ≡ false → (x id).pending ≢ 0 → last s v ≢ (x id).pending
  pub distinct : (id other : StreamId) → (x id).pending ≢ 0 → (x id).pending ≡ (x other).pending → id ≡ other

-- the code of a stream
abbrev pub code_of : State → StreamId → List Instr
code_of w id = code_at (plan_at w id.plan) id.stream

-- The placement with its leads, under the highest handover numbers, and who is listed.
pub record IsStage (c : Sizes) (p : Place) (numbers : ℕ → ℕ) (leads : ℕ → Lead) : Type 0 where
  pub placement : IsPlacement c p
  pub described : (s : ℕ) → Describes (leads s) (numbers s) (p.cells s)
  pub listing : (s : ℕ) → IsListable (leads s) (p.listed s)

-- The core of the invariant: what is held and under way is true of the placement, all of it together.
pub record IsKept (w : State) : Type 0 where
  pub leads : ℕ → Lead
  pub stage : IsStage w.sizes w.place w.numbers leads
  pub plans : (k : ℕ) → k < length w.plans → IsRunning w.sizes w.place (plan_at w k) (w.progress k) (w.marks k)
  pub unbegun : (id : StreamId) → is_begun w id ≡ false → progress_of w id ≡ fresh
  pub later_marks : (k q : ℕ) → length w.plans ≤ k → w.marks k q ≡ no_mark
  pub fits : (r : Right) → held w r + bound w.sizes w.place r ≤ stock w.sizes w.place leads r
  pub numbered : AreNumbered w.place.last w.next_number (code_of w) (progress_of w)
