-- The amounts that are held and under way, as a stream goes on and its signals are posted and awaited.
use Rattle.sm_protocol.proofs.Below.{◌≡◌, ◌≢◌, ℕ, ◌+◌, ◌<◌, ◌≤◌, refl, ap, ◌∙◌, arith, length, if◌then◌else◌, put, put2, sum_below, Sizes, StreamId, hold_of, Right, count, PlanModel, parcels_of, stream_at, hold_before, put-here, put-apart, sum_apart, part_of_sum}
use Rattle.sm_protocol.proofs.Words.{State, Progress, Mark, plan_at, stream_count, progress_of, set_progress, reach, is_under_way, held_by, held}

-- how much of a right a stream that has come so far holds
abbrev pub part : Sizes → PlanModel → Right → ℕ → Progress → ℕ
part c plan r i x = if x.done then 0 else count (hold_before (stream_at c plan i) (reach x.at x.ahead)) r

-- how much of it the parcel of a signal carries
abbrev pub carried : PlanModel → Right → ℕ → Mark → ℕ
carried plan r q mark = if is_under_way mark then count (hold_of (parcels_of plan.signals q)) r else 0

-- how much of it a plan's streams hold, and its parcels under way carry
abbrev pub by_plan : Sizes → PlanModel → (ℕ → Progress) → (ℕ → Mark) → Right → ℕ
by_plan c plan f m r = sum_below (length plan.streams) (λ i. part c plan r i (f i)) + sum_below (length plan.signals) (λ q. carried plan r q (m q))

module _ (c : Sizes) (plan : PlanModel) (r : Right) where
  streams_move : (f : ℕ → Progress) (i : ℕ) (y : Progress) → i < length plan.streams →
      sum_below (length plan.streams) (λ j. part c plan r j (put f i y j)) + part c plan r i (f i) ≡ sum_below (length plan.streams) (λ j. part c plan r j (f j)) + part c plan r i y
  streams_move f i y l = sum_apart (length plan.streams) (λ j. part c plan r j (put f i y j)) (λ j. part c plan r j (f j)) i (part c plan r i (f i)) (part c plan r i y) l
      (λ j e. ap (λ x. part c plan r j x) (put-apart f i y j e))
      (let a : part c plan r i (put f i y i) ≡ part c plan r i y = ap (λ x. part c plan r i x) (put-here f i y i refl) in omega arith)

  signals_move : (m : ℕ → Mark) (q : ℕ) (z : Mark) → q < length plan.signals →
      sum_below (length plan.signals) (λ j. carried plan r j (put m q z j)) + carried plan r q (m q) ≡ sum_below (length plan.signals) (λ j. carried plan r j (m j)) + carried plan r q z
  signals_move m q z l = sum_apart (length plan.signals) (λ j. carried plan r j (put m q z j)) (λ j. carried plan r j (m j)) q (carried plan r q (m q)) (carried plan r q z) l
      (λ j e. ap (λ x. carried plan r j x) (put-apart m q z j e))
      (let a : carried plan r q (put m q z q) ≡ carried plan r q z = ap (λ x. carried plan r q x) (put-here m q z q refl) in omega arith)

-- a stream of a plan goes on
pub by_moves : (c : Sizes) (plan : PlanModel) (r : Right) (f : ℕ → Progress) (m : ℕ → Mark) (i : ℕ) (y : Progress) → i < length plan.streams →
    by_plan c plan (put f i y) m r + part c plan r i (f i) ≡ by_plan c plan f m r + part c plan r i y
by_moves c plan r f m i y l = let a = streams_move c plan r f i y l in omega arith

-- and a signal with it
pub by_moves_signal : (c : Sizes) (plan : PlanModel) (r : Right) (f : ℕ → Progress) (m : ℕ → Mark) (i : ℕ) (y : Progress) → i < length plan.streams → (q : ℕ) (z : Mark) → q < length plan.signals →
    by_plan c plan (put f i y) (put m q z) r + part c plan r i (f i) + carried plan r q (m q) ≡ by_plan c plan f m r + part c plan r i y + carried plan r q z
by_moves_signal c plan r f m i y l q z s = let a = streams_move c plan r f i y l in let b = signals_move c plan r m q z s in omega arith

-- one plan goes on, and the others stay
plan_moves : (w : State) (k : ℕ) (f : ℕ → ℕ → Progress) (m : ℕ → ℕ → Mark) → ((j : ℕ) → j ≢ k → f j ≡ w.progress j) → ((j : ℕ) → j ≢ k → m j ≡ w.marks j) →
    k < length w.plans → (r : Right) →
    held (record w { progress = f; marks = m }) r + by_plan w.sizes (plan_at w k) (w.progress k) (w.marks k) r ≡ held w r + by_plan w.sizes (plan_at w k) (f k) (m k) r
plan_moves w k f m apart marks l r =
    sum_apart (length w.plans) (λ j. by_plan w.sizes (plan_at w j) (f j) (m j) r) (λ j. by_plan w.sizes (plan_at w j) (w.progress j) (w.marks j) r) k
    (by_plan w.sizes (plan_at w k) (w.progress k) (w.marks k) r) (by_plan w.sizes (plan_at w k) (f k) (m k) r) l
    (λ j e. ap (λ g. by_plan w.sizes (plan_at w j) g (m j) r) (apart j e) ∙ ap (λ g. by_plan w.sizes (plan_at w j) (w.progress j) g r) (marks j e))
    (omega arith)

-- how much of a right a stream that has come so far holds, at a state
abbrev pub share : State → StreamId → Right → Progress → ℕ
share w id r x = part w.sizes (plan_at w id.plan) r id.stream x

-- how much of it a signal's parcel carries, at a state
abbrev pub load : State → ℕ → Right → ℕ → Mark → ℕ
load w k r q mark = carried (plan_at w k) r q mark

module _ (w : State) (id : StreamId) (y : Progress) (l : id.plan < length w.plans) (i : id.stream < stream_count w id.plan) (r : Right) where
  -- a stream goes on, and no signal is posted or awaited
  pub held_moves : held (record w { progress = set_progress w id y }) r + share w id r (progress_of w id) ≡ held w r + share w id r y
  held_moves =
      let k = id.plan in
      let f = put (w.progress k) id.stream y in
      let a = plan_moves w k (set_progress w id y) w.marks (λ j e. put-apart w.progress k f j e) (λ j e. refl) l r in
      let b : by_plan w.sizes (plan_at w k) (set_progress w id y k) (w.marks k) r ≡ by_plan w.sizes (plan_at w k) f (w.marks k) r =
      ap (λ g. by_plan w.sizes (plan_at w k) g (w.marks k) r) (put-here w.progress k f k refl) in
      let d = streams_move w.sizes (plan_at w k) r (w.progress k) id.stream y i in
      omega arith

  -- a stream goes on, and a signal is posted or awaited
  pub held_moves_signal : (q : ℕ) (z : Mark) → q < length (plan_at w id.plan).signals →
      held (record w { progress = set_progress w id y; marks = put2 w.marks id.plan q z }) r + share w id r (progress_of w id) + load w id.plan r q (w.marks id.plan q)
      ≡ held w r + share w id r y + load w id.plan r q z
  held_moves_signal q z s =
      let k = id.plan in
      let f = put (w.progress k) id.stream y in
      let m = put (w.marks k) q z in
      let a = plan_moves w k (set_progress w id y) (put2 w.marks k q z) (λ j e. put-apart w.progress k f j e) (λ j e. put-apart w.marks k m j e) l r in
      let b : by_plan w.sizes (plan_at w k) (set_progress w id y k) (put2 w.marks k q z k) r ≡ by_plan w.sizes (plan_at w k) f m r =
      ap (λ g. by_plan w.sizes (plan_at w k) g (put2 w.marks k q z k) r) (put-here w.progress k f k refl) ∙ ap (λ g. by_plan w.sizes (plan_at w k) f g r) (put-here w.marks k m k refl) in
      let d = streams_move w.sizes (plan_at w k) r (w.progress k) id.stream y i in
      let e = signals_move w.sizes (plan_at w k) r (w.marks k) q z s in
      omega arith

-- what a stream holds is part of what is held
pub share_held : (w : State) (id : StreamId) (r : Right) → id.plan < length w.plans → id.stream < stream_count w id.plan → share w id r (progress_of w id) ≤ held w r
share_held w id r l i =
    let a = part_of_sum (length w.plans) (held_by w r) id.plan l in
    let b = part_of_sum (stream_count w id.plan) (λ j. part w.sizes (plan_at w id.plan) r j (w.progress id.plan j)) id.stream i in
    omega arith
