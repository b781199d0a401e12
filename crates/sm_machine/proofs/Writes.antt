-- A stream or a signal of one plan written, seen by the whole.
use Rattle.std.proofs.Math.Path.{fun_ext}
use Rattle.std.specs.Prelude.{replicate}
use Rattle.sm_placement.specs.Setup.{Setup}
use Rattle.sm_placement.specs.Place.{Place, forget_numbers, down_count}
use Rattle.sm_placement.specs.Layout.{PlacementModel, place_of}
use Rattle.sm_placement.specs.declared.entry.Entry.{Entry}
use Rattle.sm_reservation.specs.Pool.{true_rights}
use Rattle.sm_machine.specs.Opening.{OpeningRows, place_of_rows}
use Rattle.sm_machine.specs.Journal.{JournalModel}
use Rattle.sm_machine.specs.State.{opened_whole}
use Rattle.sm_protocol.specs.declared.event.Logged.{Logged}
use Rattle.std.proofs.Common.{◌∷◌, ◌++◌, zero, suc, subst, ◌≡◌, ℕ, ◌<◌, [], Bool, true, false, List, length, set, get_or, map, refl, sym, ap, ◌∙◌, arith, Option, Some, None, ◌-◌}
use Rattle.std.specs.Prelude.{◌==◌, if◌then◌else◌}
use Rattle.std.proofs.lemmas.Bool.{and_parts, ltb-true}
use Rattle.std.proofs.lemmas.List.{get_or_read, length-map, set-set}
use Rattle.std.proofs.Math.ListN.{get_or-map}
use Rattle.sm_placement.specs.Sums.{put, put2}
use Rattle.sm_placement.specs.Setup.{Sizes, sizes_of}
use Rattle.sm_reservation.specs.declared.change.Change.{Change}
use Rattle.sm_plan_code.specs.declared.instruction.Instr.{Instr}
use Rattle.sm_plan_code.specs.Table.{exchange_of}
use Rattle.sm_machine.specs.Trade.{IsTradedBy}
use Rattle.sm_reservation.specs.Hold.{plus}
use Rattle.sm_reservation.specs.Pool.{PoolModel, pool_hold}
use Rattle.sm_placement.proofs.Sums.{put2-here, put2-same}
use Rattle.sm_reservation.specs.Capacity.{HoldModel}
use Rattle.sm_reservation.specs.declared.stream_id.StreamId.{StreamId}
use Rattle.sm_protocol.specs.State.{Progress, Mark, no_start, stream_id, is_begun, progress_of, signal_count, set_progress}
use Rattle.sm_machine.specs.Course.{CourseModel, no_course, rights_in, hold_in}
use Rattle.sm_machine.specs.Begun.{BegunModel, CarriedModel, no_begun, no_carried, start_of, course_at, carried_at, with_course, with_carried, IsBegunParts}
use Rattle.sm_machine.specs.Machine.{MachineModel, begun_at}
use Rattle.sm_machine.specs.State.{Whole, whole_of, state_of, with_state, with_stream, with_signal}
use Rattle.sm_machine.specs.Unfinished.{unfinished_below, unfinished_of, AreUnfinished}
use Rattle.sm_machine.proofs.Tables.{inner, inner-set, inner-kept, map-kept, outer, outer-kept, outer-set}

-- a plan is read where it lies, and written back there
pub read_here : {X : Type 0} (xs : List X) (k : ℕ) (n o : X) → n ≡ get_or xs k o → n ≡ get_or xs k n
read_here [] k n o e = refl
read_here (x ∷ xs) zero n o e = e
read_here (x ∷ xs) (suc k) n o e = read_here xs k n o e

-- of two writes at one place, only the last one is seen
pub laid_back : {X : Type 0} (xs ys zs : List X) (k : ℕ) (d v : X) → zs ≡ set ys k v → ys ≡ set xs k d → zs ≡ set xs k v
laid_back xs ys zs k d v e f = e ∙ ap (λ ws. set ws k v) f ∙ set-set xs k d v

-- a write to the plans, field by field
with_plans : (b : MachineModel) (ns : List BegunModel) (progress : ℕ → ℕ → Progress) (marks : ℕ → ℕ → Mark) (grants parcels : ℕ → ℕ → Option HoldModel) →
    map start_of ns ≡ map start_of b.plans → inner (λ n. n.courses) (λ x. x.progress) no_begun no_course ns ≡ progress →
    inner (λ n. n.courses) (λ x. x.grant) no_begun no_course ns ≡ grants → inner (λ n. n.signals) (λ x. x.mark) no_begun no_carried ns ≡ marks →
    inner (λ n. n.signals) (λ x. x.grant) no_begun no_carried ns ≡ parcels → outer (λ n. n.unfinished) no_begun ns ≡ (whole_of b).unfinished →
    whole_of (record b { plans = ns }) ≡ record (whole_of b) { state = record (whole_of b).state { progress = progress; marks = marks }; grants = grants; parcels = parcels }
unfolding whole_of
with_plans b ns progress marks grants parcels a1 a2 a3 a4 a5 a6 = cc

with_unfinished : (b : MachineModel) (ns : List BegunModel) (unfinished : ℕ → ℕ) →
    map start_of ns ≡ map start_of b.plans → inner (λ n. n.courses) (λ x. x.progress) no_begun no_course ns ≡ (whole_of b).state.progress →
    inner (λ n. n.courses) (λ x. x.grant) no_begun no_course ns ≡ (whole_of b).grants → inner (λ n. n.signals) (λ x. x.mark) no_begun no_carried ns ≡ (whole_of b).state.marks →
    inner (λ n. n.signals) (λ x. x.grant) no_begun no_carried ns ≡ (whole_of b).parcels → outer (λ n. n.unfinished) no_begun ns ≡ unfinished →
    whole_of (record b { plans = ns }) ≡ record (whole_of b) { unfinished = unfinished }
unfolding whole_of
with_unfinished b ns unfinished a1 a2 a3 a4 a5 a6 = cc

pub course-change : (b : MachineModel) (k i : ℕ) (x : CourseModel) → k < length b.plans → i < length (begun_at b.plans k).courses →
    whole_of (record b { plans = set b.plans k (with_course (begun_at b.plans k) i x) }) ≡ with_stream (whole_of b) (stream_id k i) x.progress x.grant
unfolding whole_of
course-change b k i x l m =
    let n : BegunModel = begun_at b.plans k in
    let n' : BegunModel = with_course n i x in
    with_plans b (set b.plans k n') _ _ _ _
    (map-kept start_of b.plans k n' no_begun refl)
    (inner-set (λ n. n.courses) (λ x. x.progress) no_begun no_course b.plans k i n' x l m refl)
    (inner-set (λ n. n.courses) (λ x. x.grant) no_begun no_course b.plans k i n' x l m refl)
    (inner-kept (λ n. n.signals) (λ x. x.mark) no_begun no_carried b.plans k n' l refl)
    (inner-kept (λ n. n.signals) (λ x. x.grant) no_begun no_carried b.plans k n' l refl)
    (outer-kept (λ n. n.unfinished) no_begun b.plans k n' l refl)

pub both-change : (b : MachineModel) (k i q : ℕ) (x : CourseModel) (y : CarriedModel) → k < length b.plans → i < length (begun_at b.plans k).courses → q < length (begun_at b.plans k).signals →
    whole_of (record b { plans = set b.plans k (with_carried (with_course (begun_at b.plans k) i x) q y) })
    ≡ record (whole_of b) { state = record (whole_of b).state { progress = put2 (whole_of b).state.progress k i x.progress; marks = put2 (whole_of b).state.marks k q y.mark }; grants = put2 (whole_of b).grants k i x.grant; parcels = put2 (whole_of b).parcels k q y.grant }
unfolding whole_of
both-change b k i q x y l m s =
    let n : BegunModel = begun_at b.plans k in
    let n' : BegunModel = with_carried (with_course n i x) q y in
    with_plans b (set b.plans k n') _ _ _ _
    (map-kept start_of b.plans k n' no_begun refl)
    (inner-set (λ n. n.courses) (λ x. x.progress) no_begun no_course b.plans k i n' x l m refl)
    (inner-set (λ n. n.courses) (λ x. x.grant) no_begun no_course b.plans k i n' x l m refl)
    (inner-set (λ n. n.signals) (λ x. x.mark) no_begun no_carried b.plans k q n' y l s refl)
    (inner-set (λ n. n.signals) (λ x. x.grant) no_begun no_carried b.plans k q n' y l s refl)
    (outer-kept (λ n. n.unfinished) no_begun b.plans k n' l refl)

-- a stream that stands as it stood
progress-same : (b : MachineModel) (k i : ℕ) → put2 (whole_of b).state.progress k i (course_at (begun_at b.plans k) i).progress ≡ (whole_of b).state.progress
unfolding whole_of
progress-same b k i = put2-same (whole_of b).state.progress k i _ refl

with_pool : (b : MachineModel) (p : PoolModel) → whole_of (record b { pool = p }) ≡ record (whole_of b) { pool = pool_hold p }
unfolding whole_of
with_pool b p = refl

with_line : (b : MachineModel) (line : Logged) (j : JournalModel) → j ≡ record b.journal { log = b.journal.log ++ line ∷ [] } →
    whole_of (record b { journal = j }) ≡ with_state (whole_of b) (record (state_of b) { log = (state_of b).log ++ line ∷ [] })
unfolding whole_of
with_line b line j e = ap (λ (i : JournalModel). whole_of (record b { journal = i })) e

with_running : (b : MachineModel) (running : ℕ) → whole_of (record b { running = running }) ≡ record (whole_of b) { running = running }
unfolding whole_of
with_running b running = refl

pool_read : (b w : MachineModel) → b ≡ w → pool_hold b.pool ≡ (whole_of w).pool
unfolding whole_of
pool_read b w z = ap (λ y. pool_hold y.pool) z

pub running_read : (b w : MachineModel) → b ≡ w → b.running ≡ (whole_of w).running
unfolding whole_of
running_read b w z = ap (λ y. y.running) z

-- the numbers of the configuration that the code reads are those of the state
pub sizes_read : (b w : MachineModel) → b ≡ w → sizes_of b.placement.setup ≡ (state_of w).sizes
unfolding whole_of
sizes_read b w z = ap (λ y. sizes_of y.placement.setup) z

-- a trade of what is read elsewhere
pub traded-read : (s t : Sizes) (i : Instr) (a b g h : Option HoldModel) → s ≡ t → a ≡ b → h ≡ g → IsTradedBy s i a g → IsTradedBy t i b h
traded-read s t i a b g h e f k x = subst (λ y. IsTradedBy y i b h) e (subst (λ y. IsTradedBy s i y h) f (subst (λ y. IsTradedBy s i a y) (sym k) x))

-- what an instruction needs and gives is the same by what is read elsewhere
pub change-read : (s t : Sizes) (i : Instr) (a b : Option HoldModel) (x : Change) → s ≡ t → a ≡ b → x ≡ exchange_of s i (hold_in a) → x ≡ exchange_of t i (hold_in b)
change-read s t i a b x e f k = k ∙ ap (λ y. exchange_of y i (hold_in a)) e ∙ ap (λ y. exchange_of t i (hold_in y)) f

-- one stream less is unfinished
unfinished-change : (b : MachineModel) (k u : ℕ) → k < length b.plans →
    whole_of (record b { plans = set b.plans k (record (begun_at b.plans k) { unfinished = u }) }) ≡ record (whole_of b) { unfinished = put (whole_of b).unfinished k u }
unfolding whole_of
unfinished-change b k u l =
    let n : BegunModel = begun_at b.plans k in
    let n' : BegunModel = record n { unfinished = u } in
    with_unfinished b (set b.plans k n') _
    (map-kept start_of b.plans k n' no_begun refl)
    (inner-kept (λ n. n.courses) (λ x. x.progress) no_begun no_course b.plans k n' l refl)
    (inner-kept (λ n. n.courses) (λ x. x.grant) no_begun no_course b.plans k n' l refl)
    (inner-kept (λ n. n.signals) (λ x. x.mark) no_begun no_carried b.plans k n' l refl)
    (inner-kept (λ n. n.signals) (λ x. x.grant) no_begun no_carried b.plans k n' l refl)
    (outer-set (λ n. n.unfinished) no_begun b.plans k n' l)

finished_read : (b w : MachineModel) (k running : ℕ) → b ≡ w →
    record (whole_of b) { unfinished = put (whole_of b).unfinished k ((begun_at b.plans k).unfinished - 1); running = running }
    ≡ record (whole_of w) { unfinished = put (whole_of w).unfinished k ((whole_of w).unfinished k - 1); running = running }
unfolding whole_of
finished_read b w k running z = ap (λ a. record (whole_of a) { unfinished = put (whole_of a).unfinished k ((begun_at a.plans k).unfinished - 1); running = running }) z

-- a stream that was begun is a plan's
pub known_parts : (b : MachineModel) (id : StreamId) → is_begun (state_of b) id ≡ true → (id.plan < length b.plans) × (id.stream < length (begun_at b.plans id.plan).plan.streams)
unfolding whole_of
known_parts b id h =
    let a = and_parts _ _ h in
    let l : id.plan < length (map start_of b.plans) = ltb-true _ _ a.0 in
    let m : id.stream < length (get_or (map start_of b.plans) id.plan no_start).plan.streams = ltb-true _ _ a.1 in
    let e : get_or (map start_of b.plans) id.plan no_start ≡ start_of (begun_at b.plans id.plan) = get_or-map start_of b.plans id.plan no_begun in
    let g : length (map start_of b.plans) ≡ length b.plans = length-map _ _ in
    (omega (arith, l, g), subst (λ x. id.stream < length x.plan.streams) e m)

-- the plan of a stream that was begun is in the list of plans
pub plan_known : (b w : MachineModel) (id : StreamId) → b ≡ w → is_begun (state_of w) id ≡ true → id.plan < length b.plans
plan_known b w id z h = (known_parts b id (subst (λ x. is_begun (state_of x) id ≡ true) (sym z) h)).0

-- a stream of a plan has its place there
pub courses_there : (n : BegunModel) (id : StreamId) → id.stream < length n.plan.streams → IsBegunParts n → id.stream < length n.courses
courses_there n id l parts = omega (arith, l, parts.courses)

-- the log has a place left
pub place_left : (b w : MachineModel) → b ≡ w → length (state_of w).log < (state_of w).room → length b.journal.log < b.journal.room
unfolding whole_of
place_left b w z l = subst (λ (y : MachineModel). length y.journal.log < y.journal.room) (sym z) l

-- the list of unfinished plans is the whole's
pub unfinished_is : (b w : MachineModel) (numbers : List ℕ) → b ≡ w → AreUnfinished b.plans numbers → numbers ≡ unfinished_below (whole_of w).unfinished (length (state_of w).plans)
unfolding whole_of
unfinished_is b w numbers z are =
    are ∙ ap (unfinished_below (unfinished_of b.plans)) (sym (length-map b.plans start_of)) ∙ ap (λ (m : MachineModel). unfinished_below (whole_of m).unfinished (length (state_of m).plans)) z

-- a signal of a plan that was begun
pub signals_known : (b w : MachineModel) (id : StreamId) → b ≡ w → is_begun (state_of w) id ≡ true → (q : ℕ) → q < signal_count (state_of w) id.plan → q < length (begun_at b.plans id.plan).plan.signals
unfolding whole_of
signals_known b w id z h q l =
    let e : get_or (map start_of b.plans) id.plan no_start ≡ start_of (begun_at b.plans id.plan) = get_or-map start_of b.plans id.plan no_begun in
    let m : q < length (get_or (map start_of b.plans) id.plan no_start).plan.signals = subst (λ x. q < length (get_or (map start_of x.plans) id.plan no_start).plan.signals) (sym z) l in
    subst (λ x. q < length x.plan.signals) e m

-- ---- the same, of the item as the code reads it: z says that an open value is the closed one, v where the item was read

module _ (b w : MachineModel) (id : StreamId) (z : b ≡ w) (h : is_begun (state_of w) id ≡ true) (n n' : BegunModel) (v : n ≡ get_or b.plans id.plan n) (parts : IsBegunParts n) where
  plan_in : id.plan < length b.plans
  plan_in = (known_parts b id (subst (λ x. is_begun (state_of x) id ≡ true) (sym z) h)).0

  read : n ≡ begun_at b.plans id.plan
  read = get_or_read b.plans id.plan n plan_in v no_begun

  stream_in : id.stream < length (begun_at b.plans id.plan).courses
  stream_in =
      let l = (known_parts b id (subst (λ x. is_begun (state_of x) id ≡ true) (sym z) h)).1 in
      let e : id.stream < length n.plan.streams = subst (λ x. id.stream < length x.plan.streams) (sym read) l in
      let f : id.stream < length n.courses = omega (arith, e, parts.courses) in
      subst (λ x. id.stream < length x.courses) read f

  pub course-written : (x : CourseModel) → n' ≡ with_course n id.stream x → whole_of (record b { plans = set b.plans id.plan n' }) ≡ with_stream (whole_of w) id x.progress x.grant
  course-written x e =
      ap (λ y. whole_of (record b { plans = set b.plans id.plan y })) (e ∙ ap (λ y. with_course y id.stream x) read)
      ∙ course-change b id.plan id.stream x plan_in stream_in
      ∙ ap (λ y. with_stream (whole_of y) id x.progress x.grant) z

  -- what the code reads as the stream's grant is that of the whole
  pub grant_read : (course_at n id.stream).grant ≡ (whole_of w).grants id.plan id.stream
  unfolding whole_of
  grant_read = ap (λ y. (course_at y id.stream).grant) read ∙ ap (λ y. (course_at (begun_at y.plans id.plan) id.stream).grant) z

  progress_read : (course_at n id.stream).progress ≡ (state_of w).progress id.plan id.stream
  unfolding whole_of
  progress_read = ap (λ y. (course_at y id.stream).progress) read ∙ ap (λ y. (course_at (begun_at y.plans id.plan) id.stream).progress) z

  -- a stream stands otherwise
  pub progress-written : (p : Progress) → n' ≡ with_course n id.stream (record (course_at n id.stream) { progress = p }) →
      whole_of (record b { plans = set b.plans id.plan n' }) ≡ with_state (whole_of w) (record (state_of w) { progress = set_progress (state_of w) id p })
  progress-written p e =
      course-written (record (course_at n id.stream) { progress = p }) e
      ∙ cc (grant_read, put2-same (whole_of w).grants id.plan id.stream _ refl)

  -- when a stream made its last step is seen by nothing but itself
  since-written : (s : Option ℕ) → n' ≡ with_course n id.stream (record (course_at n id.stream) { since = s }) → whole_of (record b { plans = set b.plans id.plan n' }) ≡ whole_of w
  since-written s e =
      course-written (record (course_at n id.stream) { since = s }) e
      ∙ ap (λ f. record (whole_of w) { state = record (state_of w) { progress = f }; grants = put2 (whole_of w).grants id.plan id.stream (course_at n id.stream).grant })
      (ap (λ y. put2 (state_of w).progress id.plan id.stream y) progress_read ∙ put2-same (state_of w).progress id.plan id.stream _ refl)
      ∙ ap (λ f. record (whole_of w) { grants = f }) (ap (λ y. put2 (whole_of w).grants id.plan id.stream y) grant_read ∙ put2-same (whole_of w).grants id.plan id.stream _ refl)

  -- a step is recorded, and the stream keeps when
  pub step-recorded : (s : Option ℕ) (line : Logged) (j : JournalModel) → n' ≡ with_course n id.stream (record (course_at n id.stream) { since = s }) → j ≡ record b.journal { log = b.journal.log ++ line ∷ [] } →
      whole_of (record b { plans = set b.plans id.plan n'; journal = j }) ≡ with_state (whole_of w) (record (state_of w) { log = (state_of w).log ++ line ∷ [] })
  step-recorded s line j e f =
      with_line (record b { plans = set b.plans id.plan n' }) line j f
      ∙ ap (λ (y : Whole). with_state y (record y.state { log = y.state.log ++ line ∷ [] })) (since-written s e)

  -- a stream holds otherwise
  pub grant-written : (g : Option HoldModel) → n' ≡ with_course n id.stream (record (course_at n id.stream) { grant = g }) →
      whole_of (record b { plans = set b.plans id.plan n' }) ≡ record (whole_of w) { grants = put2 (whole_of w).grants id.plan id.stream g }
  grant-written g e =
      course-written (record (course_at n id.stream) { grant = g }) e
      ∙ ap (λ f. record (whole_of w) { state = record (state_of w) { progress = f }; grants = put2 (whole_of w).grants id.plan id.stream g })
      (ap (λ y. put2 (state_of w).progress id.plan id.stream y) progress_read ∙ put2-same (state_of w).progress id.plan id.stream _ refl)

  -- a stream holds otherwise, as it is read then
  pub grant-kept : (g : Option HoldModel) → n' ≡ with_course n id.stream (record (course_at n id.stream) { grant = g }) →
      whole_of (record b { plans = set b.plans id.plan n' })
      ≡ record (whole_of w) { grants = put2 (whole_of w).grants id.plan id.stream ((whole_of (record b { plans = set b.plans id.plan n' })).grants id.plan id.stream) }
  grant-kept g e =
      let a = grant-written g e in
      let r : (whole_of (record b { plans = set b.plans id.plan n' })).grants id.plan id.stream ≡ g =
      ap (λ y. y.grants id.plan id.stream) a ∙ put2-here (whole_of w).grants id.plan id.stream g in
      a ∙ ap (λ y. record (whole_of w) { grants = put2 (whole_of w).grants id.plan id.stream y }) (sym r)

  -- what is read there then
  pub grant_then : (g : Option HoldModel) → n' ≡ with_course n id.stream (record (course_at n id.stream) { grant = g }) →
      (whole_of (record b { plans = set b.plans id.plan n' })).grants id.plan id.stream ≡ g
  grant_then g e = ap (λ y. y.grants id.plan id.stream) (grant-written g e) ∙ put2-here (whole_of w).grants id.plan id.stream g

  signal_in : (q : ℕ) → q < signal_count (state_of w) id.plan → q < length (begun_at b.plans id.plan).signals
  signal_in q l =
      let e : q < length (begun_at b.plans id.plan).plan.signals = signals_known b w id z h q l in
      let f : q < length n.plan.signals = subst (λ x. q < length x.plan.signals) (sym read) e in
      let g : q < length n.signals = omega (arith, f, parts.signals) in
      subst (λ x. q < length x.signals) read g

  -- a stream holds otherwise, and a signal stands otherwise and carries otherwise
  pub signal-written : (q : ℕ) → q < signal_count (state_of w) id.plan → (g : Option HoldModel) (y : CarriedModel) →
      n' ≡ with_carried (with_course n id.stream (record (course_at n id.stream) { grant = g })) q y →
      whole_of (record b { plans = set b.plans id.plan n' }) ≡ with_signal (record (whole_of w) { grants = put2 (whole_of w).grants id.plan id.stream g }) id.plan q y.mark y.grant
  signal-written q l g y e =
      ap (λ a. whole_of (record b { plans = set b.plans id.plan a })) (e ∙ ap (λ a. with_carried (with_course a id.stream (record (course_at a id.stream) { grant = g })) q y) read)
      ∙ both-change b id.plan id.stream q (record (course_at (begun_at b.plans id.plan) id.stream) { grant = g }) y plan_in stream_in (signal_in q l)
      ∙ ap (λ f. record (whole_of b) { state = record (whole_of b).state { progress = f; marks = put2 (whole_of b).state.marks id.plan q y.mark }; grants = put2 (whole_of b).grants id.plan id.stream g; parcels = put2 (whole_of b).parcels id.plan q y.grant })
      (progress-same b id.plan id.stream)
      ∙ ap (λ a. with_signal (record (whole_of a) { grants = put2 (whole_of a).grants id.plan id.stream g }) id.plan q y.mark y.grant) z

  mark_read : (q : ℕ) → (carried_at n q).mark ≡ (state_of w).marks id.plan q
  unfolding whole_of
  mark_read q = ap (λ y. (carried_at y q).mark) read ∙ ap (λ y. (carried_at (begun_at y.plans id.plan) q).mark) z

  -- the same, as it is read then, where the mark is changed
  pub signal-kept : (q : ℕ) → q < signal_count (state_of w) id.plan → (change : Mark → Mark) (g o : Option HoldModel) →
      n' ≡ with_carried (with_course n id.stream (record (course_at n id.stream) { grant = g })) q (record { mark = change (carried_at n q).mark; grant = o }) →
      let new = whole_of (record b { plans = set b.plans id.plan n' }) in
      new ≡ with_signal (record (whole_of w) { grants = put2 (whole_of w).grants id.plan id.stream (new.grants id.plan id.stream) }) id.plan q (change ((state_of w).marks id.plan q)) o
  signal-kept q l change g o e =
      let a = signal-written q l g (record { mark = change (carried_at n q).mark; grant = o }) e in
      let r = ap (λ y. y.grants id.plan id.stream) a ∙ put2-here (whole_of w).grants id.plan id.stream g in
      a ∙ ap (λ y. with_signal (record (whole_of w) { grants = put2 (whole_of w).grants id.plan id.stream y }) id.plan q (change (carried_at n q).mark) o) (sym r)
      ∙ ap (λ m. with_signal (record (whole_of w) { grants = put2 (whole_of w).grants id.plan id.stream ((whole_of (record b { plans = set b.plans id.plan n' })).grants id.plan id.stream) }) id.plan q (change m) o) (mark_read q)

  -- what the signal carries then
  pub signal_then : (q : ℕ) → q < signal_count (state_of w) id.plan → (g : Option HoldModel) (y : CarriedModel) →
      n' ≡ with_carried (with_course n id.stream (record (course_at n id.stream) { grant = g })) q y →
      (whole_of (record b { plans = set b.plans id.plan n' })).parcels id.plan q ≡ y.grant
  signal_then q l g y e = ap (λ x. x.parcels id.plan q) (signal-written q l g y e) ∙ put2-here (whole_of w).parcels id.plan q y.grant

  -- and what the stream holds
  pub holder_then : (q : ℕ) → q < signal_count (state_of w) id.plan → (g : Option HoldModel) (y : CarriedModel) →
      n' ≡ with_carried (with_course n id.stream (record (course_at n id.stream) { grant = g })) q y →
      (whole_of (record b { plans = set b.plans id.plan n' })).grants id.plan id.stream ≡ g
  holder_then q l g y e = ap (λ x. x.grants id.plan id.stream) (signal-written q l g y e) ∙ put2-here (whole_of w).grants id.plan id.stream g

  -- and where what it carries is read then too
  pub signal-read : (q : ℕ) → q < signal_count (state_of w) id.plan → (change : Mark → Mark) (g o : Option HoldModel) →
      n' ≡ with_carried (with_course n id.stream (record (course_at n id.stream) { grant = g })) q (record { mark = change (carried_at n q).mark; grant = o }) →
      let new = whole_of (record b { plans = set b.plans id.plan n' }) in
      new ≡ with_signal (record (whole_of w) { grants = put2 (whole_of w).grants id.plan id.stream (new.grants id.plan id.stream) }) id.plan q (change ((state_of w).marks id.plan q)) (new.parcels id.plan q)
  signal-read q l change g o e =
      let new : Whole = whole_of (record b { plans = set b.plans id.plan n' }) in
      let t = signal_then q l g (record { mark = change (carried_at n q).mark; grant = o }) e in
      signal-kept q l change g o e
      ∙ ap (λ y. with_signal (record (whole_of w) { grants = put2 (whole_of w).grants id.plan id.stream (new.grants id.plan id.stream) }) id.plan q (change ((state_of w).marks id.plan q)) y) (sym t)

  -- a stream makes its end, and gives what it holds back
  pub given-back : (p : PoolModel) (g : HoldModel) → (course_at n id.stream).grant ≡ Some g →
      n' ≡ with_course n id.stream (record (course_at n id.stream) { progress = record (course_at n id.stream).progress { done = true }; grant = None }) →
      pool_hold p ≡ plus (pool_hold b.pool) g.rights →
      whole_of (record b { plans = set b.plans id.plan n'; pool = p })
      ≡ record (with_stream (whole_of w) id (record (progress_of (state_of w) id) { done = true }) None) { pool = plus (whole_of w).pool (rights_in ((whole_of w).grants id.plan id.stream)) }
  given-back p g a e k =
      with_pool (record b { plans = set b.plans id.plan n' }) p
      ∙ ap (λ (y : Whole). record y { pool = pool_hold p }) (course-written (record (course_at n id.stream) { progress = record (course_at n id.stream).progress { done = true }; grant = None }) e)
      ∙ ap (λ (y : Progress). record (with_stream (whole_of w) id (record y { done = true }) None) { pool = pool_hold p }) progress_read
      ∙ ap (λ y. record (with_stream (whole_of w) id (record (progress_of (state_of w) id) { done = true }) None) { pool = y })
      (k ∙ ap (λ y. plus (pool_hold b.pool) (rights_in y)) (sym a ∙ grant_read) ∙ ap (λ y. plus y (rights_in ((whole_of w).grants id.plan id.stream))) (pool_read b w z))

  -- a stream less is unfinished
  pub finished : (running : ℕ) → n' ≡ record n { unfinished = n.unfinished - 1 } →
      whole_of (record b { plans = set b.plans id.plan n'; running = running })
      ≡ record (whole_of w) { unfinished = put (whole_of w).unfinished id.plan ((whole_of w).unfinished id.plan - 1); running = running }
  finished running e =
      with_running (record b { plans = set b.plans id.plan n' }) running
      ∙ ap (λ a. record (whole_of (record b { plans = set b.plans id.plan a })) { running = running }) (e ∙ ap (λ (a : BegunModel). record a { unfinished = a.unfinished - 1 }) read)
      ∙ ap (λ (a : Whole). record a { running = running }) (unfinished-change b id.plan ((begun_at b.plans id.plan).unfinished - 1) plan_in)
      ∙ finished_read b w id.plan running z

  pub unfinished_read : n.unfinished ≡ (whole_of w).unfinished id.plan
  unfolding whole_of
  unfinished_read = ap (λ y. y.unfinished) read ∙ ap (λ y. (begun_at y.plans id.plan).unfinished) z

  -- and with the last one of the plan a plan less
  pub finished-last : n' ≡ record n { unfinished = n.unfinished - 1 } → (t : Bool) → (n.unfinished == 1) ≡ t →
      whole_of (record b { plans = set b.plans id.plan n'; running = if t then b.running - 1 else b.running })
      ≡ record (whole_of w) { unfinished = put (whole_of w).unfinished id.plan ((whole_of w).unfinished id.plan - 1); running = if (whole_of w).unfinished id.plan == 1 then (whole_of w).running - 1 else (whole_of w).running }
  finished-last e t h =
      finished (if t then b.running - 1 else b.running) e
      ∙ ap (λ (r : ℕ). record (whole_of w) { unfinished = put (whole_of w).unfinished id.plan ((whole_of w).unfinished id.plan - 1); running = r })
      (ap (λ (y : ℕ). if t then y - 1 else y) (running_read b w z) ∙ ap (λ (y : Bool). if y then (whole_of w).running - 1 else (whole_of w).running) (sym h ∙ ap (λ (m : ℕ). m == 1) unfinished_read))

-- ---- the opening

repeated : (d n k : ℕ) → get_or (replicate n d) k d ≡ d
repeated d zero k = refl
repeated d (suc n) zero = refl
repeated d (suc n) (suc k) = repeated d n k

-- a machine of a placement and its rights, in which nothing is begun or recorded, is the opened one
pub opened_is : (o : OpeningRows) (l : PlacementModel) (s : PoolModel) (es : List (ℕ × Entry)) (ns : List ℕ) (bs : List BegunModel) (j : JournalModel) (free : ℕ) (setup : Setup) (p : Place) (room n : ℕ) →
    place_of_rows o ≡ forget_numbers p → l.setup ≡ setup → place_of l ≡ forget_numbers p → pool_hold s ≡ true_rights (sizes_of setup) p → es ≡ [] → ns ≡ replicate n 0 → bs ≡ [] →
    j ≡ record { log = []; room = room } → free ≡ room - down_count (sizes_of setup) p →
    whole_of (record { opening = o; placement = l; pool = s; entries = es; numbers = ns; next_number = 1; plans = bs; journal = j; free = free; running = 0; halted = false }) ≡ opened_whole setup p room
unfolding whole_of
opened_is o l s es ns bs j free setup p room n a b c d e f g h i =
    let none : ℕ → ℕ = λ k. 0 in
    let of_list : ℕ → ℕ = λ k. get_or (replicate n 0) k 0 in
    let z : of_list ≡ none = fun_ext (repeated 0 n) in
    rw (e, f, g, h) (cc (a, b, c, d, i, z))
