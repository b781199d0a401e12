-- A plan more is begun, seen by the whole.
use Rattle.std.proofs.Common.{◌≡◌, ◌<◌, ◌≤◌, ◌++◌, ◌∷◌, [], ℕ, zero, suc, List, length, get_or, map, refl, sym, ap, ◌∙◌, subst, arith, inl, inr, Some, None}
use Rattle.std.specs.Prelude.{slice_index}
use Rattle.std.proofs.lemmas.Bool.{cases_lt}
use Rattle.std.proofs.lemmas.List.{get_or_past, length-map, map-append}
use Rattle.sm_reservation.specs.Rights.{Rights}
use Rattle.sm_reservation.specs.Capacity.{most_keys}
use Rattle.sm_reservation.specs.Hold.{plus}
use Rattle.sm_reservation.specs.Pool.{PoolModel, pool_hold}
use Rattle.sm_verifier.specs.Step.{parcels_of}
use Rattle.sm_verifier.specs.Checked.{CheckedModel}
use Rattle.sm_protocol.specs.State.{fresh, no_mark}
use Rattle.sm_protocol.specs.Happens.{started}
use Rattle.sm_protocol.proofs.Starts.{get_push_old, get_push_new}
use Rattle.sm_machine.specs.Course.{CourseModel, no_course, hold_in, capacity_in}
use Rattle.sm_machine.specs.Begun.{BegunModel, no_begun, no_carried, start_of, course_at, carried_at}
use Rattle.sm_machine.specs.Machine.{MachineModel, begun_at}
use Rattle.sm_machine.specs.State.{whole_of}
use Rattle.sm_verifier.specs.FirstHolding.{declared_rights}
use Rattle.sm_machine.specs.Tied.{pool_left}
use Rattle.sm_machine.specs.Starts.{empty_kept, ready_course, ready_signal, ready_courses, begun_of, AreFilled, IsGranted, IsBegunIn}
use Rattle.sm_machine.proofs.Readied.{first_count, first_at}
use Rattle.sm_machine.proofs.Tables.{inner, inner-more}
use Rattle.sm_machine.proofs.ties.Carrying.{no_rights_hold}

module _ (p : CheckedModel) (courses : List CourseModel) (f : AreFilled p.plan.streams (length p.plan.streams) (ready_courses p) courses) where
  abbrev peaks : ℕ → ℕ
  peaks i = slice_index p.peaks i

  abbrev streams : ℕ
  streams = length p.plan.streams

  ready_at : (i : ℕ) → i < streams → get_or (ready_courses p) i no_course ≡ ready_course (peaks i)
  ready_at i l = first_at peaks streams i no_course l

  -- no stream has made anything
  pub courses_fresh : (i : ℕ) → (get_or courses i no_course).progress ≡ fresh
  courses_fresh i = elim (cases_lt i streams) [
    | inl l ↦ (f.filled i l).progress ∙ ap (λ (x : CourseModel). x.progress) (ready_at i l)
    | inr l ↦ ap (λ (x : CourseModel). x.progress) (f.left i l ∙ get_or_past (ready_courses p) i no_course (subst (λ k. k ≤ i) (sym (first_count peaks streams)) l))
  ]

  -- nor a step
  pub courses_unstepped : (i : ℕ) → (get_or courses i no_course).since ≡ None
  courses_unstepped i = elim (cases_lt i streams) [
    | inl l ↦ (f.filled i l).since ∙ ap (λ (x : CourseModel). x.since) (ready_at i l)
    | inr l ↦ ap (λ (x : CourseModel). x.since) (f.left i l ∙ get_or_past (ready_courses p) i no_course (subst (λ k. k ≤ i) (sym (first_count peaks streams)) l))
  ]

  -- each stream has what it declares
  pub courses_granted : (i : ℕ) → i < streams → IsGranted (declared_rights p.plan.streams i) (peaks i) (get_or courses i no_course).grant
  courses_granted i l = record {
    hold = (f.filled i l).hold ∙ ap (λ (x : CourseModel). plus (hold_in x.grant) (declared_rights p.plan.streams i)) (ready_at i l) ∙ ap (λ h. plus h (declared_rights p.plan.streams i)) (no_rights_hold);
    capacity = (f.filled i l).capacity ∙ ap (λ (x : CourseModel). capacity_in x.grant) (ready_at i l);
  }

-- no signal was posted
pub signals_fresh : (ps : List Rights) (q : ℕ) → (get_or (map ready_signal ps) q no_carried).mark ≡ no_mark
signals_fresh [] q = refl
signals_fresh (x ∷ ps) zero = refl
signals_fresh (x ∷ ps) (suc q) = signals_fresh ps q

pub signals_granted : (ps : List Rights) (q : ℕ) → q < length ps → (get_or (map ready_signal ps) q no_carried).grant ≡ Some (empty_kept (most_keys (parcels_of ps q)))
signals_granted [] q l = absurd (omega arith)
signals_granted (x ∷ ps) zero l = refl
signals_granted (x ∷ ps) (suc q) l = signals_granted ps q (omega arith)

abbrev pub added : MachineModel → BegunModel → PoolModel → MachineModel
added b n free = record b { plans = b.plans ++ n ∷ []; pool = free }

state_added : (b : MachineModel) (n : BegunModel) (free : PoolModel) → n.since ≡ length b.journal.log →
    ((i : ℕ) → (course_at n i).progress ≡ fresh) → ((q : ℕ) → (carried_at n q).mark ≡ no_mark) → (whole_of (added b n free)).state ≡ started (whole_of b).state n.plan
unfolding whole_of
state_added b n free e u v =
    let ns : List BegunModel = b.plans ++ n ∷ [] in
    let a1 : map start_of ns ≡ map start_of b.plans ++ record { plan = n.plan; since = length b.journal.log } ∷ [] =
    map-append start_of b.plans (n ∷ []) ∙ ap (λ k. map start_of b.plans ++ record { plan = n.plan; since = k } ∷ []) e in
    let a2 : inner (λ n. n.courses) (λ x. x.progress) no_begun no_course ns ≡ (whole_of b).state.progress = inner-more (λ n. n.courses) (λ x. x.progress) no_begun no_course b.plans n u in
    let a3 : inner (λ n. n.signals) (λ x. x.mark) no_begun no_carried ns ≡ (whole_of b).state.marks = inner-more (λ n. n.signals) (λ x. x.mark) no_begun no_carried b.plans n v in
    cc

old_begun : (b : MachineModel) (n : BegunModel) (k : ℕ) → k < length b.plans → begun_at (b.plans ++ n ∷ []) k ≡ begun_at b.plans k
old_begun b n k l = get_push_old b.plans n k no_begun l

new_begun : (b : MachineModel) (n : BegunModel) → begun_at (b.plans ++ n ∷ []) (length b.plans) ≡ n
new_begun b n = get_push_new b.plans n no_begun

plans_length : (b : MachineModel) → length (whole_of b).state.plans ≡ length b.plans
unfolding whole_of
plans_length b = length-map b.plans start_of

old_here : (b : MachineModel) (k : ℕ) → k < length (whole_of b).state.plans → k < length b.plans
old_here b k l = subst (λ n. k < n) (plans_length b) l

new_here : (b : MachineModel) (n : BegunModel) → begun_at (b.plans ++ n ∷ []) (length (whole_of b).state.plans) ≡ n
new_here b n = ap (begun_at (b.plans ++ n ∷ [])) (plans_length b) ∙ new_begun b n

-- a plan more, whose streams have taken what they declare
abbrev filled_plan : MachineModel → CheckedModel → List CourseModel → BegunModel
filled_plan b p courses = record (begun_of p (length b.journal.log)) { courses = courses }

begun_in : (b : MachineModel) (p : CheckedModel) (courses : List CourseModel) (free : PoolModel) →
    AreFilled p.plan.streams (length p.plan.streams) (ready_courses p) courses →
    pool_hold free ≡ pool_left (pool_hold b.pool) p.plan.streams (length p.plan.streams) → IsBegunIn (whole_of b) p (whole_of (added b (filled_plan b p courses) free))
unfolding whole_of
begun_in b p courses free f h = record {
  state = state_added b (filled_plan b p courses) free refl (courses_fresh p courses f) (signals_fresh p.plan.signals);
  setup = refl;
  pool = h;
  grants = λ k i l. ap (λ (m : BegunModel). (course_at m i).grant) (old_begun b (filled_plan b p courses) k (old_here b k l));
  granted = λ i l. subst (λ (m : BegunModel). IsGranted (declared_rights p.plan.streams i) (slice_index p.peaks i) (course_at m i).grant) (sym (new_here b (filled_plan b p courses))) (courses_granted p courses f i l);
  parcels = λ k q l. ap (λ (m : BegunModel). (carried_at m q).grant) (old_begun b (filled_plan b p courses) k (old_here b k l));
  parceled = λ q l. ap (λ (m : BegunModel). (carried_at m q).grant) (new_here b (filled_plan b p courses)) ∙ signals_granted p.plan.signals q l;
  unfinished = λ k l. ap (λ (m : BegunModel). m.unfinished) (old_begun b (filled_plan b p courses) k (old_here b k l));
  counted = ap (λ (m : BegunModel). m.unfinished) (new_here b (filled_plan b p courses));
  running = refl;
  free = refl;
}

-- no stream of a plan that takes what it declares has made a step
pub filled_unstepped : (p : CheckedModel) (old n : BegunModel) (since : ℕ) → old ≡ begun_of p since → AreFilled old.plan.streams (length old.plan.streams) old.courses n.courses → (i : ℕ) → (course_at n i).since ≡ None
filled_unstepped p old n since is f = courses_unstepped p n.courses (subst (λ (m : BegunModel). AreFilled m.plan.streams (length m.plan.streams) m.courses n.courses) is f)

-- where the plan is put behind the others and its streams have what they declare from the pool, it is begun
pub begun_from : (b w : MachineModel) (z : b ≡ w) (p : CheckedModel) (old n : BegunModel) (free : PoolModel) (since : ℕ) (plans : List BegunModel) → old ≡ begun_of p since → since ≡ length b.journal.log →
    n ≡ record old { courses = n.courses } → AreFilled old.plan.streams (length old.plan.streams) old.courses n.courses →
    pool_hold free ≡ pool_left (pool_hold b.pool) old.plan.streams (length old.plan.streams) → plans ≡ b.plans ++ n ∷ [] → IsBegunIn (whole_of w) p (whole_of (record b { plans = plans; pool = free }))
begun_from b w z p old n free since plans is at kept f h added_is =
    let is' : old ≡ begun_of p (length b.journal.log) = is ∙ ap (begun_of p) at in
    let n_is : n ≡ record (begun_of p (length b.journal.log)) { courses = n.courses } = kept ∙ ap (λ (m : BegunModel). record m { courses = n.courses }) is' in
    let f' : AreFilled p.plan.streams (length p.plan.streams) (ready_courses p) n.courses = subst (λ (m : BegunModel). AreFilled m.plan.streams (length m.plan.streams) m.courses n.courses) is' f in
    let h' : pool_hold free ≡ pool_left (pool_hold b.pool) p.plan.streams (length p.plan.streams) = subst (λ (m : BegunModel). pool_hold free ≡ pool_left (pool_hold b.pool) m.plan.streams (length m.plan.streams)) is' h in
    subst (λ (x : MachineModel). IsBegunIn (whole_of x) p (whole_of (record b { plans = plans; pool = free }))) z
    (subst (λ (ns : List BegunModel). IsBegunIn (whole_of b) p (whole_of (record b { plans = ns; pool = free }))) (sym added_is) (subst (λ (m : BegunModel). IsBegunIn (whole_of b) p (whole_of (added b m free))) (sym n_is) (begun_in b p n.courses free f' h')))
