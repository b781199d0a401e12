-- The notes of streams' last steps are kept with the plans and the log.
use Rattle.std.proofs.Common.{◌≡◌, ◌≢◌, ◌<◌, ◌+◌, ◌++◌, ◌∷◌, [], ℕ, false, sym, ap, ◌∙◌, subst, arith, inl, inr, Option, Some, None, List, length, get_or, set, map}
use Rattle.std.proofs.lemmas.Bool.{cases_eq}
use Rattle.std.proofs.lemmas.List.{get_or-set_same, get_or-set_other}
use Rattle.std.proofs.Math.ListN.{get_or-map}
use Rattle.sm_reservation.specs.declared.stream_id.StreamId.{StreamId}
use Rattle.sm_protocol.specs.declared.event.Event.TheVariants as event
use Rattle.sm_protocol.specs.declared.event.Played.{Played}
use Rattle.sm_protocol.specs.declared.event.Logged.{Logged}
use Rattle.sm_protocol.specs.State.{Start, stream_id}
use Rattle.sm_protocol.specs.Log.{is_step_of}
use Rattle.sm_protocol.specs.Next.{since_in, since_of}
use Rattle.sm_protocol.proofs.Numbers.{one_stream}
use Rattle.sm_protocol.proofs.Since.{since_step, since_other}
use Rattle.sm_machine.specs.Course.{CourseModel, no_course}
use Rattle.sm_machine.specs.Begun.{BegunModel, no_begun, course_at, start_of}
use Rattle.sm_machine.specs.Machine.{MachineModel, begun_at}
use Rattle.sm_machine.specs.State.{whole_of, state_of}
use Rattle.sm_machine.specs.Since.{KeepsSince, since_by, since_at}
use Rattle.sm_machine.proofs.Tables.{inner-more, map-kept}
use Rattle.sm_machine.proofs.Told.{own_token, other_token}
use Rattle.sm_machine.proofs.Writes.{laid_back}

-- ---- one plan written

-- each stream of the one plan has made its last step where the same stream of the other one has
abbrev pub HasSameSince : BegunModel → BegunModel → Type 0
HasSameSince x n = (i : ℕ) → (course_at x i).since ≡ (course_at n i).since

-- so it is where no stream has changed
pub same_courses : (n x : BegunModel) → x.courses ≡ n.courses → HasSameSince x n
same_courses n x e i = ap (λ (xs : List CourseModel). (get_or xs i no_course).since) e

-- and where one has changed in all but that
pub same_since : (n x : BegunModel) (i : ℕ) (y : CourseModel) → x.courses ≡ set n.courses i y → y.since ≡ (course_at n i).since → HasSameSince x n
same_since n x i y e same j =
    let st : CourseModel → Option ℕ = λ z. z.since in
    sym (get_or-map st x.courses j no_course) ∙ ap (λ (xs : List CourseModel). get_or (map st xs) j None) e
    ∙ ap (λ xs. get_or xs j None) (map-kept st n.courses i y no_course same) ∙ get_or-map st n.courses j no_course

-- a plan that was swapped out, changed and swapped back
pub since_swapped : (plans mid new : List BegunModel) (k : ℕ) (d n x : BegunModel) (log : List Logged) → k < length plans → new ≡ set mid k x → mid ≡ set plans k d → n ≡ get_or plans k no_begun →
    HasSameSince x n → KeepsSince plans log → KeepsSince new log
since_swapped plans mid new k d n x log l back out here same are =
    subst (λ ps. KeepsSince ps log) (sym (laid_back plans mid new k d x back out)) (record { each = λ j i start. ap (since_by start) (there j i) ∙ are.each j i start })
  where
    there : (j i : ℕ) → since_at (set plans k x) j i ≡ since_at plans j i
    there j i = elim (cases_eq j k) [
      | inl e ↦
          ap (λ m. since_at (set plans k x) m i) e ∙ ap (λ (z : BegunModel). (course_at z i).since) (get_or-set_same plans k x no_begun l) ∙ same i
          ∙ ap (λ (z : BegunModel). (course_at z i).since) here ∙ ap (λ m. since_at plans m i) (sym e)
      | inr e ↦ ap (λ (z : BegunModel). (course_at z i).since) (get_or-set_other plans k j x no_begun e)
    ]

-- a plan more, of which no stream has made a step
pub since_more : (plans new : List BegunModel) (x : BegunModel) (log : List Logged) → new ≡ plans ++ x ∷ [] → ((i : ℕ) → (course_at x i).since ≡ None) → KeepsSince plans log → KeepsSince new log
since_more plans new x log e none are =
    let st : CourseModel → Option ℕ = λ z. z.since in
    let same = inner-more (λ n. n.courses) st no_begun no_course plans x none in
    subst (λ ps. KeepsSince ps log) (sym e) (record { each = λ k i start. ap (λ f. since_by start (f k i)) same ∙ are.each k i start })

-- ---- one line recorded

-- a line that is no step
pub since_logged : (plans : List BegunModel) (log : List Logged) (line : Logged) → ((id : StreamId) → is_step_of id line.event ≡ false) → KeepsSince plans log → KeepsSince plans (log ++ line ∷ [])
since_logged plans log line other are = record { each = λ k i start. are.each k i start ∙ sym (since_other (stream_id k i) start 0 log line (other (stream_id k i))) }

-- the line of a stream's step
abbrev step_line : StreamId → Played → Logged
step_line id answer = record { event = event.Step id; answer = answer }

-- a step, which its stream keeps
pub since_on : (plans mid new : List BegunModel) (id : StreamId) (d n x : BegunModel) (log : List Logged) (since : ℕ) (answer : Played) → id.plan < length plans → id.stream < length n.courses →
    new ≡ set mid id.plan x → mid ≡ set plans id.plan d → n ≡ get_or plans id.plan no_begun → x.courses ≡ set n.courses id.stream (record (course_at n id.stream) { since = Some since }) → since ≡ length log + 1 →
    KeepsSince plans log → KeepsSince new (log ++ step_line id answer ∷ [])
since_on plans mid new id d n x log since answer l m back out here written at are =
    subst (λ ps. KeepsSince ps (log ++ step_line id answer ∷ [])) (sym (laid_back plans mid new id.plan d x back out)) (record { each = each })
  where
    own : (i : ℕ) → i ≢ id.stream → (course_at x i).since ≡ (course_at n i).since
    own i e = ap (λ (xs : List CourseModel). (get_or xs i no_course).since) written ∙ ap (λ (y : CourseModel). y.since) (get_or-set_other n.courses id.stream i (record (course_at n id.stream) { since = Some since }) no_course e)

    its : (course_at x id.stream).since ≡ Some since
    its = ap (λ (xs : List CourseModel). (get_or xs id.stream no_course).since) written ∙ ap (λ (y : CourseModel). y.since) (get_or-set_same n.courses id.stream (record (course_at n id.stream) { since = Some since }) no_course m)

    plan_there : get_or (set plans id.plan x) id.plan no_begun ≡ x
    plan_there = get_or-set_same plans id.plan x no_begun l

    here_now : (start : ℕ) → since_by start (since_at (set plans id.plan x) id.plan id.stream) ≡ since_in id start 0 (log ++ step_line id answer ∷ [])
    here_now start =
        let s = since_step id start 0 log (step_line id answer) (own_token id) in
        ap (λ (z : BegunModel). since_by start (course_at z id.stream).since) plan_there ∙ ap (since_by start) its ∙ (omega arith)

    there : (k i : ℕ) → stream_id k i ≢ id → since_at (set plans id.plan x) k i ≡ since_at plans k i
    there k i e = elim (cases_eq k id.plan) [
      | inl p ↦ elim (cases_eq i id.stream) [
        | inl q ↦ absurd (e (ap (λ a. stream_id a i) p ∙ ap (λ b. stream_id id.plan b) q))
        | inr q ↦
            ap (λ a. since_at (set plans id.plan x) a i) p ∙ ap (λ (z : BegunModel). (course_at z i).since) plan_there ∙ own i q
            ∙ ap (λ (z : BegunModel). (course_at z i).since) here ∙ ap (λ a. since_at plans a i) (sym p)
      ]
      | inr p ↦ ap (λ (z : BegunModel). (course_at z i).since) (get_or-set_other plans id.plan k x no_begun p)
    ]

    each : (k i start : ℕ) → since_by start (since_at (set plans id.plan x) k i) ≡ since_in (stream_id k i) start 0 (log ++ step_line id answer ∷ [])
    each k i start = elim (one_stream (stream_id k i) id) [
      | inl e ↦ subst (λ (a : StreamId). since_by start (since_at (set plans id.plan x) a.plan a.stream) ≡ since_in a start 0 (log ++ step_line id answer ∷ [])) (sym e) (here_now start)
      | inr e ↦ ap (since_by start) (there k i e) ∙ are.each k i start ∙ sym (since_other (stream_id k i) start 0 log (step_line id answer) (other_token id (stream_id k i) e))
    ]

-- ---- what is read

-- what a stream keeps tells when it came to its position
pub since_read : (b w : MachineModel) (id : StreamId) → b ≡ w → KeepsSince b.plans b.journal.log → since_by (begun_at b.plans id.plan).since (course_at (begun_at b.plans id.plan) id.stream).since ≡ since_of (state_of w) id
unfolding whole_of
since_read b w id z are =
    are.each id.plan id.stream (begun_at b.plans id.plan).since ∙ ap (λ (x : Start). since_in id x.since 0 b.journal.log) (sym (get_or-map start_of b.plans id.plan no_begun))
    ∙ ap (λ (m : MachineModel). since_of (state_of m) id) z
