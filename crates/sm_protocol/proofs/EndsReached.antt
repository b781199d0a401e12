-- If all plans are done, the placement is their end.
use Rattle.sm_protocol.proofs.Below.{◌≡◌, ℕ, suc, ◌+◌, ◌<◌, Bool, true, false, refl, sym, ap, ◌∙◌, inl, inr, arith, List, [], ◌∷◌, length, get_or, slice_get, take, map, not, ◌==◌, if◌then◌else◌, Option, Some, count_by, cases_Bool, cases_eq, eq-eqb, ne_eqb, le-ltb, lt-ltb, and_parts, slice_get_within, get_or_from_slice_get, count_by_more_yes, count_by_more_no, take-length, Cell, Setup, Sizes, bit, put, sum_below, Place, Lead, StreamId, Hold, Right, Instr, Publish, Unlist, Signal, Wait, is_call, StreamModel, PlanModel, no_stream, stream_at, final_hold, code_at, wait_of, any_none, put-here, put-apart, same_sum, sum_zero, stand_once, sum_by-below, sum_below-front, is_publication, publications, end_of, IsKind, listed_now, listed_set, listed_reaches, listed_rule, listed_kind, cell_now, cell_set, cell_reaches, cell_rule, cell_kind, set_plans, plans_same, end_sets, set_by, set_streams, subst}
use Rattle.sm_protocol.proofs.Words.{Passage, State, Start, Progress, no_start, plan_at, stream_count, stream_id, progress_of, set_progress, is_begun, is_running, is_unfinished, is_under_way, held_by, held, call_number, tried_more, behind_call, ahead_of_call, Happening, started, happens, Through, LostBefore, LostAfter, ends_of, IsReached, EndsAreReached}
use Rattle.sm_protocol.proofs.Invariant.{IsKept}
use Rattle.sm_protocol.proofs.Holds.{part, carried}
use Rattle.sm_protocol.proofs.Keeping.{begun}
use Rattle.sm_protocol.proofs.Places.{streams_apart}
use Rattle.sm_protocol.proofs.LogRoom.{begun_parts, of_call, plan_before, count_started}
use Rattle.sm_protocol.proofs.Cases.{IsBefore, of_known_happens, refill_granted, OfKnownSteps}
use Rattle.sm_protocol.proofs.Whole.{reached_keeps}
use Rattle.sm_protocol.proofs.Reached.{by_events}
use Rattle.sm_protocol.proofs.LogEnds.{is_logged, in_log}
use Rattle.sm_protocol.proofs.EndStates.{IsSetAt, rule_of, is_set}

-- ---- versions

-- how often the first instructions of a code change the shard's entry
abbrev made_of : ℕ → List Instr → ℕ → ℕ
made_of s code at = count_by (is_publication s) (take at code)

one_made : (s : ℕ) (code : List Instr) (at : ℕ) (i : Instr) → slice_get code at ≡ Some i → made_of s code (at + 1) ≡ made_of s code at + bit (is_publication s i)
one_made s code at i e =
    let less : at < length code = slice_get_within code at i e in
    let same : get_or code at i ≡ i = get_or_from_slice_get code at i i e in
    elim (cases_Bool (is_publication s i)) [
      | inl so ↦ rw so (count_by_more_yes (is_publication s) code at i less (rw same so))
      | inr other ↦ rw other (count_by_more_no (is_publication s) code at i less (rw same other) ∙ omega arith)
    ]

none_made : (s : ℕ) (code : List Instr) → made_of s code 0 ≡ 0
none_made s [] = refl
none_made s (x ∷ xs) = refl

no_publication : (s : ℕ) (i : Instr) → is_call i ≡ true → is_publication s i ≡ false
no_publication s (Publish t) e = cc
no_publication s (Unlist t) e = cc
no_publication s _ e = refl

-- how often the streams begun have changed the shard's entry
abbrev changes : State → (ℕ → ℕ → Progress) → ℕ → ℕ
changes w f s = sum_below (length w.plans) (λ k. sum_below (stream_count w k) (λ i. made_of s (code_at (plan_at w k) i) (f k i).at))

pub record IsVersioned (w : State) : Type 0 where
  pub version : (s : ℕ) → w.place.version s ≡ w.opening.version s + changes w w.progress s

module _ (w : State) (h : IsVersioned w) (id : StreamId) where
  -- one stream goes on
  goes_on_by : is_begun w id ≡ true → (y : Progress) (s n : ℕ) → made_of s (code_at (plan_at w id.plan) id.stream) y.at ≡ made_of s (code_at (plan_at w id.plan) id.stream) (progress_of w id).at + n →
      changes w (set_progress w id y) s ≡ changes w w.progress s + n
  goes_on_by b y s n e =
      let p = begun_parts w id b in
      let a = streams_apart (length w.plans) (stream_count w) (λ k i x. made_of s (code_at (plan_at w k) i) x.at) w.progress id y 0 n p.0 p.1 (omega arith) in
      omega arith

  stands : is_begun w id ≡ true → (y : Progress) → y.at ≡ (progress_of w id).at → (s : ℕ) → w.place.version s ≡ w.opening.version s + changes w (set_progress w id y) s
  stands b y e s =
      let a = goes_on_by b y s 0 (let d = ap (made_of s (code_at (plan_at w id.plan) id.stream)) e in omega arith) in
      let v = h.version s in
      omega arith

  passes : (i : Instr) → IsBefore w id (Some i) → (y : Progress) → y.at ≡ (progress_of w id).at + 1 → (s : ℕ) → is_publication s i ≡ false → w.place.version s ≡ w.opening.version s + changes w (set_progress w id y) s
  passes i b y e s other =
      let m = one_made s (code_at (plan_at w id.plan) id.stream) (progress_of w id).at i b.next_is in
      let d = ap (made_of s (code_at (plan_at w id.plan) id.stream)) e in
      let z : bit (is_publication s i) ≡ 0 = ap bit other in
      let a = goes_on_by b.begun y s 0 (omega arith) in
      let v = h.version s in
      omega arith

  publishes : (i : Instr) (t : ℕ) → IsBefore w id (Some i) → ((s : ℕ) → is_publication s i ≡ (t == s)) → (y : Progress) → y.at ≡ (progress_of w id).at + 1 → (s : ℕ) →
      put w.place.version t (suc (w.place.version t)) s ≡ w.opening.version s + changes w (set_progress w id y) s
  publishes i t b is y e s =
      let m = one_made s (code_at (plan_at w id.plan) id.stream) (progress_of w id).at i b.next_is in
      let d = ap (made_of s (code_at (plan_at w id.plan) id.stream)) e in
      let v = h.version s in
      elim (cases_eq s t) [
        | inl q ↦
            let z : bit (is_publication s i) ≡ 1 = ap bit (is s ∙ eq-eqb t s (sym q)) in
            let a = goes_on_by b.begun y s 1 (omega arith) in
            let p = put-here w.place.version t (suc (w.place.version t)) s q in
            let u : w.place.version t ≡ w.place.version s = ap w.place.version (sym q) in
            omega arith
        | inr q ↦
            let z : bit (is_publication s i) ≡ 0 = ap bit (is s ∙ ne_eqb t s (λ g. q (sym g))) in
            let a = goes_on_by b.begun y s 0 (omega arith) in
            let p = put-apart w.place.version t (suc (w.place.version t)) s q in
            omega arith
      ]

  version_steps : (passage : Passage) → OfKnownSteps w id passage (λ o. IsVersioned o.1)
  version_steps passage = record {
    idle = λ answer. h;
    refused = λ i x why t e. h;
    at_end = λ b. record { version = stands b.begun (record (progress_of w id) { done = true }) refl };
    publishes = λ s b. record { version = publishes (Publish s) s b (λ t. refl) (record (progress_of w id) { at = (progress_of w id).at + 1 }) refl };
    unlists = λ s b. record { version = publishes (Unlist s) s b (λ t. refl) (record (progress_of w id) { at = (progress_of w id).at + 1 }) refl };
    posts = λ q b. record { version = λ s. passes (Signal q) b (record (progress_of w id) { at = (progress_of w id).at + 1 }) refl s refl };
    awaits = λ q b e. record { version = λ s. passes (Wait q) b (record (progress_of w id) { at = (progress_of w id).at + 1 }) refl s refl };
    lost = λ i x t p. record { version = stands t.before.begun (record (tried_more (progress_of w id) false) { pending = call_number w (progress_of w id) }) refl };
    through = λ i x effect t a p. record {
      version = λ s.
          ap (λ f. f s) (of_call w.sizes w.place x.shard x.server x.call (call_number w (progress_of w id)) effect a).version ∙ passes i t.before (behind_call (progress_of w id) effect.fresh) refl s (no_publication s i t.call);
    };
    unanswered = λ i x effect t a p. record {
      version = λ s.
          ap (λ f. f s) (of_call w.sizes w.place x.shard x.server x.call (call_number w (progress_of w id)) effect a).version ∙ stands t.before.begun (ahead_of_call w (progress_of w id) effect.fresh) refl s;
    };
  }

module _ (w : State) (v : IsKept w) (h : IsVersioned w) where
  started_version : (plan : PlanModel) → IsVersioned (started w plan)
  started_version plan = record {
    version = λ s.
        let next = started w plan in
        let more : length next.plans ≡ suc (length w.plans) = count_started w plan in
        let all : changes next w.progress s ≡ sum_below (suc (length w.plans)) (λ k. sum_below (stream_count next k) (λ i. made_of s (code_at (plan_at next k) i) (w.progress k i).at)) =
        ap (λ n. sum_below n (λ k. sum_below (stream_count next k) (λ i. made_of s (code_at (plan_at next k) i) (w.progress k i).at))) more in
        let old = same_sum (length w.plans) (λ k. sum_below (stream_count next k) (λ i. made_of s (code_at (plan_at next k) i) (w.progress k i).at)) (λ k. sum_below (stream_count w k) (λ i. made_of s (code_at (plan_at w k) i) (w.progress k i).at))
        (λ k l. ap (λ p. sum_below (length p.streams) (λ i. made_of s (code_at p i) (w.progress k i).at)) (plan_before w plan k l)) in
        let new = sum_zero (stream_count next (length w.plans)) (λ i. made_of s (code_at (plan_at next (length w.plans)) i) (w.progress (length w.plans) i).at)
        (λ i. ap (made_of s (code_at (plan_at next (length w.plans)) i)) (unmade i) ∙ none_made s (code_at (plan_at next (length w.plans)) i)) in
        let u = h.version s in
        omega arith;
  }
    where
      unmade : (i : ℕ) → (w.progress (length w.plans) i).at ≡ 0
      unmade i = ap (λ x. x.at) (v.unbegun (stream_id (length w.plans) i) (rw (le-ltb (length w.plans) (length w.plans) (omega arith)) refl))

  refilled_version : (id : StreamId) (n : ℕ) → is_running w id ≡ true → (s : ℕ) → w.place.version s ≡ w.opening.version s + changes w (set_progress w id (record (progress_of w id) { refills = (progress_of w id).refills + n })) s
  refilled_version id n e = stands w h id (and_parts (is_begun w id) (not (progress_of w id).done) e).0 (record (progress_of w id) { refills = (progress_of w id).refills + n }) refl

  version_kept : (e : Happening) → IsVersioned (happens w e).1
  version_kept = of_known_happens w (λ e o. IsVersioned o.1) (record {
    idle = λ e answer n. h;
    steps = λ id. version_steps w h id Through;
    loses = λ id after. version_steps w h id (if after then LostAfter else LostBefore);
    refills = λ id n f. record { version = refilled_version id n (refill_granted w id n f).0 };
    arrives = λ s u f. record { version = h.version };
    passes_on = λ t o f. record { version = h.version };
    approves = λ u f. record { version = h.version };
    restarts = λ u f. record { version = h.version };
    starts = λ plan a b c. started_version plan;
  })

is_versioned : (setup : Setup) (w : State) → IsReached setup w → IsVersioned w
is_versioned setup w r =
    let u = by_events setup IsVersioned (λ p room o. record { version = λ s. omega arith }) (λ x e at f h. version_kept x (reached_keeps setup x at).0 h e) w r in
    record { version = u.version }

-- the versions at the ends of plans
ends_version : (c : Sizes) (plans : List Start) (p : Place) (s : ℕ) → (ends_of c (map (λ x. x.plan) plans) p).version s ≡ p.version s + sum_below (length plans) (λ k. publications (get_or plans k no_start).plan s)
ends_version c [] p s = omega arith
ends_version c (x ∷ xs) p s =
    let rest = ends_version c xs (end_of c x.plan p) s in
    let first = sum_below-front (length xs) (λ k. publications (get_or (x ∷ xs) k no_start).plan s) in
    omega arith

-- ---- where all plans are done

-- what the ends of plans set, the first of which has this number
module _ (A : Type 0) (set : Hold → A → A) (reaches : Hold → Type 0) (unset : (h : Hold) (old : A) → (reaches h → ⊥) → set h old ≡ old) (now : Place → A)
    (by_set : (h : Hold) (p : Place) → now (set_by h p) ≡ set h (now p)) (no_version : (p : Place) (f : ℕ → ℕ) → now (record p { version = f }) ≡ now p) (c : Sizes) where
  abbrev ended : PlanModel → A → A
  ended plan old = set_streams A set reaches unset (λ i. true) (λ i. final_hold (stream_at c plan i)) (length plan.streams) old

  ends_set : (plans : List Start) (at : ℕ) (value : ℕ → A) (plan : ℕ → PlanModel) (p : Place) → ((j : ℕ) → j < length plans → plan (at + j) ≡ (get_or plans j no_start).plan) →
      ((j : ℕ) → j < length plans → value (suc (at + j)) ≡ ended (plan (at + j)) (value (at + j))) → now p ≡ value at → now (ends_of c (map (λ x. x.plan) plans) p) ≡ value (at + length plans)
  ends_set [] at value plan p is each e = e ∙ ap value (omega arith)
  ends_set (x ∷ xs) at value plan p is each e =
      let zero_is : at + 0 ≡ at = omega arith in
      let first : plan at ≡ x.plan = ap plan (sym zero_is) ∙ is 0 (omega arith) in
      let step : value (suc at) ≡ ended (plan at) (value at) = subst (λ n. value (suc n) ≡ ended (plan n) (value n)) zero_is (each 0 (omega arith)) in
      let here : now (end_of c x.plan p) ≡ value (suc at) = end_sets A set reaches unset now by_set no_version c x.plan p ∙ ap (ended x.plan) e ∙ ap (λ q. ended q (value at)) (sym first) ∙ sym step in
      let more : (j : ℕ) → suc at + j ≡ at + suc j = (λ j. omega arith) in
      ends_set xs (suc at) value plan (end_of c x.plan p)
      (λ j l. ap plan (more j) ∙ is (suc j) (omega arith))
      (λ j l. subst (λ n. value (suc n) ≡ ended (plan n) (value n)) (sym (more j)) (each (suc j) (omega arith)))
      here
      ∙ ap value (omega arith)

module _ (w : State) (v : IsKept w) (done : (k : ℕ) → k < length w.plans → is_unfinished w k ≡ false) where
  all_done : (k i : ℕ) → k < length w.plans → i < stream_count w k → (w.progress k i).done ≡ true
  all_done k i l m = elim (cases_Bool (w.progress k i).done) [
    | inl e ↦ e
    | inr e ↦ absurd (let n = any_none (stream_count w k) (λ j. not (w.progress k j).done) (done k l) i m in let o = ap not e in cc)
  ]

  at_ends : (k i : ℕ) → k < length w.plans → i < stream_count w k → (w.progress k i).at ≡ length (code_at (plan_at w k) i)
  at_ends k i l m = ((v.plans k l).streams i m).at_end (all_done k i l m)

  nothing_carried : (k q : ℕ) → k < length w.plans → q < length (plan_at w k).signals → is_under_way (w.marks k q) ≡ false
  nothing_carried k q l m =
      let r = v.plans k l in
      let once = (stand_once (plan_at w k) q (r.checked.sound.signals q m)).wait in
      let less = slice_get_within (code_at (plan_at w k) (wait_of (plan_at w k) q).0) (wait_of (plan_at w k) q).1 (Wait q) once.here in
      let at = at_ends k (wait_of (plan_at w k) q).0 l once.stream in
      let awaited : (w.marks k q).awaited ≡ true = r.awaited q m ∙ lt-ltb (wait_of (plan_at w k) q).1 (w.progress k (wait_of (plan_at w k) q).0).at (omega arith) in
      rw (r.in_turn q m awaited, awaited) refl

  nothing_held : (r : Right) → held w r ≡ 0
  nothing_held r = same_sum (length w.plans) (held_by w r) (λ k. 0) (λ k l.
      let a = same_sum (stream_count w k) (λ i. part w.sizes (plan_at w k) r i (w.progress k i)) (λ i. 0) (λ i m. rw (all_done k i l m) refl) in
      let b = same_sum (length (plan_at w k).signals) (λ q. carried (plan_at w k) r q (w.marks k q)) (λ q. 0) (λ q m. rw (nothing_carried k q l m) refl) in
      let c = sum_zero (stream_count w k) (λ i. 0) (λ i. refl) in
      let d = sum_zero (length (plan_at w k).signals) (λ q. 0) (λ q. refl) in
      omega arith)
      ∙ sum_zero (length w.plans) (λ k. 0) (λ k. refl)

  module _ (A : Type 0) (now : Place → A) (set : Hold → A → A) (reaches : Hold → Type 0) (rule : (ℕ → Lead) → Place → Right) (kind : IsKind A now set reaches rule)
      (no_version : (p : Place) (f : ℕ → ℕ) → now (record p { version = f }) ≡ now p) (h : IsSetAt A now set reaches rule kind w) where
    abbrev value : ℕ → A
    value n = set_plans A set reaches kind.unset (λ k i. true) (λ k i. final_hold (stream_at w.sizes (plan_at w k) i)) (stream_count w) n (now w.opening)

    from_zero : (j : ℕ) → 0 + j ≡ j
    from_zero j = omega arith

    now_is : now w.place ≡ now (ends_of w.sizes (map (λ x. x.plan) w.plans) w.opening)
    now_is =
        h.value (nothing_held (rule_of A now set reaches rule kind w.sizes w.place))
        ∙ plans_same A set reaches kind.unset (λ k i. true) (λ k i. (w.progress k i).done) (λ k i. final_hold (stream_at w.sizes (plan_at w k) i)) (stream_count w) (length w.plans) (now w.opening) (λ k i l m. inl (all_done k i l m))
        ∙ sym (ends_set A set reaches kind.unset now kind.by_set no_version w.sizes w.plans 0 value (plan_at w) w.opening (λ j l. ap (plan_at w) (from_zero j)) (λ j l. refl) refl ∙ ap value (from_zero (length w.plans)))

  versions_are : IsVersioned w → (s : ℕ) → w.place.version s ≡ (ends_of w.sizes (map (λ x. x.plan) w.plans) w.opening).version s
  versions_are h s =
      let a = h.version s in
      let b = ends_version w.sizes w.plans w.opening s in
      let c = same_sum (length w.plans) (λ k. sum_below (stream_count w k) (λ i. made_of s (code_at (plan_at w k) i) (w.progress k i).at)) (λ k. publications (plan_at w k) s) (λ k l.
      same_sum (stream_count w k) (λ i. made_of s (code_at (plan_at w k) i) (w.progress k i).at) (λ i. count_by (is_publication s) (code_at (plan_at w k) i))
      (λ i m. ap (made_of s (code_at (plan_at w k) i)) (at_ends k i l m) ∙ ap (count_by (is_publication s)) (take-length (code_at (plan_at w k) i)))
      ∙ sym (sum_by-below (λ (stream : StreamModel). count_by (is_publication s) stream.code) (plan_at w k).streams no_stream)) in
      omega arith

-- where all plans are done, the log has each stream's steps, and the placement is the plans' end
pub ends_are_reached : EndsAreReached
ends_are_reached setup w r done =
    let v = (reached_keeps setup w r).0 in
    let l = is_logged setup w r in (
      (λ id b. let g = begun w id b in in_log w v l id b (all_done w v done id.plan id.stream g.plan g.stream)),
      record {
        cells = λ s u. now_is w v done Cell (cell_now s u) (cell_set s u) (cell_reaches s u) (cell_rule s u) (cell_kind s u) (λ p f. refl) (is_set Cell (cell_now s u) (cell_set s u) (cell_reaches s u) (cell_rule s u) (cell_kind s u) setup w r);
        listed = λ s. now_is w v done (Option ℕ) (listed_now s) (listed_set s) (listed_reaches s) (listed_rule s) (listed_kind s) (λ p f. refl) (is_set (Option ℕ) (listed_now s) (listed_set s) (listed_reaches s) (listed_rule s) (listed_kind s) setup w r);
        version = versions_are w v done (is_versioned setup w r);
        limit = l.limit;
        down = λ u. ap (λ (f : ℕ → Bool). f u) l.down;
      },
    )
