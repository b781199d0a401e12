-- The ends of streams in a state: what no live hold reaches is as the ended streams' final holds set it, and no ended stream
-- of a plan reaches what a live hold of that plan or of an earlier one reaches.
use Rattle.sm_protocol.proofs.Below.{◌≡◌, ◌≢◌, ◌⊎◌, ℕ, zero, suc, ◌+◌, ◌<◌, ◌≤◌, true, false, None, refl, sym, ap, ◌∙◌, inl, inr, arith, subst, List, length, slice_get, slice_index_or, unwrap_or, fun_ext, cases_eq, cases_Bool, cases_lt, le-ltb, slice_get_cases, Cell, Lead, Gone, put, put2, sum_below, Sizes, Place, StreamId, Hold, Right, count, stock, leads_of, Instr, PlanModel, IsScene, stream_at, hold_before, final_hold, HasCrownsAtRest, put-here, put-apart, sum_apart, same_sum, part_of_sum, lead_of_is, Effect, two_of_sum, IsKind, set_streams, set_plans, plans_same, streams_past, plans_here, put2_cases, Bool, Option, Some, Ok, not, if◌then◌else◌, and_parts, Setup, CallEffect, publish, set_down, ServerCall, Publish, Unlist, is_call, IsOwn, to_list, acts, effect}
use Rattle.sm_protocol.proofs.Words.{State, Start, Progress, Mark, no_start, plan_at, progress_of, set_progress, reach, hold_of_stream, started, Passage, Through, LostBefore, LostAfter, is_begun, is_running, call_number, tried_more, behind_call, ahead_of_call, Happening, happens, IsReached}
use Rattle.sm_protocol.proofs.Invariant.{IsKept, code_of}
use Rattle.sm_protocol.proofs.Holds.{part, by_plan, by_moves, by_moves_signal, share, load}
use Rattle.sm_protocol.proofs.Numbers.{goes_on}
use Rattle.sm_protocol.proofs.Trials.{IsBegun, running, scene}
use Rattle.sm_protocol.proofs.Keeping.{share_now, share_none, begun}
use Rattle.sm_protocol.proofs.Steps.{leads_are, publish_acts, one_on, unmade, was, is, own_effect, signal_once, wait_once, signal_shares, wait_shares}
use Rattle.sm_protocol.proofs.Places.{each_after}
use Rattle.sm_protocol.proofs.LogRoom.{plan_before, count_started}
use Rattle.sm_protocol.proofs.Courses.{some_same}
use Rattle.sm_protocol.proofs.Tries.{here, share_at, scene_now, first_effect, by_answer}
use Rattle.sm_protocol.proofs.Cases.{IsBefore, IsTry, answer_to, of_known_happens, refill_granted, OfKnownSteps}
use Rattle.sm_protocol.proofs.Whole.{happens_keeps, reached_keeps}
use Rattle.sm_protocol.proofs.Reached.{by_events}

-- a scene's leads are found in its placement
leads_scene : (c : Sizes) (p : Place) (leads : ℕ → Lead) (numbers : ℕ → ℕ) (h : Hold) → IsScene c p leads numbers h → leads_of c p ≡ leads
leads_scene c p leads numbers h scene = fun_ext (λ s. ap (λ o. unwrap_or o Gone) (lead_of_is (leads s) (numbers s) (p.cells s) c.servers (scene.described s) (λ u l. scene.placement.no_server s u l)))

module _ (A : Type 0) (now : Place → A) (set : Hold → A → A) (reaches : Hold → Type 0) (rule : (ℕ → Lead) → Place → Right) (kind : IsKind A now set reaches rule) where
  -- what the ended streams of the first n plans set
  abbrev pub sets_to : Sizes → (ℕ → PlanModel) → (ℕ → ℕ → Progress) → ℕ → A → A
  sets_to c plan f n old = set_plans A set reaches kind.unset (λ k i. (f k i).done) (λ k i. final_hold (stream_at c (plan k) i)) (λ k. length (plan k).streams) n old

  abbrev pub plan_of : List Start → ℕ → PlanModel
  plan_of plans k = (slice_index_or plans k no_start).plan

  -- how much of the right a plan's live holds and parcels have
  abbrev pub by : Sizes → List Start → (ℕ → ℕ → Progress) → (ℕ → ℕ → Mark) → Right → ℕ → ℕ
  by c plans f m r k = by_plan c (plan_of plans k) (f k) (m k) r

  -- the right that it stands under
  abbrev pub rule_of : Sizes → Place → Right
  rule_of c p = rule (leads_of c p) p

  pub record IsSet (c : Sizes) (plans : List Start) (opening p : Place) (f : ℕ → ℕ → Progress) (m : ℕ → ℕ → Mark) : Type 0 where
    pub value : sum_below (length plans) (by c plans f m (rule_of c p)) ≡ 0 → now p ≡ sets_to c (plan_of plans) f (length plans) (now opening)
    pub apart : (k : ℕ) → k < length plans → 1 ≤ by c plans f m (rule_of c p) k → (j i : ℕ) → k ≤ j → (f j i).done ≡ true → reaches (final_hold (stream_at c (plan_of plans j) i)) → ⊥

  -- it is as the ended streams set it, or live holds have it that no ended stream of their or later plans reaches
  abbrev pub IsSetAt : State → Type 0
  IsSetAt w = IsSet w.sizes w.plans w.opening w.place w.progress w.marks

  -- where all that counts is as before
  pub same_set : (w : State) → IsSetAt w → (q : Place) (f : ℕ → ℕ → Progress) (m : ℕ → ℕ → Mark) → rule_of w.sizes q ≡ rule_of w.sizes w.place → now q ≡ now w.place →
      ((k : ℕ) → k < length w.plans → by w.sizes w.plans f m (rule_of w.sizes w.place) k ≡ by w.sizes w.plans w.progress w.marks (rule_of w.sizes w.place) k) →
      ((k i : ℕ) → (f k i).done ≡ (w.progress k i).done) → IsSet w.sizes w.plans w.opening q f m
  same_set w h q f m r n each dones = record {
    value = λ z.
        let s = same_sum (length w.plans) (by w.sizes w.plans f m (rule_of w.sizes w.place)) (by w.sizes w.plans w.progress w.marks (rule_of w.sizes w.place)) each in
        let a : sum_below (length w.plans) (by w.sizes w.plans f m (rule_of w.sizes q)) ≡ sum_below (length w.plans) (by w.sizes w.plans f m (rule_of w.sizes w.place)) = ap (λ t. sum_below (length w.plans) (by w.sizes w.plans f m t)) r in
        n ∙ h.value (sym s ∙ sym a ∙ z) ∙ sym (plans_same A set reaches kind.unset (λ k i. (w.progress k i).done) (λ k i. (f k i).done) (λ k i. final_hold (stream_at w.sizes (plan_at w k) i)) (λ k. length (plan_at w k).streams) (length w.plans) (now w.opening) (λ k i l b. inl (dones k i)));
    apart = λ k l one j i le d.
        let a : by w.sizes w.plans f m (rule_of w.sizes q) k ≡ by w.sizes w.plans f m (rule_of w.sizes w.place) k = ap (λ t. by w.sizes w.plans f m t k) r in
        let b = each k l in
        h.apart k l (omega arith) j i le (sym (dones j i) ∙ d);
  }

  module _ (w : State) (v : IsKept w) where
    rule_is : rule_of w.sizes w.place ≡ rule v.leads w.place
    rule_is = ap {B = Right} (λ l. rule l w.place) (fun_ext (λ s. leads_are w v s))

    -- it is held once at most
    pub at_most_one : sum_below (length w.plans) (by w.sizes w.plans w.progress w.marks (rule_of w.sizes w.place)) ≤ 1
    at_most_one =
        let a = v.fits (rule_of w.sizes w.place) in
        let b : stock w.sizes w.place v.leads (rule_of w.sizes w.place) ≤ 1 = subst (λ t. stock w.sizes w.place v.leads t ≤ 1) (sym rule_is) (kind.one w.sizes w.place v.leads) in
        omega arith

  module _ (w : State) (v : IsKept w) (h : IsSetAt w) where
    abbrev r : Right
    r = rule_of w.sizes w.place

    module _ (id : StreamId) (b : IsBegun w id) (y : Progress) where
      dones_same : y.done ≡ (progress_of w id).done → (k i : ℕ) → (set_progress w id y k i).done ≡ (w.progress k i).done
      dones_same e = each_after w.progress id y (λ k i x. x.done ≡ (w.progress k i).done) (λ k i. refl) e

      -- plan by plan, what is held after it
      by_other : (m : ℕ → ℕ → Mark) (t : Right) (k : ℕ) → k ≢ id.plan → m k ≡ w.marks k → by w.sizes w.plans (set_progress w id y) m t k ≡ by w.sizes w.plans w.progress w.marks t k
      by_other m t k e g =
          ap (λ z. by_plan w.sizes (plan_at w k) z (m k) t) (put-apart w.progress id.plan (put (w.progress id.plan) id.stream y) k e)
          ∙ ap (λ z. by_plan w.sizes (plan_at w k) (w.progress k) z t) g

      by_own : (t : Right) → by w.sizes w.plans (set_progress w id y) w.marks t id.plan + share w id t (progress_of w id) ≡ by w.sizes w.plans w.progress w.marks t id.plan + share w id t y
      by_own t =
          let a : by w.sizes w.plans (set_progress w id y) w.marks t id.plan ≡ by_plan w.sizes (plan_at w id.plan) (put (w.progress id.plan) id.stream y) (w.marks id.plan) t =
          ap (λ z. by_plan w.sizes (plan_at w id.plan) z (w.marks id.plan) t) (put-here w.progress id.plan (put (w.progress id.plan) id.stream y) id.plan refl) in
          let d = by_moves w.sizes (plan_at w id.plan) t (w.progress id.plan) (w.marks id.plan) id.stream y b.stream in
          omega arith

      -- what the stream holds is part of what its plan does
      own_part : (t : Right) → share w id t y ≤ by w.sizes w.plans (set_progress w id y) w.marks t id.plan
      own_part t =
          let a : by w.sizes w.plans (set_progress w id y) w.marks t id.plan ≡ by_plan w.sizes (plan_at w id.plan) (put (w.progress id.plan) id.stream y) (w.marks id.plan) t =
          ap (λ z. by_plan w.sizes (plan_at w id.plan) z (w.marks id.plan) t) (put-here w.progress id.plan (put (w.progress id.plan) id.stream y) id.plan refl) in
          let d = part_of_sum (length (plan_at w id.plan).streams) (λ j. part w.sizes (plan_at w id.plan) t j (put (w.progress id.plan) id.stream y j)) id.stream b.stream in
          let e : part w.sizes (plan_at w id.plan) t id.stream (put (w.progress id.plan) id.stream y id.stream) ≡ share w id t y = ap (λ x. part w.sizes (plan_at w id.plan) t id.stream x) (put-here (w.progress id.plan) id.stream y id.stream refl) in
          omega arith

      own_part_before : (t : Right) → share w id t (progress_of w id) ≤ by w.sizes w.plans w.progress w.marks t id.plan
      own_part_before t =
          let d = part_of_sum (length (plan_at w id.plan).streams) (λ j. part w.sizes (plan_at w id.plan) t j (w.progress id.plan j)) id.stream b.stream in
          omega arith

      -- the stream goes on and holds what it held
      pub still_set : (q : Place) → q.cells ≡ w.place.cells → q.listed ≡ w.place.listed → ((t : Right) → share w id t y ≡ share w id t (progress_of w id)) → y.done ≡ (progress_of w id).done →
          IsSet w.sizes w.plans w.opening q (set_progress w id y) w.marks
      still_set q cells listed shares e =
          let s = kind.same (leads_of w.sizes w.place) w.place q cells listed in
          let leads : leads_of w.sizes q ≡ leads_of w.sizes w.place = ap {B = ℕ → Lead} (λ (g : ℕ → ℕ → Cell). leads_of w.sizes (record w.place { cells = g })) cells in
          same_set w h q (set_progress w id y) w.marks (ap (λ l. rule l q) leads ∙ s.1) s.0
          (λ k l. elim (cases_eq k id.plan) [
            | inr n ↦ by_other w.marks r k n refl
            | inl n ↦ subst (λ k. by w.sizes w.plans (set_progress w id y) w.marks r k ≡ by w.sizes w.plans w.progress w.marks r k) (sym n) (let a = by_own r in let c = shares r in omega arith)
          ])
          (dones_same e)

      -- the stream goes on with a signal
      pub signal_set : (k : ℕ) (z : Mark) → k < length (plan_at w id.plan).signals →
          ((t : Right) → share w id t y + load w id.plan t k z ≡ share w id t (progress_of w id) + load w id.plan t k (w.marks id.plan k)) → y.done ≡ (progress_of w id).done →
          IsSet w.sizes w.plans w.opening w.place (set_progress w id y) (put2 w.marks id.plan k z)
      signal_set q z known shares e =
          same_set w h w.place (set_progress w id y) (put2 w.marks id.plan q z) refl refl
          (λ k l. elim (cases_eq k id.plan) [
            | inr n ↦ by_other (put2 w.marks id.plan q z) r k n (put-apart w.marks id.plan (put (w.marks id.plan) q z) k n)
            | inl n ↦ subst (λ k. by w.sizes w.plans (set_progress w id y) (put2 w.marks id.plan q z) r k ≡ by w.sizes w.plans w.progress w.marks r k) (sym n)
                (let a : by w.sizes w.plans (set_progress w id y) (put2 w.marks id.plan q z) r id.plan ≡ by_plan w.sizes (plan_at w id.plan) (put (w.progress id.plan) id.stream y) (put (w.marks id.plan) q z) r =
                ap (λ g. by_plan w.sizes (plan_at w id.plan) g (put2 w.marks id.plan q z id.plan) r) (put-here w.progress id.plan (put (w.progress id.plan) id.stream y) id.plan refl)
                ∙ ap (λ g. by_plan w.sizes (plan_at w id.plan) (put (w.progress id.plan) id.stream y) g r) (put-here w.marks id.plan (put (w.marks id.plan) q z) id.plan refl) in
                let d = by_moves_signal w.sizes (plan_at w id.plan) r (w.progress id.plan) (w.marks id.plan) id.stream y b.stream q z known in
                let s = shares r in
                omega arith)
          ])
          (dones_same e)

      -- the stream makes an instruction of its own
      pub own_set : (q : Place) (before behind : Hold) (i : Instr) → IsScene w.sizes w.place v.leads w.numbers before → (e : Effect w.sizes w.place v.leads w.numbers before behind i) →
          q.cells ≡ e.next_place.cells → q.listed ≡ e.next_place.listed →
          ((t : Right) → share w id t (progress_of w id) ≡ count before t) → ((t : Right) → share w id t y ≡ count behind t) → y.done ≡ (progress_of w id).done →
          sum_below (length w.plans) (by w.sizes w.plans (set_progress w id y) w.marks (rule_of w.sizes q)) ≤ 1 →
          IsSet w.sizes w.plans w.opening q (set_progress w id y) w.marks
      own_set q before behind i sc e cells listed was is done most = elim (kind.moves w.sizes w.place v.leads w.numbers before behind i sc e) [
        | inl m ↦
            let rules : rule_of w.sizes q ≡ r = next_rule ∙ m.0 ∙ sym (rule_is w v) in
            same_set w h q (set_progress w id y) w.marks rules (same.0 ∙ m.1)
            (λ k l. elim (cases_eq k id.plan) [
              | inr n ↦ by_other w.marks r k n refl
              | inl n ↦ subst (λ k. by w.sizes w.plans (set_progress w id y) w.marks r k ≡ by w.sizes w.plans w.progress w.marks r k) (sym n)
                  (let a = by_own r in let x = was r in let z = is r in let g : count behind r ≡ count before r = subst (λ t. count behind t ≡ count before t) (sym (rule_is w v)) m.2 in omega arith)
            ])
            (dones_same done)
        | inr m ↦
            let old : 1 ≤ count before r = subst (λ t. 1 ≤ count before t) (sym (rule_is w v)) m.0 in
            let new : 1 ≤ count behind (rule_of w.sizes q) = subst (λ t. 1 ≤ count behind t) (sym next_rule) m.1 in
            let x = was r in
            let z = is (rule_of w.sizes q) in
            let o = own_part (rule_of w.sizes q) in
            let p = own_part_before r in
            record {
              value = λ none. absurd (let s = part_of_sum (length w.plans) (by w.sizes w.plans (set_progress w id y) w.marks (rule_of w.sizes q)) id.plan b.plan in omega arith);
              apart = λ k l one j n le d. elim (cases_eq k id.plan) [
                | inl g ↦ h.apart id.plan b.plan (omega arith) j n (omega arith) (sym (dones_same done j n) ∙ d)
                | inr g ↦ absurd (let s = two_of_sum (length w.plans) (by w.sizes w.plans (set_progress w id y) w.marks (rule_of w.sizes q)) k id.plan l b.plan g in omega arith)
              ];
            }
      ]
        where
          same : (now q ≡ now e.next_place) × (rule e.next_leads q ≡ rule e.next_leads e.next_place)
          same = kind.same e.next_leads e.next_place q cells listed

          next_rule : rule_of w.sizes q ≡ rule e.next_leads e.next_place
          next_rule =
              let leads : leads_of w.sizes q ≡ leads_of w.sizes e.next_place = ap {B = ℕ → Lead} (λ (g : ℕ → ℕ → Cell). leads_of w.sizes (record w.place { cells = g })) cells in
              ap (λ l. rule l q) (leads ∙ leads_scene w.sizes e.next_place e.next_leads e.next_numbers behind e.scene) ∙ same.1

    -- ---- an end

    module _ (id : StreamId) (b : IsBegun w id) (running_is : (progress_of w id).done ≡ false) (none : slice_get (code_of w id) (progress_of w id).at ≡ None) where
      abbrev y : Progress
      y = record (progress_of w id) { done = true }

      abbrev final : Hold
      final = final_hold (stream_at w.sizes (plan_at w id.plan) id.stream)

      hold_is : hold_of_stream w id.plan id.stream ≡ final
      hold_is =
          let course = (running w v id b).streams id.stream b.stream in
          let stands : (progress_of w id).ahead ≡ false = elim (cases_Bool (progress_of w id).ahead) [
            | inl a ↦ absurd (let c = course.before_call a in let d = c.1 in cc)
            | inr a ↦ a
          ] in
          let at : (progress_of w id).at ≡ length (code_of w id) = elim (slice_get_cases (code_of w id) (progress_of w id).at).1 [
            | inl g ↦ absurd (let e = g.2 in cc)
            | inr g ↦ let l = course.within in omega arith
          ] in
          ap (λ t. hold_before (stream_at w.sizes (plan_at w id.plan) id.stream) (reach (progress_of w id).at t)) stands
          ∙ ap (λ n. hold_before (stream_at w.sizes (plan_at w id.plan) id.stream) n) at

      scene_is : IsScene w.sizes w.place v.leads w.numbers final
      scene_is = subst (IsScene w.sizes w.place v.leads w.numbers) hold_is (scene w v id b running_is)

      held_before_it : (t : Right) → share w id t (progress_of w id) ≡ count final t
      held_before_it t = share_now w id t (progress_of w id) running_is ∙ ap (λ g. count g t) hold_is

      abbrev f : ℕ → ℕ → Progress
      f = set_progress w id y

      -- a stream that has made its end now is this one, or had made it
      ended_now : (j i : ℕ) → (f j i).done ≡ true → ((j ≡ id.plan) × (i ≡ id.stream)) ⊎ ((w.progress j i).done ≡ true)
      ended_now j i d = elim (put2_cases w.progress id.plan id.stream y j i) [
        | inl g ↦ inl (g.0, g.1)
        | inr g ↦ inr (ap (λ x. x.done) (sym g.1) ∙ d)
      ]

      here_done : (f id.plan id.stream).done ≡ true
      here_done = ap (λ x. x.done) (goes_on w id y).here

      counts : reaches final → 1 ≤ count final r
      counts k = subst (λ t. 1 ≤ count final t) (sym (rule_is w v)) (kind.counted w.sizes w.place v.leads w.numbers final scene_is k)

      by_before : (k : ℕ) → k < length w.plans → by w.sizes w.plans f w.marks r k ≤ by w.sizes w.plans w.progress w.marks r k
      by_before k l = elim (cases_eq k id.plan) [
        | inr n ↦ let a = by_other id b y w.marks r k n refl in omega arith
        | inl n ↦ subst (λ k. by w.sizes w.plans f w.marks r k ≤ by w.sizes w.plans w.progress w.marks r k) (sym n) (let a = by_own id b y r in let c = share_none w id r y refl in omega arith)
      ]

      apart_after : (k : ℕ) → k < length w.plans → 1 ≤ by w.sizes w.plans f w.marks r k → (j i : ℕ) → k ≤ j → (f j i).done ≡ true → reaches (final_hold (stream_at w.sizes (plan_at w j) i)) → ⊥
      apart_after k l one j i le d k' = elim (ended_now j i d) [
        | inr old ↦ h.apart k l (let a = by_before k l in omega arith) j i le old k'
        | inl here ↦
            let it : reaches final = subst (λ n. reaches (final_hold (stream_at w.sizes (plan_at w id.plan) n))) here.1 (subst (λ m. reaches (final_hold (stream_at w.sizes (plan_at w m) i))) here.0 k') in
            let c = counts it in
            let most = at_most_one w v in
            let own = by_own id b y r in
            let before = held_before_it r in
            let after = share_none w id r y refl in
            absurd (elim (cases_eq k id.plan) [
              | inl g ↦
                  let same : by w.sizes w.plans f w.marks r k ≡ by w.sizes w.plans f w.marks r id.plan = ap (by w.sizes w.plans f w.marks r) g in
                  let s = part_of_sum (length w.plans) (by w.sizes w.plans w.progress w.marks r) id.plan b.plan in
                  omega arith
              | inr g ↦
                  let same = by_before k l in
                  let s = two_of_sum (length w.plans) (by w.sizes w.plans w.progress w.marks r) k id.plan l b.plan g in
                  omega arith
            ])
      ]

      totals : sum_below (length w.plans) (by w.sizes w.plans f w.marks r) + count final r ≡ sum_below (length w.plans) (by w.sizes w.plans w.progress w.marks r)
      totals =
          let a = sum_apart (length w.plans) (by w.sizes w.plans f w.marks r) (by w.sizes w.plans w.progress w.marks r) id.plan (count final r) 0 b.plan
          (λ k n. by_other id b y w.marks r k n refl)
          (let own = by_own id b y r in let before = held_before_it r in let after = share_none w id r y refl in omega arith) in
          omega arith

      value_after : HasCrownsAtRest final → sum_below (length w.plans) (by w.sizes w.plans f w.marks r) ≡ 0 → now w.place ≡ sets_to w.sizes (plan_at w) f (length w.plans) (now w.opening)
      value_after rest z = elim (cases_eq (count final r) 0) [
        | inl nothing ↦
            h.value (let t = totals in omega arith)
            ∙ sym (plans_same A set reaches kind.unset (λ k i. (w.progress k i).done) (λ k i. (f k i).done) (λ k i. final_hold (stream_at w.sizes (plan_at w k) i)) (λ k. length (plan_at w k).streams) (length w.plans) (now w.opening)
            (λ k i l m. elim (put2_cases w.progress id.plan id.stream y k i) [
              | inr g ↦ inl (ap (λ x. x.done) g.1)
              | inl g ↦ inr (λ k'. let it : reaches final = subst (λ n. reaches (final_hold (stream_at w.sizes (plan_at w id.plan) n))) g.1 (subst (λ m. reaches (final_hold (stream_at w.sizes (plan_at w m) i))) g.0 k') in
                  absurd (let c = counts it in omega arith))
            ]))
        | inr some ↦
            let it : reaches final = kind.reached w.sizes w.place v.leads w.numbers final scene_is (subst (λ t. 1 ≤ count final t) (rule_is w v) (omega arith)) in
            sym (plans_here A set reaches kind.unset (λ k i. (f k i).done) (λ k i. final_hold (stream_at w.sizes (plan_at w k) i)) (λ k. length (plan_at w k).streams) id.plan id.stream (now w.place) (length w.plans) (now w.opening)
            b.plan b.stream here_done (λ o. kind.sets w.sizes w.place v.leads w.numbers final scene_is rest it o)
            (λ j m le other d. elim (ended_now j m d) [
              | inl here ↦ absurd (other here)
              | inr old ↦ h.apart id.plan b.plan (let own = by_own id b y r in let before = held_before_it r in let after = share_none w id r y refl in omega arith) j m le old
            ]))
      ]

      pub end_set : HasCrownsAtRest final → IsSet w.sizes w.plans w.opening w.place f w.marks
      end_set rest = record { value = value_after rest; apart = apart_after }

    -- ---- a start

    pub start_set : (plan : PlanModel) → IsSetAt (started w plan)
    start_set plan = record {
      value = λ z.
          let more : length next.plans ≡ suc (length w.plans) = count_started w plan in
          let all : sum_below (length next.plans) (by next.sizes next.plans w.progress w.marks r) ≡ sum_below (suc (length w.plans)) (by next.sizes next.plans w.progress w.marks r) = ap (λ n. sum_below n (by next.sizes next.plans w.progress w.marks r)) more in
          let old = same_sum (length w.plans) (by next.sizes next.plans w.progress w.marks r) (by w.sizes w.plans w.progress w.marks r) (λ k l. ap (λ p. by_plan w.sizes p (w.progress k) (w.marks k) r) (plan_before w plan k l)) in
          h.value (omega arith)
          ∙ sym (plans_alike (length w.plans) (λ k l. plan_before w plan k l))
          ∙ sym (streams_past A set reaches kind.unset (λ i. (w.progress (length w.plans) i).done) (λ i. final_hold (stream_at w.sizes (plan_at next (length w.plans)) i)) (length (plan_at next (length w.plans)).streams)
          (sets_to w.sizes (plan_at next) w.progress (length w.plans) (now w.opening)) (λ i d. absurd (let e = unmade i in cc)))
          ∙ ap (λ n. sets_to w.sizes (plan_at next) w.progress n (now w.opening)) (sym more);
      apart = λ k l one j i le d. elim (cases_lt j (length w.plans)) [
        | inl old ↦
            let p : plan_at next k ≡ plan_at w k = plan_before w plan k (omega arith) in
            let same : by next.sizes next.plans w.progress w.marks r k ≡ by w.sizes w.plans w.progress w.marks r k = ap (λ q. by_plan w.sizes q (w.progress k) (w.marks k) r) p in
            let apart = h.apart k (omega arith) (omega arith) j i le d in
            subst (λ q. reaches (final_hold (stream_at w.sizes q i)) → ⊥) (sym (plan_before w plan j old)) apart
        | inr new ↦ absurd (let e = fresh_from j i new in cc)
      ];
    }
      where
        next : State
        next = started w plan

        fresh_from : (j i : ℕ) → length w.plans ≤ j → (w.progress j i).done ≡ false
        fresh_from j i l = ap (λ x. x.done) (v.unbegun (record { plan = j; stream = i }) (rw (le-ltb j (length w.plans) l) refl))

        unmade : (i : ℕ) → (w.progress (length w.plans) i).done ≡ false
        unmade i = fresh_from (length w.plans) i (omega arith)

        plans_alike : (n : ℕ) → ((k : ℕ) → k < n → plan_at next k ≡ plan_at w k) → sets_to w.sizes (plan_at next) w.progress n (now w.opening) ≡ sets_to w.sizes (plan_at w) w.progress n (now w.opening)
        plans_alike zero each = refl
        plans_alike (suc n) each =
            ap (λ p. set_streams A set reaches kind.unset (λ i. (w.progress n i).done) (λ i. final_hold (stream_at w.sizes p i)) (length p.streams) (sets_to w.sizes (plan_at next) w.progress n (now w.opening))) (each n (omega arith))
            ∙ ap (set_streams A set reaches kind.unset (λ i. (w.progress n i).done) (λ i. final_hold (stream_at w.sizes (plan_at w n) i)) (length (plan_at w n).streams)) (plans_alike n (λ k l. each k (omega arith)))

-- ---- every event keeps it

module _ (A : Type 0) (now : Place → A) (set : Hold → A → A) (reaches : Hold → Type 0) (rule : (ℕ → Lead) → Place → Right) (kind : IsKind A now set reaches rule) where
  abbrev IsEnded : State → Type 0
  IsEnded w = IsSetAt A now set reaches rule kind w

  module _ (w : State) (v : IsKept w) (h : IsEnded w) (id : StreamId) where
    abbrev x0 : Progress
    x0 = progress_of w id

    -- a stream goes on and holds what it held
    stays : (b : IsBegun w id) (y : Progress) → x0.done ≡ false → y.done ≡ false → reach y.at y.ahead ≡ reach x0.at x0.ahead → (t : Right) → share w id t y ≡ share w id t x0
    stays b y d e at t = share_now w id t y e ∙ ap (λ q. count (hold_before (stream_at w.sizes (plan_at w id.plan) id.stream) q) t) at ∙ sym (share_now w id t x0 d)

    publishes_by : (i : Instr) (before : IsBefore w id (Some i)) (s : ℕ) (server : Option ℕ) (c : is_call i ≡ false) → IsOwn i →
        acts w.sizes w.place w.numbers i ≡ Some (publish w.place s server, w.numbers) →
        sum_below (length w.plans) (by A now set reaches rule kind w.sizes w.plans (set_progress w id (one_on x0)) w.marks (rule_of A now set reaches rule kind w.sizes (publish w.place s server))) ≤ 1 →
        IsSet A now set reaches rule kind w.sizes w.plans w.opening (publish w.place s server) (set_progress w id (one_on x0)) w.marks
    publishes_by i before s server c own made most =
        let e = own_effect w v id i before c own in
        let pair : ◌≡◌ {A = Place × (ℕ → ℕ)} (e.next_place, e.next_numbers) (publish w.place s server, w.numbers) = some_same {T = Place × (ℕ → ℕ)} (e.next_place, e.next_numbers) (publish w.place s server, w.numbers) (sym e.made ∙ made) in
        let place : e.next_place ≡ publish w.place s server = ap (λ (z : Place × (ℕ → ℕ)). z.0) pair in
        own_set A now set reaches rule kind w v h id (here w v id i before) (one_on x0) (publish w.place s server) _ _ i
        (scene_now w v id i before (unmade w v id i before c)) e (ap (λ (q : Place). q.cells) (sym place)) (ap (λ (q : Place). q.listed) (sym place)) (was w v id i before c) (is w v id i before c) refl most

    -- a call was served
    served_by : (i : Instr) (x : ServerCall) (effect : CallEffect) → IsTry w id i x → answer_to w id x ≡ Ok effect → (y : Progress) → y.done ≡ x0.done → reach y.at y.ahead ≡ x0.at + 1 →
        sum_below (length w.plans) (by A now set reaches rule kind w.sizes w.plans (set_progress w id y) w.marks (rule_of A now set reaches rule kind w.sizes effect.place)) ≤ 1 →
        IsSet A now set reaches rule kind w.sizes w.plans w.opening effect.place (set_progress w id y) w.marks
    served_by i x effect t answer y done at = by_answer w v id i x t effect answer
        (λ f. sum_below (length w.plans) (by A now set reaches rule kind w.sizes w.plans (set_progress w id y) w.marks (rule_of A now set reaches rule kind w.sizes f.place)) ≤ 1 →
        IsSet A now set reaches rule kind w.sizes w.plans w.opening f.place (set_progress w id y) w.marks)
        (λ a most. own_set A now set reaches rule kind w v h id (here w v id i t.before) y _ _ _ i (scene_now w v id i t.before a) (first_effect w v id i x t a).effect refl refl
        (share_at w v id i t.before x0 x0.at t.before.running (ap (λ q. reach x0.at q) a)) (share_at w v id i t.before y (x0.at + 1) (done ∙ t.before.running) at) done most)
        (λ a most. still_set A now set reaches rule kind w v h id (here w v id i t.before) y w.place refl refl
        (stays (here w v id i t.before) y t.before.running (done ∙ t.before.running) (at ∙ ap (λ q. reach x0.at q) (sym a))) done)

    by_steps : (passage : Passage) → OfKnownSteps w id passage (λ o. IsKept o.1 → IsEnded o.1)
    by_steps passage = record {
      idle = λ answer k. h;
      refused = λ i x why t e k. h;
      at_end = λ b k. let g = begun w id b.begun in end_set A now set reaches rule kind w v h id g b.running b.next_is ((running w v id g).checked.sound.streams id.stream g.stream).settled;
      publishes = λ s b k. publishes_by (Publish s) b s (to_list (leads_of w.sizes w.place s)) refl tt (publish_acts w v s) (at_most_one A now set reaches rule kind _ k);
      unlists = λ s b k. publishes_by (Unlist s) b s None refl tt refl (at_most_one A now set reaches rule kind _ k);
      posts = λ q b k. signal_set A now set reaches rule kind w v h id (begun w id b.begun) (one_on x0) q _ (signal_once w v id q b).0 (signal_shares w v id q b) refl;
      awaits = λ q b e k. signal_set A now set reaches rule kind w v h id (begun w id b.begun) (one_on x0) q _ (wait_once w v id q b).0 (wait_shares w v id q b e) refl;
      lost = λ i x t p k. let y : Progress = record (tried_more x0 false) { pending = call_number w x0 } in
          still_set A now set reaches rule kind w v h id (begun w id t.before.begun) y w.place refl refl (stays (begun w id t.before.begun) y t.before.running t.before.running refl) refl;
      through = λ i x effect t a p k. served_by i x effect t a (behind_call x0 effect.fresh) refl refl (at_most_one A now set reaches rule kind _ k);
      unanswered = λ i x effect t a p k. served_by i x effect t a (ahead_of_call w x0 effect.fresh) refl refl (at_most_one A now set reaches rule kind _ k);
    }

  -- ---- all events

  module _ (w : State) (v : IsKept w) (h : IsEnded w) where
    down_set : (u : ℕ) (down : Bool) → IsSet A now set reaches rule kind w.sizes w.plans w.opening (set_down w.place u down) w.progress w.marks
    down_set u down =
        let s = kind.same (leads_of w.sizes w.place) w.place (set_down w.place u down) refl refl in
        same_set A now set reaches rule kind w h (set_down w.place u down) w.progress w.marks s.1 s.0 (λ k l. refl) (λ k i. refl)

    refill_set : (id : StreamId) (n : ℕ) → is_running w id ≡ true → IsSet A now set reaches rule kind w.sizes w.plans w.opening w.place (set_progress w id (record (progress_of w id) { refills = (progress_of w id).refills + n })) w.marks
    refill_set id n e =
        let parts = and_parts (is_begun w id) (not (progress_of w id).done) e in
        let y : Progress = record (progress_of w id) { refills = (progress_of w id).refills + n } in
        still_set A now set reaches rule kind w v h id (begun w id parts.0) y w.place refl refl (λ t. refl) refl

    pub set_kept : (e : Happening) → IsKept (happens w e).1 → IsEnded (happens w e).1
    set_kept = of_known_happens w (λ e o. IsKept o.1 → IsEnded o.1) (record {
      idle = λ e answer n k. h;
      steps = λ id. by_steps w v h id Through;
      loses = λ id after. by_steps w v h id (if after then LostAfter else LostBefore);
      refills = λ id n f k. refill_set id n (refill_granted w id n f).0;
      arrives = λ s u f k. h;
      passes_on = λ t o f k. h;
      approves = λ u f k. down_set u true;
      restarts = λ u f k. down_set u false;
      starts = λ plan a b c k. start_set A now set reaches rule kind w v h plan;
    })

  -- it holds of every state that events lead to
  pub is_set : (setup : Setup) (w : State) → IsReached setup w → IsEnded w
  is_set setup w r =
      let u = by_events setup IsEnded (λ p room o. record { value = λ z. refl; apart = λ k l. absurd (omega arith) })
      (λ x e at f h. let v = (reached_keeps setup x at).0 in set_kept x v h e (happens_keeps x v e f).1) w r in
      record { value = u.value; apart = u.apart }
