-- A start of a plan, and the opening.
use Rattle.sm_protocol.proofs.Below.{◌≡◌, ℕ, suc, ◌+◌, ◌<◌, true, Option, Some, None, refl, sym, ap, ◌∙◌, arith, inl, inr, subst, List, [], ◌∷◌, length, length-append, get_or, ◌++◌, get_or_append_left, get_or-append_seam, slice_get, nat_lt, take, unwrap_or, count_by, cases_Bool, cases_eq, cases_lt, le-ltb, Primary, Lead, Gone, At, Ready, Handing, Handed, Setup, Sizes, sizes_of, Place, Describes, IsPlain, is_at_rest, leads_of, IsListable, sum_below, Right, count, Instr, is_call, PlanModel, code_at, declared, IsAdmitted, first_holding, declared_sum, post_of, wait_of, lead_of_is, placement_with_lasts, true_rights_hold, lasts_are_unseen, same_sum, sum_zero, finds_holding, admitted_within, reachable}
use Rattle.sm_protocol.proofs.Words.{State, fresh, opened, plan_at, is_begun, progress_of, held_by, held, pool, started, IsCheckedPlan, IsOpening}
use Rattle.sm_protocol.proofs.Invariant.{IsOnCourse, IsRunning, IsKept}
use Rattle.sm_protocol.proofs.Holds.{part, carried, by_plan}
use Rattle.sm_protocol.proofs.Keeping.{begun_where_ahead}
use Rattle.sm_protocol.proofs.LogRoom.{plan_before, plan_started, count_started, begun_stays}
use Rattle.sm_protocol.proofs.Pools.{pool_within}

-- ---- one element more

-- a list with one more is longer by one
pub length_push : {T : Type 0} (xs : List T) (y : T) → length (xs ++ y ∷ []) ≡ suc (length xs)
length_push xs y = let e = length-append xs (y ∷ []) in omega arith

-- what stood in it stands there yet
pub get_push_old : {T : Type 0} (xs : List T) (y : T) (n : ℕ) (d : T) → n < length xs → get_or (xs ++ y ∷ []) n d ≡ get_or xs n d
get_push_old xs y n d l = get_or_append_left xs (y ∷ []) d n l

-- and the new one stands last
pub get_push_new : {T : Type 0} (xs : List T) (y : T) (d : T) → get_or (xs ++ y ∷ []) (length xs) d ≡ y
get_push_new xs y d = get_or-append_seam xs y [] d

-- ---- a plan that starts

module _ (w : State) (v : IsKept w) (plan : PlanModel) (checked : IsCheckedPlan w.sizes plan) where
  abbrev next : State
  next = started w plan

  abbrev place : ℕ
  place = length w.plans

  -- the streams of the plan have made nothing
  unmade : (i : ℕ) → w.progress place i ≡ fresh
  unmade i = v.unbegun (record { plan = place; stream = i }) (rw (le-ltb place place (omega arith)) refl)

  -- how much more is held
  pub held_starts : (r : Right) → held next r ≡ held w r + declared_sum plan.streams r
  held_starts r =
      let all : held next r ≡ sum_below (suc place) (held_by next r) = ap (λ n. sum_below n (held_by next r)) (count_started w plan) in
      let old : sum_below place (held_by next r) ≡ held w r = same_sum place (held_by next r) (held_by w r) (λ k l. ap (λ p. by_plan w.sizes p (w.progress k) (w.marks k) r) (plan_before w plan k l)) in
      let new : held_by next r place ≡ by_plan w.sizes plan (w.progress place) (w.marks place) r = ap (λ p. by_plan w.sizes p (w.progress place) (w.marks place) r) (plan_started w plan) in
      let streams : sum_below (length plan.streams) (λ i. part w.sizes plan r i (w.progress place i)) ≡ declared_sum plan.streams r =
      same_sum (length plan.streams) (λ i. part w.sizes plan r i (w.progress place i)) (λ i. count (declared plan.streams i) r) (λ i l. ap (λ x. part w.sizes plan r i x) (unmade i)) in
      let signals : sum_below (length plan.signals) (λ q. carried plan r q (w.marks place q)) ≡ 0 =
      sum_zero (length plan.signals) (λ q. carried plan r q (w.marks place q)) (λ q. ap (λ m. carried plan r q m) (v.later_marks place q (omega arith))) in
      omega arith

  -- the streams of the plan are at their starts
  fresh_course : IsAdmitted w.sizes w.place (pool w) plan → (i : ℕ) → i < length plan.streams → IsOnCourse w.sizes w.place plan i fresh
  fresh_course admitted i l = record {
    within = omega arith;
    at_end = λ t. absurd (cc);
    before_call = λ t. absurd (cc);
    effects = none_yet (code_at plan i);
    reachable = λ d at x here. reachable w.sizes w.place plan i at x checked.fits admitted.up here;
  }
    where
      none_yet : (code : List Instr) → 0 ≡ count_by is_call (take 0 code)
      none_yet [] = refl
      none_yet (x ∷ xs) = refl

  fresh_plan : IsAdmitted w.sizes w.place (pool w) plan → IsRunning w.sizes w.place plan (w.progress place) (w.marks place)
  fresh_plan admitted = record {
    checked = checked;
    streams = λ i l. subst (λ x. IsOnCourse w.sizes w.place plan i x) (sym (unmade i)) (fresh_course admitted i l);
    posted = λ q l. ap (λ m. m.posted) (v.later_marks place q (omega arith)) ∙ sym (ap (λ x. nat_lt (post_of plan q).1 x.at) (unmade (post_of plan q).0) ∙ le-ltb (post_of plan q).1 0 (omega arith));
    awaited = λ q l. ap (λ m. m.awaited) (v.later_marks place q (omega arith)) ∙ sym (ap (λ x. nat_lt (wait_of plan q).1 x.at) (unmade (wait_of plan q).0) ∙ le-ltb (wait_of plan q).1 0 (omega arith));
    in_turn = λ q l t. absurd (let e = ap (λ m. m.awaited) (v.later_marks place q (omega arith)) in cc);
  }

  -- the start of a plan that is admitted keeps what holds of every state
  pub start_keeps : IsAdmitted w.sizes w.place (pool w) plan → IsKept next
  start_keeps admitted = record {
    leads = v.leads;
    stage = v.stage;
    plans = λ k l. elim (cases_lt k place) [
      | inl old ↦ subst (λ p. IsRunning w.sizes w.place p (w.progress k) (w.marks k)) (sym (plan_before w plan k old)) (v.plans k old)
      | inr new ↦
          let e : k ≡ place = (let n = count_started w plan in omega arith) in
          subst (λ j. IsRunning w.sizes w.place (plan_at next j) (w.progress j) (w.marks j)) (sym e)
          (subst (λ p. IsRunning w.sizes w.place p (w.progress place) (w.marks place)) (sym (plan_started w plan)) (fresh_plan admitted))
    ];
    unbegun = λ id e. v.unbegun id (elim (cases_Bool (is_begun w id)) [ inr f ↦ f | inl t ↦ absurd (let f = begun_stays w plan id t in cc) ]);
    later_marks = λ k q l. v.later_marks k q (let n = count_started w plan in omega arith);
    fits = λ r.
        let h = held_starts r in
        let p = pool_within w v r in
        let a = (admitted_within w.sizes w.place (pool w) plan admitted).0 r in
        omega arith;
    numbered = record {
      positive = v.numbered.positive;
      lasts = v.numbered.lasts;
      pendings = v.numbered.pendings;
      under_way = v.numbered.under_way;
      had = λ id instr s u a here t. v.numbered.had id instr s u a
          (subst (λ p. slice_get (code_at p id.stream) (progress_of w id).at ≡ Some instr) (plan_before w plan id.plan (begun_where_ahead w v id a).plan) here) t;
      not_had = v.numbered.not_had;
      distinct = v.numbered.distinct;
    };
  }

-- a checked plan that nothing holds up
pub begin_keeps : (w : State) (v : IsKept w) (plan : PlanModel) → IsCheckedPlan w.sizes plan → first_holding w.sizes w.place (pool w) plan ≡ None → IsKept (started w plan)
begin_keeps w v plan checked e = start_keeps w v plan checked ((finds_holding w.sizes w.place (pool w) plan checked.parts.parcels checked.fits).none.0 e)

-- ---- the opening

module _ (setup : Setup) (p : Place) (room : ℕ) (v : IsOpening setup p room) where
  abbrev c : Sizes
  c = sizes_of setup

  -- the lead of a shard at the opening
  led : (s : ℕ) → Describes (leads_of c p s) 0 (p.cells s)
  led s = elim (cases_lt s c.shards) [
    | inl known ↦
        let l = v.settled.leads s known in
        let e : leads_of c p s ≡ l.0 = ap (λ o. unwrap_or o Gone) (lead_of_is l.0 0 (p.cells s) c.servers l.2 (λ u m. v.placement.no_server s u m)) in
        subst (λ lead. Describes lead 0 (p.cells s)) (sym e) l.2
    | inr out ↦
        let d : Describes Gone 0 (p.cells s) = λ x. subst IsPlain (sym (v.placement.no_shard s x out)) tt in
        let e : leads_of c p s ≡ Gone = ap (λ o. unwrap_or o Gone) (lead_of_is Gone 0 (p.cells s) c.servers d (λ u m. v.placement.no_server s u m)) in
        subst (λ lead. Describes lead 0 (p.cells s)) (sym e) d
  ]

  listable : (s : ℕ) → IsListable (leads_of c p s) (p.listed s)
  listable s = go (p.listed s) refl
    where
      at : (lead : Lead) (u : ℕ) → is_at_rest lead ≡ true → Describes lead 0 (p.cells s) → p.cells s u ≡ Primary → IsListable lead (Some u)
      at Gone u r d e = subst IsPlain e (d u)
      at (At x) u r d e = elim (cases_eq u x) [ inl h ↦ h | inr h ↦ absurd (subst IsPlain e (d.1 u h)) ]
      at (Ready x y) u r d e = cc
      at (Handing x y) u r d e = cc
      at (Handed x y) u r d e = cc

      go : (o : Option ℕ) → p.listed s ≡ o → IsListable (leads_of c p s) o
      go None e = tt
      go (Some u) e = elim (cases_lt s c.shards) [
        | inr out ↦ absurd (let f = v.placement.no_entry s out in cc)
        | inl known ↦
            let l = v.settled.leads s known in
            let q : leads_of c p s ≡ l.0 = ap (λ o. unwrap_or o Gone) (lead_of_is l.0 0 (p.cells s) c.servers l.2 (λ u m. v.placement.no_server s u m)) in
            subst (λ lead. IsListable lead (Some u)) (sym q) (at l.0 u l.1 l.2 (v.settled.listed s u known e))
      ]

  -- what holds of every state holds of an opening
  pub open_keeps : IsKept (opened c p room)
  open_keeps = record {
    leads = leads_of c p;
    stage = record { placement = placement_with_lasts c p (λ s u. 0) v.placement; described = led; listing = listable };
    plans = λ k l. absurd (omega arith);
    unbegun = λ id e. refl;
    later_marks = λ k q l. refl;
    fits = λ r.
        let t = (true_rights_hold setup p v.settled (λ s u m. v.placement.no_server s u m)).rights r in
        let s = (lasts_are_unseen c p (λ s u. 0)).stock (leads_of c p) r in
        let b = (lasts_are_unseen c p (λ s u. 0)).bound r in
        omega arith;
    numbered = record {
      positive = omega arith;
      lasts = λ s u. omega arith;
      pendings = λ id. omega arith;
      under_way = λ id a. absurd (cc);
      had = λ id instr s u a here t. absurd (cc);
      not_had = λ id s u a n. absurd (n refl);
      distinct = λ id other n e. absurd (n refl);
    };
  }
