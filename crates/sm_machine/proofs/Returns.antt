-- A pool takes grants back, one by one.
use Rattle.std.proofs.Common.{◌≡◌, ◌≤◌, ◌+◌, ◌∙◌, ◌∷◌, [], ℕ, Option, Some, None, List, length, not, false, is_some, sym, ap, subst, arith, refl, inl, inr}
use Rattle.std.specs.Prelude.{sum_by}
use Rattle.std.proofs.lemmas.Bool.{cases_Bool}
use Rattle.std.proofs.lemmas.List.Sums.{sum_by-cons}
use Rattle.sm_placement.specs.Sums.{sum_below}
use Rattle.sm_reservation.specs.Hold.{Hold}
use Rattle.sm_reservation.specs.Amounts.{Right, count}
use Rattle.sm_reservation.specs.Capacity.{HoldModel}
use Rattle.sm_reservation.specs.CanJoin.{CanJoin}
use Rattle.sm_reservation.specs.Pool.{PoolModel, pool_hold, IsKnownHold}
use Rattle.sm_reservation.proofs.Joins.{covers_by_count, joins_by_count}
use Rattle.sm_reservation.proofs.ParcelRows.{covered_below}
use Rattle.sm_verifier.proofs.SumLemmas.{sum_by-below}
use Rattle.sm_machine.specs.Course.{CourseModel, no_course, hold_in, IsCourse}
use Rattle.sm_machine.specs.Begun.{BegunModel, no_begun, no_carried, IsBegunParts, course_at, carried_at}
use Rattle.sm_machine.specs.Plans.{in_turn}
use Rattle.sm_machine.specs.Returns.{held_in_course, held_in_signal, held_in_plan, held_in_plans, CanTakeBack, HasTakenBack}
use Rattle.sm_machine.proofs.ties.Carrying.{none_counted}

-- ---- one grant

-- what can be taken back is of known shards and servers
pub known : (k : PoolModel) (h : Hold) → CanTakeBack k (count h) → IsKnownHold k.shards k.servers h
known k h t = covered_below k.shards k.servers t.all h t.known (covers_by_count t.all h (λ r. let a = t.within r in omega arith))

-- and can be put beside what is there
pub fits : (k : PoolModel) (h : Hold) → CanTakeBack k (count h) → CanJoin (pool_hold k) h
fits k h t = joins_by_count t.all (pool_hold k) h t.within t.room t.spare

-- ---- one after the other

-- a pool that can take back some can take back less
less : {k : PoolModel} {a b : Right → ℕ} → CanTakeBack k a → ((r : Right) → b r ≤ a r) → CanTakeBack k b
less t l = record { all = t.all; known = t.known; room = t.room; spare = t.spare; within = λ r. let a = t.within r in let b = l r in omega arith }

-- once it has taken back a part, it can take back the rest
next : {k after : PoolModel} {a b c : Right → ℕ} → CanTakeBack k c → HasTakenBack k after a → ((r : Right) → a r + b r ≤ c r) → CanTakeBack after b
next {k} {after} t h l = record {
  all = t.all;
  known = subst (λ n. IsKnownHold n after.servers t.all) (sym h.size.shards) (subst (λ n. IsKnownHold k.shards n t.all) (sym h.size.servers) t.known);
  room = t.room;
  spare = t.spare;
  within = λ r. let a = t.within r in let b = h.counts r in let c = l r in omega arith;
}

-- two parts, one after the other
both_back : {k l m : PoolModel} {a b c : Right → ℕ} → HasTakenBack k l a → HasTakenBack l m b → ((r : Right) → c r ≡ a r + b r) → HasTakenBack k m c
both_back x y e = record {
  counts = λ r. let a = x.counts r in let b = y.counts r in let c = e r in omega arith;
  size = record { shards = y.size.shards ∙ x.size.shards; servers = y.size.servers ∙ x.size.servers };
}

-- ---- streams, signals and plans

-- no grant has nothing
no_grant : (g : Option HoldModel) → is_some g ≡ false → (r : Right) → count (hold_in g) r ≡ 0
no_grant None e r = none_counted r
no_grant (Some kept) e r = cc

-- a stream holds what its grant has
pub course_held : (x : CourseModel) → IsCourse x → (r : Right) → held_in_course r x ≡ count (hold_in x.grant) r
course_held x is r = elim (cases_Bool x.progress.done) [
  | inl done ↦ rw done (sym (no_grant x.grant (is ∙ ap not done) r))
  | inr running ↦ rw running refl
]

-- a plan has what its streams and signals have
plan_held : (n : BegunModel) → IsBegunParts n → (r : Right) → held_in_plan r n ≡ sum_by (held_in_course r) n.courses + sum_by (held_in_signal r) n.signals
plan_held n parts r =
    let a = sum_by-below (held_in_course r) n.courses no_course in
    let b = sum_by-below (held_in_signal r) n.signals no_carried in
    let c : sum_below (length n.courses) (λ i. held_in_course r (course_at n i)) ≡ sum_below (length n.plan.streams) (λ i. held_in_course r (course_at n i)) =
    ap (λ m. sum_below m (λ i. held_in_course r (course_at n i))) parts.courses in
    let d : sum_below (length n.signals) (λ q. held_in_signal r (carried_at n q)) ≡ sum_below (length n.plan.signals) (λ q. held_in_signal r (carried_at n q)) =
    ap (λ m. sum_below m (λ q. held_in_signal r (carried_at n q))) parts.signals in
    omega arith

-- two lists in turn have what both have
sum_in_turn : {X : Type 0} (f : X → ℕ) (xs ys : List X) → sum_by f (in_turn xs ys) ≡ sum_by f xs + sum_by f ys
sum_in_turn f [] ys = omega arith
sum_in_turn f (x ∷ xs) [] = omega arith
sum_in_turn f (x ∷ xs) (y ∷ ys) =
    omega (arith, sum_in_turn f xs ys, sum_by-cons f x xs, sum_by-cons f y ys, sum_by-cons f x (y ∷ in_turn xs ys), sum_by-cons f y (in_turn xs ys))

-- a plan and two lists of plans in turn have what they have apart
plans_held : (n : BegunModel) (xs ys : List BegunModel) (r : Right) → held_in_plans (n ∷ in_turn xs ys) r ≡ held_in_plan r n + (held_in_plans xs r + held_in_plans ys r)
plans_held n xs ys r = omega (arith, sum_by-cons (held_in_plan r) n (in_turn xs ys), sum_in_turn (held_in_plan r) xs ys)

-- ---- a plan, part by part

module _ (n m : BegunModel) (is : m ≡ n) (parts : IsBegunParts m) (k : PoolModel) (can : CanTakeBack k (λ r. held_in_plan r n)) where
  apart : (r : Right) → held_in_plan r n ≡ sum_by (held_in_course r) m.courses + sum_by (held_in_signal r) m.signals
  apart r = ap (held_in_plan r) (sym is) ∙ plan_held m parts r

  -- what its streams hold can go back
  pub courses_fit : CanTakeBack k (λ r. sum_by (held_in_course r) m.courses)
  courses_fit = less can (λ r. let e = apart r in omega arith)

  module _ (l : PoolModel) (courses : HasTakenBack k l (λ r. sum_by (held_in_course r) m.courses)) where
    -- and then what its signals carry
    pub signals_fit : CanTakeBack l (λ r. sum_by (held_in_signal r) m.signals)
    signals_fit = next can courses (λ r. let e = apart r in omega arith)

    -- with both, all that the plan has is back
    pub plan_back : (o : PoolModel) → HasTakenBack l o (λ r. sum_by (held_in_signal r) m.signals) → HasTakenBack k o (λ r. held_in_plan r n)
    plan_back o signals = both_back courses signals apart

-- ---- a tree of plans, part by part

module _ (d xs ys : List BegunModel) (n : BegunModel) (is : n ∷ in_turn xs ys ≡ d) (k l : PoolModel) (can : CanTakeBack k (held_in_plans d)) (first : HasTakenBack k l (λ r. held_in_plan r n)) where
  forked : (r : Right) → held_in_plans d r ≡ held_in_plan r n + (held_in_plans xs r + held_in_plans ys r)
  forked r = ap (λ (plans : List BegunModel). held_in_plans plans r) (sym is) ∙ plans_held n xs ys r

  -- once the first plan's are back, the rights of the plans at the odd places can go back
  pub odd_fit : (zs : List BegunModel) → zs ≡ xs → CanTakeBack l (held_in_plans zs)
  odd_fit zs e = subst (λ (plans : List BegunModel). CanTakeBack l (held_in_plans plans)) (sym e) (next can first (λ r. let f = forked r in omega arith))

  module _ (zs : List BegunModel) (odd_is : zs ≡ xs) (m : PoolModel) (odd : HasTakenBack l m (held_in_plans zs)) where
    two_back : HasTakenBack k m (λ r. held_in_plan r n + held_in_plans xs r)
    two_back = both_back first (subst (λ (plans : List BegunModel). HasTakenBack l m (held_in_plans plans)) odd_is odd) (λ r. refl)

    -- and then those of the plans at the even places
    pub even_fit : (us : List BegunModel) → us ≡ ys → CanTakeBack m (held_in_plans us)
    even_fit us e = subst (λ (plans : List BegunModel). CanTakeBack m (held_in_plans plans)) (sym e) (next can two_back (λ r. let f = forked r in omega arith))

    -- with these, all are back
    pub tree_back : (us : List BegunModel) → us ≡ ys → (o : PoolModel) → HasTakenBack m o (held_in_plans us) → HasTakenBack k o (held_in_plans d)
    tree_back us e o even = both_back two_back (subst (λ (plans : List BegunModel). HasTakenBack m o (held_in_plans plans)) e even) (λ r. let f = forked r in omega arith)

-- ---- a machine

-- behind all plans, the plan of nothing can go back
pub blank_fits : (plans : List BegunModel) (desk : BegunModel) (k l : PoolModel) → desk ≡ no_begun → CanTakeBack k (held_in_plans plans) → HasTakenBack k l (held_in_plans plans) → CanTakeBack l (λ r. held_in_plan r desk)
blank_fits plans desk k l blank can back = next can back (λ r. let e : held_in_plan r desk ≡ 0 = ap (held_in_plan r) blank in omega arith)
