-- A plan that lies on the desk: what the code reads of it is the whole's.
use Rattle.std.proofs.Common.{◌≡◌, ◌<◌, ◌∙◌, ◌∷◌, [], ℕ, zero, suc, refl, None, true, List, length, set, get_or, map, sym, ap, subst, arith}
use Rattle.std.proofs.lemmas.Bool.{and_parts, ltb-true}
use Rattle.std.proofs.Math.ListN.{get_or-map, length-set}
use Rattle.sm_reservation.specs.Hold.{minus, plus}
use Rattle.sm_reservation.specs.HoldOf.{hold_of}
use Rattle.sm_reservation.specs.CanJoin.{CanJoin}
use Rattle.sm_reservation.specs.Short.{first_short}
use Rattle.sm_reservation.specs.declared.stream_id.StreamId.{StreamId}
use Rattle.sm_plan_code.specs.Plan.{PlanModel}
use Rattle.sm_verifier.specs.Step.{parcels_of}
use Rattle.sm_protocol.specs.State.{Start, no_start, is_begun, progress_of, plan_at, signal_count, parcel_at}
use Rattle.sm_machine.specs.Course.{hold_in, rights_in, HasCapacityIn}
use Rattle.sm_machine.specs.Begun.{BegunModel, no_begun, start_of, course_at, carried_at}
use Rattle.sm_machine.specs.Machine.{MachineModel, begun_at}
use Rattle.sm_machine.specs.State.{whole_of, state_of, grant_of}

-- a write to one plan leaves as many
pub still_there : (xs ys : List BegunModel) (k : ℕ) (d : BegunModel) → ys ≡ set xs k d → k < length xs → k < length ys
still_there xs ys k d e l =
    let f : length ys ≡ length xs = ap length e ∙ simp length-set in
    omega (arith, f)

-- the plan of nothing that was laid into the place of one comes back to the desk
pub cleared : (xs ys : List BegunModel) (k : ℕ) (laid back : BegunModel) → ys ≡ set xs k laid → back ≡ get_or ys k no_begun → laid ≡ no_begun → back ≡ no_begun
cleared xs ys k laid back e f blank = f ∙ ap (λ ws. get_or ws k no_begun) e ∙ ap (λ n. get_or (set xs k n) k no_begun) blank ∙ blank_at xs k
  where
    blank_at : (xs : List BegunModel) (k : ℕ) → get_or (set xs k no_begun) k no_begun ≡ no_begun
    blank_at [] k = refl
    blank_at (x ∷ xs) zero = refl
    blank_at (x ∷ xs) (suc k) = blank_at xs k

module _ (b w : MachineModel) (id : StreamId) (z : b ≡ w) (n : BegunModel) (v : n ≡ begun_at b.plans id.plan) where
  here : n ≡ begun_at w.plans id.plan
  here = v ∙ ap (λ (y : MachineModel). begun_at y.plans id.plan) z

  plan_here : n.plan ≡ plan_at (state_of w) id.plan
  unfolding whole_of
  plan_here =
      let e : get_or (map start_of w.plans) id.plan no_start ≡ start_of (begun_at w.plans id.plan) = get_or-map start_of w.plans id.plan no_begun in
      ap (λ (y : BegunModel). y.plan) here ∙ sym (ap (λ (y : Start). y.plan) e)

  -- how far the stream has come
  pub progress_here : (course_at n id.stream).progress ≡ progress_of (state_of w) id
  unfolding whole_of
  progress_here = ap (λ (y : BegunModel). (course_at y id.stream).progress) here

  -- what the stream holds
  pub grant_here : (course_at n id.stream).grant ≡ grant_of w id
  unfolding whole_of
  grant_here = ap (λ (y : BegunModel). (course_at y id.stream).grant) here

  -- what is marked of a signal
  pub mark_here : (q : ℕ) → (carried_at n q).mark ≡ (state_of w).marks id.plan q
  unfolding whole_of
  mark_here q = ap (λ (y : BegunModel). (carried_at y q).mark) here

  carried_here : (q : ℕ) → (carried_at n q).grant ≡ (whole_of w).parcels id.plan q
  unfolding whole_of
  carried_here q = ap (λ (y : BegunModel). (carried_at y q).grant) here

  -- a stream that was begun is one of the plan's
  pub stream_here : is_begun (state_of w) id ≡ true → id.stream < length n.plan.streams
  stream_here h = subst (λ (p : PlanModel). id.stream < length p.streams) (sym plan_here) (ltb-true _ _ (and_parts _ _ h).1)

  -- and so is a signal of the plan
  pub signal_here : (q : ℕ) → q < signal_count (state_of w) id.plan → q < length n.plan.signals
  signal_here q l = subst (λ (p : PlanModel). q < length p.signals) (sym plan_here) l

  -- a stream that posts holds the parcel
  pub held_here : (q : ℕ) → first_short (hold_in (grant_of w id)) (parcel_at (state_of w) id.plan q) ≡ None → first_short (hold_in (course_at n id.stream).grant) (parcels_of n.plan.signals q) ≡ None
  held_here q h =
      ap (λ g. first_short (hold_in g) (parcels_of n.plan.signals q)) grant_here ∙ ap (λ (p : PlanModel). first_short (hold_in (grant_of w id)) (parcels_of p.signals q)) plan_here ∙ h

  -- the parcel can join what the signal carries
  pub sent_fits : (q : ℕ) → CanJoin (hold_in ((whole_of w).parcels id.plan q)) (hold_of (parcel_at (state_of w) id.plan q)) → CanJoin (hold_in (carried_at n q).grant) (hold_of (parcels_of n.plan.signals q))
  sent_fits q h =
      subst (λ g. CanJoin (hold_in g) (hold_of (parcels_of n.plan.signals q))) (sym (carried_here q))
      (subst (λ (p : PlanModel). CanJoin (hold_in ((whole_of w).parcels id.plan q)) (hold_of (parcels_of p.signals q))) (sym plan_here) h)

  -- and the signal has capacity for it
  pub sent_capacity : (q : ℕ) → HasCapacityIn ((whole_of w).parcels id.plan q) (parcel_at (state_of w) id.plan q) → HasCapacityIn (carried_at n q).grant (parcels_of n.plan.signals q)
  sent_capacity q h =
      subst (λ g. HasCapacityIn g (parcels_of n.plan.signals q)) (sym (carried_here q)) (subst (λ (p : PlanModel). HasCapacityIn ((whole_of w).parcels id.plan q) (parcels_of p.signals q)) (sym plan_here) h)

  -- what the signal carries then
  pub sent_there : (q : ℕ) → plus (hold_in (carried_at n q).grant) (parcels_of n.plan.signals q) ≡ plus (hold_in ((whole_of w).parcels id.plan q)) (parcel_at (state_of w) id.plan q)
  sent_there q =
      ap (λ g. plus (hold_in g) (parcels_of n.plan.signals q)) (carried_here q) ∙ ap (λ (p : PlanModel). plus (hold_in ((whole_of w).parcels id.plan q)) (parcels_of p.signals q)) plan_here

  -- what the stream has left then
  pub left_there : (q : ℕ) → minus (hold_in (course_at n id.stream).grant) (parcels_of n.plan.signals q) ≡ minus (hold_in (grant_of w id)) (parcel_at (state_of w) id.plan q)
  left_there q = ap (λ g. minus (hold_in g) (parcels_of n.plan.signals q)) grant_here ∙ ap (λ (p : PlanModel). minus (hold_in (grant_of w id)) (parcels_of p.signals q)) plan_here

  -- what a signal carries can join what a stream holds that waits
  pub taken_fits : (q : ℕ) → CanJoin (hold_in (grant_of w id)) (hold_in ((whole_of w).parcels id.plan q)) → CanJoin (hold_in (course_at n id.stream).grant) (hold_in (carried_at n q).grant)
  taken_fits q h =
      subst (λ g. CanJoin (hold_in g) (hold_in (carried_at n q).grant)) (sym grant_here) (subst (λ g. CanJoin (hold_in (grant_of w id)) (hold_in g)) (sym (carried_here q)) h)

  -- and the stream has capacity for it
  pub taken_capacity : (q : ℕ) → HasCapacityIn (grant_of w id) (rights_in ((whole_of w).parcels id.plan q)) → HasCapacityIn (course_at n id.stream).grant (rights_in (carried_at n q).grant)
  taken_capacity q h =
      subst (λ g. HasCapacityIn g (rights_in (carried_at n q).grant)) (sym grant_here) (subst (λ g. HasCapacityIn (grant_of w id) (rights_in g)) (sym (carried_here q)) h)

  -- what the stream holds then
  pub taken_there : (q : ℕ) → plus (hold_in (course_at n id.stream).grant) (rights_in (carried_at n q).grant) ≡ plus (hold_in (grant_of w id)) (rights_in ((whole_of w).parcels id.plan q))
  taken_there q = ap (λ g. plus (hold_in g) (rights_in (carried_at n q).grant)) grant_here ∙ ap (λ g. plus (hold_in (grant_of w id)) (rights_in g)) (carried_here q)
