-- A start of a plan: what its streams declare comes out of the pool, one stream after another.
use Rattle.std.proofs.Common.{◌≡◌, ◌≤◌, ◌<◌, ◌+◌, ℕ, zero, suc, true, false, refl, sym, ap, ◌∙◌, arith, inl, inr, subst, None, List, length}
use Rattle.std.specs.Prelude.{not, if◌then◌else◌}
use Rattle.std.proofs.lemmas.Bool.{cases_eq, cases_lt, and_parts}
use Rattle.std.proofs.lemmas.List.Elements.{All-get_or}
use Rattle.sm_placement.specs.Sums.{sum_below}
use Rattle.sm_placement.specs.Setup.{Setup}
use Rattle.sm_reservation.specs.declared.stream_id.StreamId.{StreamId}
use Rattle.sm_reservation.specs.Rights.{Rights, no_rights}
use Rattle.sm_reservation.specs.Hold.{Hold, no_hold, plus}
use Rattle.sm_reservation.specs.HoldOf.{hold_of}
use Rattle.sm_reservation.specs.Amounts.{Right, count}
use Rattle.sm_reservation.specs.CanJoin.{CanJoin}
use Rattle.sm_reservation.specs.Key.{IsOrdered, IsPositive}
use Rattle.sm_reservation.specs.Capacity.{HoldModel, HasCapacity}
use Rattle.sm_reservation.specs.Short.{first_short}
use Rattle.sm_reservation.specs.Pool.{IsKnownHold}
use Rattle.sm_reservation.proofs.Below.{below_minus}
use Rattle.sm_reservation.proofs.Covered.{covered_not_short}
use Rattle.sm_reservation.proofs.HoldSizes.{capacity_to_put}
use Rattle.sm_reservation.proofs.Joins.{covers_by_count}
use Rattle.sm_reservation.proofs.ParcelSums.{minus_count, plus_none}
use Rattle.sm_plan_code.specs.Plan.{StreamModel, PlanModel, IsOrderedParcel}
use Rattle.sm_verifier.specs.Admission.{declared, IsAdmitted}
use Rattle.sm_verifier.specs.Peak.{IsPeak}
use Rattle.sm_verifier.specs.Stream.{no_stream, stream_at, hold_before}
use Rattle.sm_verifier.specs.Within.{AreWithin}
use Rattle.sm_verifier.proofs.WithinPool.{admitted_within}
use Rattle.sm_protocol.specs.State.{State, Start, fresh, no_start, plan_at, progress_of, is_begun, is_running, hold_of_stream, held, pool}
use Rattle.sm_protocol.specs.Happens.{started}
use Rattle.sm_protocol.specs.Laws.{IsReached, IsCheckedPlan}
use Rattle.sm_protocol.proofs.Invariant.{IsKept}
use Rattle.sm_protocol.proofs.Keeping.{begun, is_begun_true}
use Rattle.sm_protocol.proofs.Trials.{IsBegun}
use Rattle.sm_protocol.proofs.Pools.{pool_within}
use Rattle.sm_protocol.proofs.Starts.{length_push, get_push_old, get_push_new, held_starts, start_keeps}
use Rattle.sm_verifier.specs.FirstHolding.{declared_rights}
use Rattle.sm_machine.specs.Tied.{IsTied, pool_left}
use Rattle.sm_machine.proofs.ties.Before.{kept}
use Rattle.sm_machine.proofs.ties.Carrying.{none_counted, no_rights_hold, joins_here}
use Rattle.sm_machine.proofs.ties.Wholes.{pool_whole, pool_known, is_pool}

-- ---- one stream after another

front_of_sum : (n m : ℕ) (f : ℕ → ℕ) → n < m → sum_below n f + f n ≤ sum_below m f
front_of_sum n zero f l = absurd (omega arith)
front_of_sum n (suc m) f l = elim (cases_eq n m) [
  | inl e ↦ subst (λ k. sum_below k f + f k ≤ sum_below m f + f m) (sym e) (omega arith)
  | inr e ↦ let i = front_of_sum n m f (omega arith) in omega arith
]

module _ (h : Hold) (streams : List StreamModel) (enough : AreWithin h streams) (ordered : (i : ℕ) → i < length streams → IsOrdered (declared_rights streams i)) where
  short_at : (n : ℕ) → n < length streams → ((r : Right) → count (pool_left h streams n) r + sum_below n (λ i. count (declared streams i) r) ≡ count h r) →
      first_short (pool_left h streams n) (declared_rights streams n) ≡ None
  short_at n l counts = covered_not_short (pool_left h streams n) (declared_rights streams n) (ordered n l) (covers_by_count (pool_left h streams n) (hold_of (declared_rights streams n)) (λ r.
      let a = counts r in
      let b : sum_below (length streams) (λ i. count (declared streams i) r) ≤ count h r = enough r in
      let c = front_of_sum n (length streams) (λ i. count (declared streams i) r) l in
      omega arith))

  -- what is left in the pool, and what has been taken, are together what there was
  pub left_counts : (n : ℕ) → n ≤ length streams → (r : Right) → count (pool_left h streams n) r + sum_below n (λ i. count (declared streams i) r) ≡ count h r
  left_counts zero l r = omega arith
  left_counts (suc n) l r =
      let before = left_counts n (omega arith) r in
      let c = minus_count (pool_left h streams n) (declared_rights streams n) (ordered n (omega arith)) (short_at n (omega arith) (left_counts n (omega arith))) r in
      omega arith

  -- the pool has what the next stream declares
  pub enough_left : (n : ℕ) → n < length streams → first_short (pool_left h streams n) (declared_rights streams n) ≡ None
  enough_left n l = short_at n l (left_counts n (omega arith))

  left_known : (shards servers : ℕ) → IsKnownHold shards servers h → (n : ℕ) → n ≤ length streams → IsKnownHold shards servers (pool_left h streams n)
  left_known shards servers b zero l = b
  left_known shards servers b (suc n) l = below_minus shards servers (pool_left h streams n) (declared_rights streams n) (ordered n (omega arith)) (left_known shards servers b n (omega arith))

-- ---- a plan that starts

-- The needs of a pool's fill, for a grant that is empty: the pool has what the stream declares, the grant has the capacity, and
-- has just that then.
pub record CanFill (free : Hold) (g : HoldModel) (p : Rights) : Type 0 where
  pub enough : first_short free p ≡ None
  pub fits : CanJoin (hold_of g.rights) (hold_of p)
  pub capacity : HasCapacity g p
  pub given : plus (hold_of g.rights) p ≡ hold_of p

module _ (setup : Setup) (w : State) (reached : IsReached setup w) (plan : PlanModel) (checked : IsCheckedPlan w.sizes plan) (admitted : IsAdmitted w.sizes w.place (pool w) plan) where
  abbrev v : IsKept w
  v = kept setup w reached

  abbrev next : State
  next = started w plan

  abbrev place : ℕ
  place = length w.plans

  parcels_ordered : (i : ℕ) → i < length plan.streams → IsOrderedParcel (declared_rights plan.streams i)
  parcels_ordered i l = All-get_or (λ (s : StreamModel). IsOrderedParcel s.holds) plan.streams i no_stream l checked.parts.parcels.streams

  within : AreWithin (pool w) plan.streams
  within = (admitted_within w.sizes w.place (pool w) plan admitted).0

  -- each stream in its turn can take what it declares from the pool into an empty grant for its peak
  pub can_fill : (n : ℕ) → n < length plan.streams → (g : HoldModel) → g.rights ≡ no_rights → (m : ℕ) → IsPeak (stream_at w.sizes plan n) m → m ≤ g.capacity →
      CanFill (pool_left (pool w) plan.streams n) g (declared_rights plan.streams n)
  can_fill n l g empty m peak enough =
      let p = declared_rights plan.streams n in
      let o = parcels_ordered n l in
      let nothing : hold_of g.rights ≡ no_hold = ap hold_of empty ∙ no_rights_hold in
      let given : plus (hold_of g.rights) p ≡ hold_of p = ap (λ h. plus h p) nothing ∙ plus_none p o.ordered in
      let listed = peak.bound 0 (omega arith) in
      let fits : CanJoin no_hold (hold_of p) = joins_here setup w reached (record { plan = 0; stream = 0 }) no_hold (hold_of p) (λ r.
      let a : sum_below (length plan.streams) (λ i. count (declared plan.streams i) r) ≤ count (pool w) r = within r in
      let b = front_of_sum n (length plan.streams) (λ i. count (declared plan.streams i) r) l in
      let c = pool_within w v r in
      let z = none_counted r in
      omega arith) in
      record {
        enough = enough_left (pool w) plan.streams within (λ i k. (parcels_ordered i k).ordered) n l;
        fits = subst (λ h. CanJoin h (hold_of p)) (sym nothing) fits;
        capacity = capacity_to_put g p listed.0 (subst IsOrdered (sym empty) (record { cells = tt; crowns = tt; room = tt; spare = tt })) (subst IsPositive (sym empty) (record { room = tt; spare = tt }))
            o.ordered listed.1.ordered listed.1.positive (listed.1.hold ∙ sym given) (let k = listed.2 in omega arith);
        given = given;
      }

  -- what is left in the pool once all streams have what they declare
  pub pool_of_start : pool_left (pool w) plan.streams (length plan.streams) ≡ pool next
  pool_of_start = is_pool next (start_keeps w v plan checked admitted) (pool_left (pool w) plan.streams (length plan.streams))
      (left_known (pool w) plan.streams within (λ i l. (parcels_ordered i l).ordered) w.sizes.shards w.sizes.servers (pool_known w v) (length plan.streams) (omega arith))
      (λ r l.
      let a = left_counts (pool w) plan.streams within (λ i k. (parcels_ordered i k).ordered) (length plan.streams) (omega arith) r in
      let b : held next r ≡ held w r + sum_below (length plan.streams) (λ i. count (declared plan.streams i) r) = held_starts w v plan checked r in
      let c = pool_whole w v r l in
      omega arith)

  plan_old : (k : ℕ) → k < place → plan_at next k ≡ plan_at w k
  plan_old k l = ap (λ (x : Start). x.plan) (get_push_old w.plans _ k no_start l)

  plan_new : plan_at next place ≡ plan
  plan_new = ap (λ (x : Start). x.plan) (get_push_new w.plans (record { plan = plan; since = length w.log }) no_start)

  longer : length next.plans ≡ suc place
  longer = length_push w.plans (record { plan = plan; since = length w.log })

  -- A plan that starts: the grants of its streams have what these declare, nothing of its signals is under way, and the
  -- others stand.
  pub tied_started : (p : Hold) (g c new_g new_c : ℕ → ℕ → Hold) → IsTied w p g c →
      ((k i : ℕ) → k < length w.plans → new_g k i ≡ g k i) → ((i : ℕ) → i < length plan.streams → new_g (length w.plans) i ≡ hold_of (declared_rights plan.streams i)) →
      ((k q : ℕ) → k < length w.plans → new_c k q ≡ c k q) → ((q : ℕ) → q < length plan.signals → new_c (length w.plans) q ≡ no_hold) →
      IsTied (started w plan) (pool_left p plan.streams (length plan.streams)) new_g new_c
  tied_started p g c new_g new_c t old_g own_g old_c own_c = record {
    pool = ap (λ h. pool_left h plan.streams (length plan.streams)) t.pool ∙ pool_of_start;
    grants = λ id runs. grant id (begun next id (and_parts (is_begun next id) (not (progress_of w id).done) runs).0) (and_parts (is_begun next id) (not (progress_of w id).done) runs).1;
    parcels = λ k q l m. elim (cases_lt k place) [
      | inl old ↦ old_c k q old
          ∙ t.parcels k q old (subst (λ x. q < length x.signals) (plan_old k old) m)
          ∙ ap (λ x. sent x k q) (sym (plan_old k old))
      | inr new ↦
          let e : k ≡ place = (let n = longer in omega arith) in
          let known : q < length plan.signals = subst (λ x. q < length x.signals) (ap (plan_at next) e ∙ plan_new) m in
          ap (λ z. new_c z q) e ∙ own_c q known ∙ sym (ap (λ x. if Rattle.sm_protocol.specs.State.is_under_way x then hold_of (Rattle.sm_protocol.specs.State.parcel_at next k q) else no_hold) (v.later_marks k q (omega arith)))
    ];
  }
    where
      sent : PlanModel → ℕ → ℕ → Hold
      sent x k q = if Rattle.sm_protocol.specs.State.is_under_way (w.marks k q) then hold_of (Rattle.sm_verifier.specs.Step.parcels_of x.signals q) else no_hold

      holds : PlanModel → StreamId → Hold
      holds x id = hold_before (stream_at w.sizes x id.stream) (Rattle.sm_protocol.specs.State.reach (progress_of w id).at (progress_of w id).ahead)

      grant : (id : StreamId) → IsBegun next id → not (progress_of w id).done ≡ true → new_g id.plan id.stream ≡ hold_of_stream next id.plan id.stream
      grant id b unended = elim (cases_lt id.plan place) [
        | inl old ↦
            let was : is_running w id ≡ true = rw (is_begun_true w id (record { plan = old; stream = subst (λ x. id.stream < length x.streams) (plan_old id.plan old) b.stream })) unended in
            old_g id.plan id.stream old ∙ t.grants id was ∙ ap (λ x. holds x id) (sym (plan_old id.plan old))
        | inr new ↦
            let e : id.plan ≡ place = (let n = longer in let l = b.plan in omega arith) in
            let same : plan_at next id.plan ≡ plan = ap (plan_at next) e ∙ plan_new in
            let known : id.stream < length plan.streams = subst (λ x. id.stream < length x.streams) same b.stream in
            let unmade : progress_of w id ≡ fresh = v.unbegun id (unbegun id e) in
            ap (λ z. new_g z id.stream) e ∙ own_g id.stream known
            ∙ sym (ap (λ x. hold_before (stream_at w.sizes x id.stream) (Rattle.sm_protocol.specs.State.reach (progress_of w id).at (progress_of w id).ahead)) same
            ∙ ap (λ y. hold_before (stream_at w.sizes plan id.stream) (Rattle.sm_protocol.specs.State.reach y.at y.ahead)) unmade)
      ]
        where
          unbegun : (id : StreamId) → id.plan ≡ place → is_begun w id ≡ false
          unbegun id e = rw (Rattle.std.proofs.lemmas.Bool.le-ltb id.plan place (omega arith)) refl
