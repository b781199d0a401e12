-- The pool of a machine can take back all that streams hold and signals carry.
use Rattle.std.proofs.Common.{◌≡◌, ◌<◌, ◌≤◌, ◌+◌, ◌∙◌, ℕ, Bool, true, false, Some, None, length, refl, sym, ap, subst, inl, inr, arith}
use Rattle.std.specs.Prelude.{◌&&◌, nat_lt, if◌then◌else◌}
use Rattle.std.proofs.lemmas.Bool.{cases_Bool, cases_lt, lt-ltb, le-ltb}
use Rattle.std.proofs.lemmas.List.{length-map}
use Rattle.std.proofs.Math.ListN.{get_or-map}
use Rattle.sm_placement.specs.Sums.{sum_below}
use Rattle.sm_placement.specs.Setup.{no_server}
use Rattle.sm_placement.specs.Place.{live_at}
use Rattle.sm_placement.proofs.Sums.{same_sum, sum_zero, count-le}
use Rattle.sm_reservation.specs.Hold.{Hold, no_hold}
use Rattle.sm_reservation.specs.HoldOf.{hold_of}
use Rattle.sm_reservation.specs.Amounts.{Right, OfCell, OfCrown, OfRoom, OfSpare, count, stock, plain_of}
use Rattle.sm_reservation.specs.Pool.{IsKnownHold, IsKnownRight}
use Rattle.sm_reservation.proofs.Joins.{nothing_unknown, known_or_not}
use Rattle.sm_plan_code.specs.Plan.{PlanModel}
use Rattle.sm_plan_code.proofs.Known.{signals_known}
use Rattle.sm_verifier.proofs.SumLemmas.{sum_by-below}
use Rattle.sm_protocol.specs.State.{State, Start, plan_at, stream_count, signal_count, stream_id, is_running, hold_of_stream, parcel_at, is_under_way, held_by, held, pool}
use Rattle.sm_protocol.proofs.Invariant.{IsKept}
use Rattle.sm_protocol.proofs.Pools.{pool_within}
use Rattle.sm_machine.specs.Begun.{no_begun, start_of, course_at, carried_at}
use Rattle.sm_machine.specs.Machine.{MachineModel, begun_at}
use Rattle.sm_machine.specs.State.{whole_of}
use Rattle.sm_machine.specs.Working.{IsWorking}
use Rattle.sm_machine.specs.Returns.{held_in_course, held_in_signal, held_in_plan, held_in_plans, CanTakeBack}
use Rattle.sm_machine.proofs.ties.Before.{kept, is_setup, hold_known}
use Rattle.sm_machine.proofs.ties.Carrying.{none_counted}
use Rattle.sm_machine.proofs.ties.Wholes.{pool_known}

-- ---- what is held and under way is of known shards and servers

module _ (w : State) (v : IsKept w) where
  -- nothing is held of a right of others
  unheld : (r : Right) → (IsKnownRight w.sizes r → ⊥) → held w r ≡ 0
  unheld r unknown = same_sum (length w.plans) (held_by w r) (λ k. 0) of_plan ∙ sum_zero (length w.plans) (λ k. 0) (λ k. refl)
    where
      of_stream : (k i : ℕ) → k < length w.plans → i < stream_count w k → (if (w.progress k i).done then 0 else count (hold_of_stream w k i) r) ≡ 0
      of_stream k i l m = elim (cases_Bool (w.progress k i).done) [
        | inl done ↦ rw done refl
        | inr running ↦ rw running (nothing_unknown w.sizes (hold_of_stream w k i) (hold_known w v (stream_id k i) (record { plan = l; stream = m }) _) r unknown)
      ]

      of_signal : (k q : ℕ) → k < length w.plans → (if is_under_way (w.marks k q) then count (hold_of (parcel_at w k q)) r else 0) ≡ 0
      of_signal k q l = elim (cases_Bool (is_under_way (w.marks k q))) [
        | inr apart ↦ rw apart refl
        | inl going ↦
            let checked = (v.plans k l).checked in
            let below : IsKnownHold w.sizes.shards w.sizes.servers (hold_of (parcel_at w k q)) = (signals_known w.sizes.shards w.sizes.servers (plan_at w k) checked.parts.parcels checked.fits).below q in
            rw going (nothing_unknown w.sizes (hold_of (parcel_at w k q)) below r unknown)
      ]

      of_plan : (k : ℕ) → k < length w.plans → held_by w r k ≡ 0
      of_plan k l =
          let a = same_sum (stream_count w k) (λ i. if (w.progress k i).done then 0 else count (hold_of_stream w k i) r) (λ i. 0) (λ i m. of_stream k i l m) in
          let b = same_sum (signal_count w k) (λ q. if is_under_way (w.marks k q) then count (hold_of (parcel_at w k q)) r else 0) (λ q. 0) (λ q m. of_signal k q l) in
          let c = sum_zero (stream_count w k) (λ i. 0) (λ i. refl) in
          let d = sum_zero (signal_count w k) (λ q. 0) (λ q. refl) in
          omega arith

  -- all rights that there are of known shards and servers
  abbrev all_rights : Hold
  all_rights = record {
    cells = λ s u. if nat_lt s w.sizes.shards && nat_lt u w.sizes.servers then plain_of (w.place.cells s u) else None;
    crowns = λ s. if nat_lt s w.sizes.shards then Some (v.leads s, w.place.listed s) else None;
    room = λ u. if nat_lt u w.sizes.servers then w.sizes.room u else 0;
    spare = λ s. if nat_lt s w.sizes.shards then live_at w.sizes w.place s else 0;
  }

  all_known : IsKnownHold w.sizes.shards w.sizes.servers all_rights
  all_known = record {
    no_shard = λ s u l. rw (le-ltb s w.sizes.shards l) refl;
    no_server = λ s u l. no_server_of s u l;
    crowns = λ s l. rw (le-ltb s w.sizes.shards l) refl;
    room = λ u l. rw (le-ltb u w.sizes.servers l) refl;
    spare = λ s l. rw (le-ltb s w.sizes.shards l) refl;
  }
    where
      no_server_of : (s u : ℕ) → w.sizes.servers ≤ u → all_rights.cells s u ≡ None
      no_server_of s u l = elim (cases_lt s w.sizes.shards) [
        | inl k ↦ rw (lt-ltb s w.sizes.shards k, le-ltb u w.sizes.servers l) refl
        | inr k ↦ rw (le-ltb s w.sizes.shards k) refl
      ]

  all_there : (r : Right) → IsKnownRight w.sizes r → count all_rights r ≡ stock w.sizes w.place v.leads r
  all_there (OfCell s u state) known = rw (lt-ltb s w.sizes.shards known.0, lt-ltb u w.sizes.servers known.1) refl
  all_there (OfCrown s lead listed) known = rw (lt-ltb s w.sizes.shards known) refl
  all_there (OfRoom u) known = rw (lt-ltb u w.sizes.servers known) refl
  all_there (OfSpare s) known = rw (lt-ltb s w.sizes.shards known) refl

  -- no more is in the pool and held
  all_within : (r : Right) → count (pool w) r + held w r ≤ count all_rights r
  all_within r = elim (known_or_not w.sizes r) [
    | inl known ↦ let a = pool_within w v r in let b = all_there r known in omega arith
    | inr unknown ↦ let a = nothing_unknown w.sizes (pool w) (pool_known w v) r unknown in let b = unheld r unknown in omega arith
  ]

-- ---- what the plans of a machine have is what is held

module _ (m : MachineModel) (g : IsWorking (whole_of m)) (r : Right) where
  abbrev w : State
  w = (whole_of m).state

  plan_here : (k : ℕ) → (begun_at m.plans k).plan ≡ plan_at w k
  unfolding whole_of
  plan_here k = sym (ap (λ (y : Start). y.plan) (get_or-map start_of m.plans k no_begun))

  streams_held : (k : ℕ) → k < length w.plans → sum_below (stream_count w k) (λ i. held_in_course r (course_at (begun_at m.plans k) i)) ≡ sum_below (stream_count w k) (λ i. if (w.progress k i).done then 0 else count (hold_of_stream w k i) r)
  unfolding whole_of
  streams_held k l = same_sum (stream_count w k) _ _ each
    where
      each : (i : ℕ) → i < stream_count w k → held_in_course r (course_at (begun_at m.plans k) i) ≡ (if (w.progress k i).done then 0 else count (hold_of_stream w k i) r)
      each i n = elim (cases_Bool (w.progress k i).done) [
        | inl done ↦ rw done refl
        | inr running ↦
            let runs : is_running w (stream_id k i) ≡ true = rw (lt-ltb k (length w.plans) l, lt-ltb i (stream_count w k) n, running) refl in
            rw running (ap (λ h. count h r) (g.tied.grants (stream_id k i) runs))
      ]

  signals_held : (k : ℕ) → k < length w.plans → sum_below (signal_count w k) (λ q. held_in_signal r (carried_at (begun_at m.plans k) q)) ≡ sum_below (signal_count w k) (λ q. if is_under_way (w.marks k q) then count (hold_of (parcel_at w k q)) r else 0)
  unfolding whole_of
  signals_held k l = same_sum (signal_count w k) _ _ (λ q n. ap (λ h. count h r) (g.tied.parcels k q l n) ∙ counted (is_under_way (w.marks k q)) (hold_of (parcel_at w k q)))
    where
      counted : (t : Bool) (h : Hold) → count (if t then h else no_hold) r ≡ (if t then count h r else 0)
      counted true h = refl
      counted false h = none_counted r

  plan_held : (k : ℕ) → k < length w.plans → held_in_plan r (begun_at m.plans k) ≡ held_by w r k
  plan_held k l =
      let a : sum_below (length (begun_at m.plans k).plan.streams) (λ i. held_in_course r (course_at (begun_at m.plans k) i)) ≡ sum_below (stream_count w k) (λ i. held_in_course r (course_at (begun_at m.plans k) i)) =
      ap (λ (p : PlanModel). sum_below (length p.streams) (λ i. held_in_course r (course_at (begun_at m.plans k) i))) (plan_here k) in
      let b : sum_below (length (begun_at m.plans k).plan.signals) (λ q. held_in_signal r (carried_at (begun_at m.plans k) q)) ≡ sum_below (signal_count w k) (λ q. held_in_signal r (carried_at (begun_at m.plans k) q)) =
      ap (λ (p : PlanModel). sum_below (length p.signals) (λ q. held_in_signal r (carried_at (begun_at m.plans k) q))) (plan_here k) in
      let c = streams_held k l in
      let d = signals_held k l in
      omega arith

  as_many : length m.plans ≡ length w.plans
  unfolding whole_of
  as_many = sym (length-map m.plans start_of)

  all_held : held_in_plans m.plans r ≡ held w r
  all_held =
      sum_by-below (held_in_plan r) m.plans no_begun
      ∙ ap (λ n. sum_below n (λ k. held_in_plan r (begun_at m.plans k))) as_many
      ∙ same_sum (length w.plans) _ _ plan_held

-- all that streams hold and signals carry can go back to the pool
pub can_end : (m : MachineModel) → IsWorking (whole_of m) → m.pool.shards ≡ length m.placement.setup.shards → m.pool.servers ≡ length m.placement.setup.servers → CanTakeBack m.pool (held_in_plans m.plans)
unfolding whole_of
can_end m g shards servers =
    let w = (whole_of m).state in
    let v = kept (whole_of m).setup w g.reached in
    let is = is_setup (whole_of m).setup w g.reached in
    record {
      all = all_rights w v;
      known = subst (λ n. IsKnownHold n m.pool.servers (all_rights w v)) (sym shards) (subst (λ n. IsKnownHold (length m.placement.setup.shards) n (all_rights w v)) (sym servers) (all_known w v));
      room = λ u. elim (cases_lt u w.sizes.servers) [
        | inl l ↦ let small : w.sizes.room u ≤ 4294967295 = is.good_servers u no_server l in rw (lt-ltb u w.sizes.servers l) (omega arith)
        | inr l ↦ rw (le-ltb u w.sizes.servers l) (omega arith)
      ];
      spare = λ s. elim (cases_lt s w.sizes.shards) [
        | inl l ↦ let few = is.servers in let n : live_at w.sizes w.place s ≤ w.sizes.servers = count-le w.sizes.servers _ in rw (lt-ltb s w.sizes.shards l) (omega arith)
        | inr l ↦ rw (le-ltb s w.sizes.shards l) (omega arith)
      ];
      within = λ r. let a = all_within w v r in let b = all_held m g r in let c = ap (λ h. count h r) g.tied.pool in omega arith;
    }
