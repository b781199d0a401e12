-- A start of a plan is the protocol's, and what every machine keeps is kept.
use Rattle.std.proofs.Common.{◌≡◌, ◌<◌, ◌≤◌, ◌+◌, ◌-◌, ℕ, suc, Bool, true, false, length, refl, sym, ap, ◌∙◌, subst, arith, inl, inr, Option, Some, None}
use Rattle.std.specs.Prelude.{slice_index, nat_lt, nat_le, ◌||◌, if◌then◌else◌}
use Rattle.std.proofs.lemmas.Bool.{cases_lt, leb-false, ltb-false}
use Rattle.sm_placement.specs.Sums.{bit}
use Rattle.sm_reservation.specs.Capacity.{HoldModel}
use Rattle.sm_reservation.specs.declared.stream_id.StreamId.{StreamId}
use Rattle.std.proofs.lemmas.List.Elements.{All-get_or}
use Rattle.sm_placement.proofs.NamedLemmas.{or_first, or_second}
use Rattle.sm_reservation.proofs.ParcelSums.{plus_none}
use Rattle.sm_plan_code.specs.Plan.{StreamModel, PlanModel, IsOrderedParcel}
use Rattle.sm_plan_code.specs.declared.limits.TheConstants.{MOST_NUMBER, MOST_PLANS}
use Rattle.sm_machine.proofs.ties.Carrying.{no_rights_hold}
use Rattle.sm_verifier.specs.Checked.{CheckedModel}
use Rattle.sm_verifier.specs.Stream.{no_stream, stream_at, Course}
use Rattle.sm_verifier.specs.Step.{parcels_of}
use Rattle.sm_verifier.specs.Peak.{IsPeak}
use Rattle.sm_verifier.specs.Admission.{IsAdmitted}
use Rattle.sm_verifier.specs.FirstHolding.{first_holding, declared_rights}
use Rattle.sm_verifier.specs.declared.admission.Holding.{Holding}
use Rattle.sm_verifier.proofs.Holdings.{finds_holding}
use Rattle.sm_protocol.specs.declared.event.BeginFault.{BeginFault}
use Rattle.sm_protocol.specs.declared.event.BeginFault.TheVariants as fault
use Rattle.sm_protocol.specs.declared.event.Played.TheVariants as played
use Rattle.sm_protocol.specs.State.{State, Start, no_start, plan_at, signal_count, parcel_at, is_begun, pool, places_of, free_places}
use Rattle.sm_protocol.specs.Steps.{Answered, unchanged}
use Rattle.sm_protocol.specs.Happens.{happens, begun, started, has_all_plans, Begin}
use Rattle.sm_protocol.specs.Laws.{IsReached, IsCheckedPlan}
use Rattle.sm_protocol.proofs.Starts.{length_push, get_push_old, get_push_new}
use Rattle.sm_protocol.proofs.Keeping.{begun as known_begun, is_begun_true}
use Rattle.sm_protocol.proofs.Reached.{reached_next}
use Rattle.sm_machine.specs.Course.{hold_in, capacity_in}
use Rattle.sm_machine.specs.Begun.{course_at}
use Rattle.sm_machine.specs.State.{Whole}
use Rattle.sm_machine.specs.Tied.{IsTied, HasCounters, pool_left}
use Rattle.sm_machine.specs.Working.{IsWorking, HasCapacityOn, IsUnsent}
use Rattle.sm_machine.specs.Starts.{empty_kept, ready_course, begun_of, CanFillAt, CanFillAll, IsBegunIn, fault_after, begin_fault}
use Rattle.sm_machine.specs.Started.{ArePeaksOf, IsStarted, begin_answer}
use Rattle.sm_machine.proofs.Readied.{first_at}
use Rattle.sm_machine.proofs.ties.Starting.{can_fill, tied_started}
use Rattle.sm_machine.proofs.ties.Counters.{counted_started}

some_not_none : {A : Type 0} {a : A} → Some a ≡ None → ⊥
some_not_none e = cc

-- the tests in the order of the faults
record Passes (x : Whole) (plan : PlanModel) (o : Option Holding) : Type 0 where
  held : o ≡ None
  places : nat_lt x.free (places_of plan) ≡ false
  plans : (nat_le MOST_PLANS x.running || nat_lt MOST_NUMBER (length x.state.plans)) ≡ false

passes : (x : Whole) (plan : PlanModel) (o : Option Holding) → fault_after x plan o ≡ None → Passes x plan o
passes x plan (Some why) e = absurd (some_not_none e)
passes x plan None e = go (nat_lt x.free (places_of plan)) refl (nat_le MOST_PLANS x.running || nat_lt MOST_NUMBER (length x.state.plans)) refl e
  where
    go : (s : Bool) → nat_lt x.free (places_of plan) ≡ s → (t : Bool) → (nat_le MOST_PLANS x.running || nat_lt MOST_NUMBER (length x.state.plans)) ≡ t →
        (if s then Some fault.LogFull else if t then Some fault.TooManyPlans else None) ≡ None → Passes x plan None
    go true a t b e = absurd (some_not_none e)
    go false a true b e = absurd (some_not_none e)
    go false a false b e = record { held = refl; places = a; plans = b }

-- where nothing holds a plan up, another number is left
pub few_by : (x : Whole) (plan : PlanModel) → begin_fault x plan ≡ None → length x.state.plans ≤ MOST_NUMBER
few_by x plan e = ltb-false MOST_NUMBER (length x.state.plans) (or_second (nat_le MOST_PLANS x.running) _ (passes x plan (first_holding x.state.sizes x.state.place x.pool plan) e).plans)

-- and another plan may run
pub runs_by : (x : Whole) (plan : PlanModel) → begin_fault x plan ≡ None → x.running < MOST_PLANS
runs_by x plan e = leb-false MOST_PLANS x.running (or_first (nat_le MOST_PLANS x.running) _ (passes x plan (first_holding x.state.sizes x.state.place x.pool plan) e).plans)

module _ (x : Whole) (g : IsWorking x) (p : CheckedModel) (checked : IsCheckedPlan x.state.sizes p.plan) where
  abbrev w : State
  w = x.state

  abbrev held_by_pool : Option Holding
  held_by_pool = first_holding w.sizes w.place x.pool p.plan

  same_holding : held_by_pool ≡ first_holding w.sizes w.place (pool w) p.plan
  same_holding = ap (λ h. first_holding w.sizes w.place h p.plan) g.tied.pool

  module _ (none : begin_fault x p.plan ≡ None) where
    tests : Passes x p.plan held_by_pool
    tests = passes x p.plan held_by_pool none

    unheld : first_holding w.sizes w.place (pool w) p.plan ≡ None
    unheld = sym same_holding ∙ tests.held

    pub admitted : IsAdmitted w.sizes w.place (pool w) p.plan
    admitted = (finds_holding w.sizes w.place (pool w) p.plan checked.parts.parcels checked.fits).none.0 unheld

    roomy : nat_lt (free_places w) (places_of p.plan) ≡ false
    roomy = subst (λ n. nat_lt n (places_of p.plan) ≡ false) g.counted.places tests.places

    not_all : has_all_plans w ≡ false
    not_all = subst (λ n. (nat_le MOST_PLANS n || nat_lt MOST_NUMBER (length w.plans)) ≡ false) g.counted.plans tests.plans

    pub enough : places_of p.plan ≤ free_places w
    enough = ltb-false (free_places w) (places_of p.plan) roomy

    -- it starts, as the protocol says
    pub happens_so : happens w (Begin p.plan) ≡ (Answered (played.Begun (length w.plans)), started w p.plan)
    happens_so = ap (begun w p.plan) unheld ∙ (rw (roomy, not_all) refl)

    module _ (peaks : ArePeaksOf w.sizes p (length p.plan.streams)) where
      -- each stream can take what it declares
      pub can_fill_all : CanFillAll (begun_of p 0) x.pool
      can_fill_all i l =
          let a = can_fill x.setup w g.reached p.plan checked admitted i l (empty_kept (slice_index p.peaks i)) refl (slice_index p.peaks i) (peaks i l) (omega arith) in
          let at : course_at (begun_of p 0) i ≡ ready_course (slice_index p.peaks i) = first_at (λ j. slice_index p.peaks j) (length p.plan.streams) i _ l in
          subst (λ h. CanFillAt (pool_left h p.plan.streams i) (course_at (begun_of p 0) i) (declared_rights p.plan.streams i)) (sym g.tied.pool)
          (subst (λ c. CanFillAt (pool_left (pool w) p.plan.streams i) c (declared_rights p.plan.streams i)) (sym at) (record {
            running = refl;
            enough = a.enough;
            fits = a.fits;
            capacity = a.capacity;
          }))

      module _ (y : Whole) (b : IsBegunIn x p y) where
        abbrev next : State
        next = started w p.plan

        abbrev place : ℕ
        place = length w.plans

        old_plan : (k : ℕ) → k < place → plan_at next k ≡ plan_at w k
        old_plan k l = ap (λ (z : Start). z.plan) (get_push_old w.plans (record { plan = p.plan; since = length w.log }) k no_start l)

        new_plan : plan_at next place ≡ p.plan
        new_plan = ap (λ (z : Start). z.plan) (get_push_new w.plans (record { plan = p.plan; since = length w.log }) no_start)

        longer : length next.plans ≡ suc place
        longer = length_push w.plans (record { plan = p.plan; since = length w.log })

        tied_here : IsTied next y.pool (λ k i. hold_in (y.grants k i)) (λ k q. hold_in (y.parcels k q))
        tied_here = subst (λ h. IsTied next h (λ k i. hold_in (y.grants k i)) (λ k q. hold_in (y.parcels k q))) (sym b.pool)
            (tied_started x.setup w g.reached p.plan checked admitted x.pool (λ k i. hold_in (x.grants k i)) (λ k q. hold_in (x.parcels k q)) (λ k i. hold_in (y.grants k i)) (λ k q. hold_in (y.parcels k q)) g.tied
            (λ k i l. ap hold_in (b.grants k i l))
            (λ i l. (b.granted i l).hold ∙ plus_none (declared_rights p.plan.streams i) (All-get_or (λ (s : StreamModel). IsOrderedParcel s.holds) p.plan.streams i no_stream l checked.parts.parcels.streams).ordered)
            (λ k q l. ap hold_in (b.parcels k q l))
            (λ q l. ap hold_in (b.parceled q l) ∙ no_rights_hold))

        granted_capacity : (s : Course) (n : ℕ) → IsPeak s n → (o : Option HoldModel) → capacity_in o ≡ n → HasCapacityOn s o
        granted_capacity s n r None e = tt
        granted_capacity s n r (Some k) e = (n, r, omega arith)

        capacities_here : (id : StreamId) → is_begun next id ≡ true → HasCapacityOn (stream_at w.sizes (plan_at next id.plan) id.stream) (y.grants id.plan id.stream)
        capacities_here id e =
            let is = known_begun next id e in
            elim (cases_lt id.plan place) [
              | inl old ↦
                  let was : is_begun w id ≡ true = is_begun_true w id (record { plan = old; stream = subst (λ z. id.stream < length z.streams) (old_plan id.plan old) is.stream }) in
                  subst (λ o. HasCapacityOn (stream_at w.sizes (plan_at next id.plan) id.stream) o) (sym (b.grants id.plan id.stream old))
                  (subst (λ z. HasCapacityOn (stream_at w.sizes z id.stream) (x.grants id.plan id.stream)) (sym (old_plan id.plan old)) (g.capacities id was))
              | inr new ↦
                  let at : id.plan ≡ place = (let n = longer in let l = is.plan in omega arith) in
                  let here : id.stream < length p.plan.streams = subst (λ z. id.stream < length z.streams) (ap (plan_at next) at ∙ new_plan) is.stream in
                  subst (λ k. HasCapacityOn (stream_at w.sizes (plan_at next k) id.stream) (y.grants k id.stream)) (sym at)
                  (subst (λ z. HasCapacityOn (stream_at w.sizes z id.stream) (y.grants place id.stream)) (sym new_plan)
                  (granted_capacity (stream_at w.sizes p.plan id.stream) (slice_index p.peaks id.stream) (peaks id.stream here) (y.grants place id.stream) (b.granted id.stream here).capacity))
            ]

        unsent_here : (k q : ℕ) → k < length next.plans → q < signal_count next k → (next.marks k q).posted ≡ false → IsUnsent (y.parcels k q) (parcel_at next k q)
        unsent_here k q l m unposted = elim (cases_lt k place) [
          | inl old ↦
              subst (λ o. IsUnsent o (parcel_at next k q)) (sym (b.parcels k q old))
              (subst (λ (z : PlanModel). IsUnsent (x.parcels k q) (parcels_of z.signals q)) (sym (old_plan k old)) (g.unsent k q old (subst (λ z. q < length z.signals) (old_plan k old) m) unposted))
          | inr new ↦
              let at : k ≡ place = (let n = longer in omega arith) in
              let here : q < length p.plan.signals = subst (λ z. q < length z.signals) (ap (plan_at next) at ∙ new_plan) m in
              subst (λ j. IsUnsent (y.parcels j q) (parcel_at next j q)) (sym at)
              (subst (λ (z : PlanModel). IsUnsent (y.parcels place q) (parcels_of z.signals q)) (sym new_plan)
              (subst (λ o. IsUnsent o (parcels_of p.plan.signals q)) (sym (b.parceled q here)) (refl, omega arith)))
        ]

        reached_here : IsReached x.setup next
        reached_here = subst (λ z. IsReached x.setup z) (ap (λ z. z.1) happens_so) (reached_next x.setup w (Begin p.plan) g.reached checked)

        counted_here : (free running : ℕ) → free ≡ x.free - places_of p.plan → running ≡ x.running + bit (nat_lt 0 (length p.plan.streams)) → HasCounters next y.unfinished running free
        counted_here free running f r =
            subst (λ n. HasCounters next y.unfinished n free) (sym r)
            (subst (λ n. HasCounters next y.unfinished (x.running + bit (nat_lt 0 (length p.plan.streams))) n) (sym f)
            (counted_started x.setup w g.reached x.unfinished x.running x.free g.counted p.plan (ltb-false x.free (places_of p.plan) tests.places) y.unfinished b.unfinished b.counted))

        -- it has started, with this many places free and plans running
        pub started_here : (free running : ℕ) → free ≡ x.free - places_of p.plan → running ≡ x.running + bit (nat_lt 0 (length p.plan.streams)) →
            IsStarted x p (length w.plans) (record y { free = free; running = running })
        started_here free running f r = record {
          happens = happens_so ∙ ap (λ z. (Answered (played.Begun (length w.plans)), z)) (sym b.state);
          latest = refl;
          setup = b.setup;
          working = record {
            reached = subst (λ s. IsReached s y.state) (sym b.setup) (subst (IsReached x.setup) (sym b.state) reached_here);
            tied = subst (λ z. IsTied z y.pool (λ k i. hold_in (y.grants k i)) (λ k q. hold_in (y.parcels k q))) (sym b.state) tied_here;
            capacities = subst (λ (z : State). (id : StreamId) → is_begun z id ≡ true → HasCapacityOn (stream_at z.sizes (plan_at z id.plan) id.stream) (y.grants id.plan id.stream)) (sym b.state) capacities_here;
            unsent = subst (λ (z : State). (k q : ℕ) → k < length z.plans → q < signal_count z k → (z.marks k q).posted ≡ false → IsUnsent (y.parcels k q) (parcel_at z k q)) (sym b.state) unsent_here;
            counted = subst (λ z. HasCounters z y.unfinished running free) (sym b.state) (counted_here free running f r);
          };
        }

-- ---- what the begin of a plan is told, whether it starts or not

-- the tests of the log's places and of the plans' number, in their order
abbrev fault_by : Bool → Bool → Option BeginFault
fault_by full all = if full then Some fault.LogFull else if all then Some fault.TooManyPlans else None

module _ (w : State) (plan : PlanModel) where
  told_by : (full all : Bool) →
      (if full then unchanged w (played.NotBegun fault.LogFull) else if all then unchanged w (played.NotBegun fault.TooManyPlans) else (Answered (played.Begun (length w.plans)), started w plan)).0
      ≡ Answered (begin_answer w (fault_by full all))
  told_by true all = refl
  told_by false true = refl
  told_by false false = refl

  told_after : (x : Whole) (held : Option Holding) → nat_lt x.free (places_of plan) ≡ nat_lt (free_places w) (places_of plan) → (nat_le MOST_PLANS x.running || nat_lt MOST_NUMBER (length x.state.plans)) ≡ has_all_plans w →
      (begun w plan held).0 ≡ Answered (begin_answer w (fault_after x plan held))
  told_after x (Some why) full all = refl
  told_after x None full all =
      told_by (nat_lt (free_places w) (places_of plan)) (has_all_plans w)
      ∙ ap (λ t. Answered (begin_answer w (fault_by (nat_lt (free_places w) (places_of plan)) t))) (sym all)
      ∙ ap (λ s. Answered (begin_answer w (fault_by s (nat_le MOST_PLANS x.running || nat_lt MOST_NUMBER (length x.state.plans))))) (sym full)

-- what is against a plan's start in the machine is what its begin is told
pub begin_told : (x : Whole) → IsWorking x → (plan : PlanModel) → (happens x.state (Begin plan)).0 ≡ Answered (begin_answer x.state (begin_fault x plan))
begin_told x g plan =
    ap (λ h. (begun x.state plan (first_holding x.state.sizes x.state.place h plan)).0) (sym g.tied.pool)
    ∙ told_after x.state plan x (first_holding x.state.sizes x.state.place x.pool plan)
    (ap (λ n. nat_lt n (places_of plan)) g.counted.places) (ap (λ n. nat_le MOST_PLANS n || nat_lt MOST_NUMBER (length x.state.plans)) g.counted.plans)
