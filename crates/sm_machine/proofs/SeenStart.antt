-- The needs of a start, as its call sees it.
use Rattle.std.proofs.Common.{◌≡◌, ◌≤◌, ◌<◌, ◌+◌, ◌-◌, ℕ, length, sym, ap, ◌∙◌, subst, Option, None}
use Rattle.std.specs.Prelude.{nat_lt, Result, Ok, Err, IfOk, OnErr}
use Rattle.sm_placement.specs.Sums.{bit}
use Rattle.sm_protocol.specs.declared.event.BeginFault.{BeginFault}
use Rattle.sm_protocol.specs.State.{places_of}
use Rattle.sm_machine.specs.Working.{IsWorking}
use Rattle.sm_machine.specs.Starts.{CanFillAll, IsBegunIn, begun_of, begin_fault}
use Rattle.sm_placement.specs.Setup.{sizes_of}
use Rattle.sm_plan_code.specs.Plan.{PlanModel, IsPlan, IsKnownPlan}
use Rattle.sm_plan_code.specs.declared.limits.TheConstants.{MOST_NUMBER, MOST_PLANS}
use Rattle.sm_verifier.specs.Plan.{IsSound}
use Rattle.sm_verifier.specs.Checked.{CheckedModel}
use Rattle.sm_protocol.specs.Laws.{IsCheckedPlan}
use Rattle.sm_machine.specs.Machine.{MachineModel}
use Rattle.sm_machine.specs.State.{Whole, whole_of}
use Rattle.sm_machine.specs.Started.{ArePeaksOf, IsStarted}
use Rattle.sm_machine.specs.Unfinished.{unfinished_below}
use Rattle.sm_machine.proofs.Unfinished.{place_left}
use Rattle.sm_machine.proofs.Begins.{started_here, can_fill_all, few_by, runs_by}

pub same_sizes : (m : MachineModel) (p : CheckedModel) → p.setup ≡ m.placement.setup → sizes_of p.setup ≡ (whole_of m).state.sizes
unfolding whole_of
same_sizes m p e = ap sizes_of e

pub checked_here : (m : MachineModel) (p : CheckedModel) → p.setup ≡ m.placement.setup → IsPlan p.plan → IsKnownPlan (length p.setup.shards) (length p.setup.servers) p.plan → IsSound (sizes_of p.setup) p.plan →
    IsCheckedPlan (whole_of m).state.sizes p.plan
checked_here m p e parts fits sound = subst (λ c. IsCheckedPlan c p.plan) (same_sizes m p e) (record { parts = parts; fits = fits; sound = sound })

pub peaks_of : (m : MachineModel) (p : CheckedModel) → p.setup ≡ m.placement.setup → ArePeaksOf (sizes_of p.setup) p (length p.plan.streams) → ArePeaksOf (whole_of m).state.sizes p (length p.plan.streams)
peaks_of m p e r = subst (λ c. ArePeaksOf c p (length p.plan.streams)) (same_sizes m p e) r

module _ (m : MachineModel) (p q : CheckedModel) (same : q ≡ p) (setup : p.setup ≡ m.placement.setup) (g : IsWorking (whole_of m))
    (plan : PlanModel) (is : plan ≡ q.plan) (parts : IsPlan plan) (fits : IsKnownPlan (length q.setup.shards) (length q.setup.servers) q.plan) (sound : IsSound (sizes_of q.setup) q.plan)
    (peaks : ArePeaksOf (sizes_of p.setup) p (length p.plan.streams)) (why : Option BeginFault) (f : why ≡ begin_fault (whole_of m) q.plan) (none : why ≡ None) where
  checked : IsCheckedPlan (whole_of m).state.sizes p.plan
  checked = checked_here m p setup (subst IsPlan (is ∙ ap (λ (r : CheckedModel). r.plan) same) parts)
      (subst (λ (r : CheckedModel). IsKnownPlan (length r.setup.shards) (length r.setup.servers) r.plan) same fits) (subst (λ (r : CheckedModel). IsSound (sizes_of r.setup) r.plan) same sound)

  no_fault : begin_fault (whole_of m) p.plan ≡ None
  no_fault = ap (λ (r : CheckedModel). begin_fault (whole_of m) r.plan) (sym same) ∙ sym f ∙ none

  -- where nothing is against the start, 2^32 - 1 plans at most were begun before
  pub few_here : length (whole_of m).state.plans ≤ MOST_NUMBER
  few_here = few_by (whole_of m) p.plan no_fault

  -- and fewer than 16 of them are unfinished
  pub place_here : length (unfinished_below (whole_of m).unfinished (length (whole_of m).state.plans)) < MOST_PLANS
  place_here = place_left (whole_of m) g (runs_by (whole_of m) p.plan no_fault)

  -- and each stream in its turn can take what it declares out of the pool
  pub can_fill_here : CanFillAll (begun_of p 0) (whole_of m).pool
  can_fill_here = can_fill_all (whole_of m) g p checked no_fault (peaks_of m p setup peaks)

  -- once the plan is begun, its places of the log set aside and it counted as unfinished, it has started
  pub started_so : (y z : Whole) → IsBegunIn (whole_of m) p y → (number free places streams : ℕ) → number ≡ length (whole_of m).state.plans → free ≡ (whole_of m).free → places ≡ places_of q.plan → streams ≡ length q.plan.streams →
      z ≡ record y { free = free - places; running = y.running + bit (nat_lt 0 streams) } → IsStarted (whole_of m) p number z
  started_so y z b number free places streams n fr pl st e =
      let a : free - places ≡ (whole_of m).free - places_of p.plan = ap (λ k. k - places) fr ∙ ap (λ k. (whole_of m).free - k) (pl ∙ ap (λ (r : CheckedModel). places_of r.plan) same) in
      let c : y.running + bit (nat_lt 0 streams) ≡ (whole_of m).running + bit (nat_lt 0 (length p.plan.streams)) =
      ap (λ k. k + bit (nat_lt 0 streams)) b.running ∙ ap (λ k. (whole_of m).running + bit (nat_lt 0 k)) (st ∙ ap (λ (r : CheckedModel). length r.plan.streams) same) in
      subst (λ k. IsStarted (whole_of m) p k z) (sym n)
      (subst (IsStarted (whole_of m) p (length (whole_of m).state.plans)) (sym e)
      (started_here (whole_of m) g p checked no_fault (peaks_of m p setup peaks) y b (free - places) (y.running + bit (nat_lt 0 streams)) a c))

-- what every machine keeps is kept, whether the plan starts or not
pub kept_by : {A E : Type 0} (m n : MachineModel) (p : CheckedModel) (number : A → ℕ) (r : Result A E) → IsWorking (whole_of m) → IfOk r (λ a. IsStarted (whole_of m) p (number a) (whole_of n)) → OnErr r (n ≡ m) → IsWorking (whole_of n)
kept_by m n p number (Ok a) g s u = s.working
kept_by m n p number (Err e) g s u = subst (λ k. IsWorking (whole_of k)) (sym u) g
