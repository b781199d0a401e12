-- Decisions are alike where all that they look at is, and so it is after a list of effects.
use Rattle.std.proofs.Common.{◌≡◌, ◌≢◌, ℕ, refl, sym, ap, ◌∙◌, subst, arith, Bool, true, false, not, Option, Some, None, List, [], ◌∷◌, length}
use Rattle.std.proofs.Math.Path.{fun_ext}
use Rattle.std.specs.Prelude.{◌==◌, ◌&&◌, ◌||◌, is_some, nat_le, nat_lt, option_map, slice_index_or, if◌then◌else◌}
use Rattle.std.specs.List.{AllByRecursion, list_any}
use Rattle.std.specs.Option.{option_or}
use Rattle.std.proofs.lemmas.Bool.{and_parts, not-true}
use Rattle.sm_placement.specs.Setup.{Setup, Sizes}
use Rattle.sm_placement.specs.Sums.{any_below, bit, count_below, sum_below}
use Rattle.sm_placement.specs.Place.{down_count}
use Rattle.sm_reservation.specs.declared.stream_id.StreamId.{StreamId}
use Rattle.sm_reservation.specs.Amounts.{count, stock}
use Rattle.sm_plan_code.specs.declared.instruction.Instr.{Instr}
use Rattle.sm_plan_code.specs.declared.instruction.Instr.TheVariants.{PrepareAdd, PrepareDrop, Add, Drop, Change, Publish, Unlist, Signal, Wait}
use Rattle.sm_plan_code.specs.Instr.{IsOwn, is_mentioned}
use Rattle.sm_plan_code.specs.Plan.{PlanModel}
use Rattle.sm_verifier.specs.Plan.{IsSound}
use Rattle.sm_verifier.proofs.Holdings.{finds_holding}
use Rattle.sm_verifier.proofs.WithinPool.{admitted_within}
use Rattle.sm_task_controller.specs.declared.decision.Denied.{Denied}
use Rattle.sm_task_controller.specs.declared.decision.Denied.TheVariants.{AlreadyDown, Engaged, GlobalCap, LogFull, ShardCap}
use Rattle.sm_task_controller.specs.Decision.{denied_if, first_without_spare}
use Rattle.sm_protocol.specs.declared.event.Played.TheVariants as played
use Rattle.sm_protocol.specs.Words.{IsCheckedPlan, MOST_NUMBER, MOST_PLANS, first_from, no_stream}
use Rattle.sm_protocol.specs.State.{Start, State, free_places, is_begun, is_running, next_instruction, no_start, pool, progress_of, stream_id}
use Rattle.sm_protocol.specs.Steps.{Answered, Outcome}
use Rattle.sm_protocol.specs.Next.{call_under, entry_by}
use Rattle.sm_protocol.specs.Happens.{Approve, Lose, approved, engaged, happens, has_all_plans}
use Rattle.sm_protocol.specs.Safe.{IsAccepted}
use Rattle.sm_protocol.specs.Laws.{IsReached}
use Rattle.sm_protocol.proofs.Accepted.{begun_where_accepted, unheld_accepted}
use Rattle.sm_protocol.proofs.Cases.{denied_of}
use Rattle.sm_protocol.proofs.Invariant.{IsKept}
use Rattle.sm_protocol.proofs.Pools.{pool_within}
use Rattle.sm_protocol.proofs.Reached.{reached_next}
use Rattle.sm_protocol.proofs.Steps.{leads_are}
use Rattle.sm_protocol.proofs.Whole.{reached_keeps}
use Rattle.sm_machine.proofs.ties.Wholes.{same_stock, there}
use Rattle.laws_network.specs.Fleet.{Fleet, controller}
use Rattle.laws_network.specs.FleetLaws.{EachFleet, IsFleetReached}
use Rattle.laws_network.proofs.Ahead.{begun_same, next_same}
use Rattle.laws_network.proofs.Calm.{IsCalm}
use Rattle.laws_network.proofs.Commands.{state_reached}
use Rattle.laws_network.proofs.Deliveries.{shade_of}
use Rattle.laws_network.proofs.OfFleet.{net_of}
use Rattle.laws_network.proofs.Raised.{net_is_calm}
use Rattle.laws_network.proofs.Reaching.{fleet_shadow}
use Rattle.laws_network.proofs.Shadow.{IsShadow}
use Rattle.laws_decisions.specs.Decisions.{ApprovesAlike, AreNamedOnce, AreAwaiting, Begins, StartsAlike, is_awaiting, with_effects}
use Rattle.laws_decisions.proofs.Effects.{IsAlike, IsWaiting, has_one, same_alike}

-- ---- who is engaged, and how many plans run

abbrev engaged_by : List Start → (ℕ → ℕ → Bool) → ℕ → Option StreamId
engaged_by plans done v =
    first_from 0 (length plans) (λ k.
    first_from 0 (length (slice_index_or plans k no_start).plan.streams) (λ i.
    if not (done k i) && list_any (is_mentioned v) (slice_index_or (slice_index_or plans k no_start).plan.streams i no_stream).code then Some (stream_id k i) else None))

abbrev all_plans_by : List Start → (ℕ → ℕ → Bool) → Bool
all_plans_by plans done =
    nat_le MOST_PLANS (sum_below (length plans) (λ k. bit (any_below (length (slice_index_or plans k no_start).plan.streams) (λ i. not (done k i)))))
    || nat_lt MOST_NUMBER (length plans)

abbrev done_of : State → ℕ → ℕ → Bool
done_of w k i = (w.progress k i).done

module _ {w new : State} (a : IsAlike w new) where
  same_done : done_of new ≡ done_of w
  same_done = fun_ext (λ k. fun_ext (λ i. a.done k i))

  pub engaged_same : (v : ℕ) → engaged new v ≡ engaged w v
  engaged_same v = ap (λ pl. engaged_by pl (done_of new) v) a.plans ∙ ap (λ d. engaged_by w.plans d v) same_done

  pub plans_same : has_all_plans new ≡ has_all_plans w
  plans_same = ap (λ pl. all_plans_by pl (done_of new)) a.plans ∙ ap (λ d. all_plans_by w.plans d) same_done

-- two effects, one after the other
pub both_alike : {w new last : State} → IsAlike w new → IsAlike new last → IsAlike w last
both_alike a b = record {
  sizes = b.sizes ∙ a.sizes;
  down = b.down ∙ a.down;
  limit = b.limit ∙ a.limit;
  pool = b.pool ∙ a.pool;
  free = b.free ∙ a.free;
  plans = b.plans ∙ a.plans;
  done = λ k i. b.done k i ∙ a.done k i;
  live = λ s v e. b.live s v (engaged_same a v ∙ e) ∙ a.live s v e;
}

-- ---- restarts

abbrev denial_by : Bool → Option StreamId → Bool → Option ℕ → Bool → Option Denied
denial_by down engaged capped bare full =
    option_or (denied_if down AlreadyDown) (option_or (option_map Engaged engaged) (option_or (denied_if capped GlobalCap) (option_or (option_map ShardCap bare) (denied_if full LogFull))))

module _ {w new : State} (a : IsAlike w new) (v : ℕ) where
  bare_same : engaged w v ≡ None → first_without_spare new.sizes new.place (pool new) v ≡ first_without_spare w.sizes w.place (pool w) v
  bare_same e =
      ap (λ c. first_without_spare c new.place (pool new) v) a.sizes
      ∙ ap (λ h. first_without_spare w.sizes new.place h v) a.pool
      ∙ ap (first_from 0 w.sizes.shards) (fun_ext (λ s. ap (λ b. if b && ((pool w).spare s == 0) then Some s else None) (a.live s v e)))

  abbrev capped : State → Bool
  capped x = nat_le x.place.limit (down_count x.sizes x.place)

  capped_same : capped new ≡ capped w
  capped_same =
      ap (λ n. nat_le n (count_below new.sizes.servers new.place.down)) a.limit
      ∙ ap (λ (c : Sizes). nat_le w.place.limit (count_below c.servers new.place.down)) a.sizes
      ∙ ap (λ d. nat_le w.place.limit (count_below w.sizes.servers d)) a.down

  abbrev bare : State → Option ℕ
  bare x = first_without_spare x.sizes x.place (pool x) v

  denied_same : denied_of new v ≡ denied_of w v
  denied_same = go (engaged w v) refl
    where
      parts : (e : Option StreamId) → engaged w v ≡ e → denied_of new v ≡ denial_by (w.place.down v) e (capped w) (bare new) (nat_lt (free_places w) 2)
      parts e f =
          ap (λ d. denial_by (d v) (engaged new v) (capped new) (bare new) (nat_lt (free_places new) 2)) a.down
          ∙ ap (λ o. denial_by (w.place.down v) o (capped new) (bare new) (nat_lt (free_places new) 2)) (engaged_same a v ∙ f)
          ∙ ap (λ b. denial_by (w.place.down v) e b (bare new) (nat_lt (free_places new) 2)) capped_same
          ∙ ap (λ n. denial_by (w.place.down v) e (capped w) (bare new) (nat_lt n 2)) a.free

      here : (e : Option StreamId) → engaged w v ≡ e → denied_of w v ≡ denial_by (w.place.down v) e (capped w) (bare w) (nat_lt (free_places w) 2)
      here e f = ap (λ o. denial_by (w.place.down v) o (capped w) (bare w) (nat_lt (free_places w) 2)) f

      go : (e : Option StreamId) → engaged w v ≡ e → denied_of new v ≡ denied_of w v
      go (Some id) f = parts (Some id) f ∙ sym (here (Some id) f)
      go None f = parts None f ∙ ap (λ o. denial_by (w.place.down v) None (capped w) o (nat_lt (free_places w) 2)) (bare_same f) ∙ sym (here None f)

  abbrev answer_by : Option Denied → Outcome
  answer_by None = Answered played.Approved
  answer_by (Some why) = Answered (played.Denied why)

  answer_is : (x : State) (o : Option Denied) → (approved x v o).0 ≡ answer_by o
  answer_is x None = refl
  answer_is x (Some why) = refl

  -- the question for a restart gets the same answer
  pub approves_same : (happens new (Approve v)).0 ≡ (happens w (Approve v)).0
  approves_same = answer_is new (denied_of new v) ∙ ap answer_by denied_same ∙ sym (answer_is w (denied_of w v))

-- ---- starts

-- what is accepted beside as much is accepted
module _ (w new : State) (v : IsKept w) (k : IsKept new) (sizes : new.sizes ≡ w.sizes) (down : new.place.down ≡ w.place.down) (same : pool new ≡ pool w) (plan : PlanModel) (checked : IsCheckedPlan w.sizes plan) where
  accepted_there : IsAccepted w plan → IsAccepted new plan
  accepted_there a =
      let none = unheld_accepted w v plan checked a in
      let admitted = (finds_holding w.sizes w.place (pool w) plan checked.parts.parcels checked.fits).none.0 none in
      record {
        sound = subst (λ c. IsSound c plan) (sym sizes) a.sound;
        rights = λ r.
            let d = (admitted_within w.sizes w.place (pool w) plan admitted).0 r in
            let c : count (pool new) r ≡ count (pool w) r = ap (λ h. count h r) same in
            let p = pool_within new k r in
            let s : there new r ≡ stock new.sizes new.place k.leads r = same_stock new k.leads (λ q. leads_are new k q) r in
            omega arith;
        up = λ u m. ap (λ d. d u) down ∙ a.up u m;
      }

-- a checked plan begins in the one if it begins in the other
module _ (setup : Setup) (w new : State) (r : IsReached setup w) (t : IsReached setup new) (a : IsAlike w new) (plan : PlanModel) (checked : IsCheckedPlan w.sizes plan) where
  v : IsKept w
  v = (reached_keeps setup w r).0

  k : IsKept new
  k = (reached_keeps setup new t).0

  checked_there : IsCheckedPlan new.sizes plan
  checked_there = subst (λ c. IsCheckedPlan c plan) (sym a.sizes) checked

  pub begins_there : Begins w plan → Begins new plan
  begins_there b =
      let h = (begun_where_accepted setup w plan r checked).0 b in
      let f = a.free in
      (begun_where_accepted setup new plan t checked_there).1 (accepted_there w new v k a.sizes a.down a.pool plan checked h.0, (let l = h.1 in omega arith), plans_same a ∙ h.2)

  pub begins_here : Begins new plan → Begins w plan
  begins_here b =
      let h = (begun_where_accepted setup new plan t checked_there).0 b in
      let f = a.free in
      (begun_where_accepted setup w plan r checked).1 (accepted_there new w k v (sym a.sizes) (sym a.down) (sym a.pool) plan checked_there h.0, (let l = h.1 in omega arith), sym (plans_same a) ∙ h.2)

-- ---- a list of effects

-- a stream that no effect was of waits on
waiting_there : {w new : State} {id : StreamId} → IsWaiting w id → new.plans ≡ w.plans → progress_of new id ≡ progress_of w id → IsWaiting new id
waiting_there {w} {new} {id} t plans same = record {
  instr = t.instr;
  before = record {
    begun = begun_same w new id plans same ∙ t.before.begun;
    running = ap (λ y. y.done) same ∙ t.before.running;
    next_is = next_same w new id plans same ∙ t.before.next_is;
  };
  own = t.own;
  unmade = ap (λ y. y.ahead) same ∙ t.unmade;
}

all_waiting : {w new : State} (id : StreamId) (ids : List StreamId) → IsAlike w new → ((j : StreamId) → j ≢ id → progress_of new j ≡ progress_of w j) →
    AllByRecursion (λ other. other ≢ id) ids → AllByRecursion (IsWaiting w) ids → AllByRecursion (IsWaiting new) ids
all_waiting id [] a others apart waiting = tt
all_waiting id (j ∷ ids) a others apart waiting = (waiting_there waiting.0 a.plans (others j apart.0), all_waiting id ids a others apart.1 waiting.1)

-- what decisions look at stays, and events lead there
pub effects_alike : (setup : Setup) (ids : List StreamId) (w : State) → IsReached setup w → AreNamedOnce ids → AllByRecursion (IsWaiting w) ids →
    IsReached setup (with_effects ids w) × IsAlike w (with_effects ids w)
effects_alike setup [] w reached apart waiting = (reached, same_alike w)
effects_alike setup (id ∷ ids) w reached apart waiting =
    let one = has_one setup w reached id waiting.0 in
    let rest = effects_alike setup ids (happens w (Lose id true)).1 (reached_next setup w (Lose id true) reached tt) apart.1 (all_waiting id ids one.alike one.others apart.0 waiting.1) in
    (rest.0, both_alike one.alike rest.1)

-- ---- what is_awaiting an answer

-- an instruction for which something is sent is the stream's own
own_of : (w : State) (i : Instr) → (is_some (call_under w.numbers (Some i)) || is_some (entry_by w (Some i))) ≡ true → IsOwn i
own_of w (Signal q) e = cc
own_of w (Wait q) e = cc
own_of w (PrepareAdd s v u) e = tt
own_of w (PrepareDrop s u v) e = tt
own_of w (Add s v role) e = tt
own_of w (Drop s v) e = tt
own_of w (Change s v role) e = tt
own_of w (Publish s) e = tt
own_of w (Unlist s) e = tt

waiting_of : (w : State) (id : StreamId) → (progress_of w id).ahead ≡ false → is_awaiting w id ≡ true → IsWaiting w id
waiting_of w id u = go (is_running w id) (next_instruction w id) refl refl
  where
    go : (b : Bool) (o : Option Instr) → is_running w id ≡ b → next_instruction w id ≡ o →
        (is_some (call_under w.numbers (if b then o else None)) || is_some (entry_by w (if b then o else None))) ≡ true → IsWaiting w id
    go false o r n e = cc
    go true None r n e = cc
    go true (Some i) r n e =
        let p = and_parts (is_begun w id) (not (progress_of w id).done) r in
        record { instr = i; before = record { begun = p.0; running = not-true (progress_of w id).done p.1; next_is = n }; own = own_of w i e; unmade = u }

all_of : (w : State) → ((id : StreamId) → (progress_of w id).ahead ≡ false) → (ids : List StreamId) → AllByRecursion (λ id. is_awaiting w id ≡ true) ids → AllByRecursion (IsWaiting w) ids
all_of w u [] all = tt
all_of w u (id ∷ ids) all = (waiting_of w id (u id) all.0, all_of w u ids all.1)

-- ---- the laws

module _ (setup : Setup) (f : Fleet) (r : IsFleetReached setup f) where
  shadow : IsShadow setup (λ s v. 0) f
  shadow = fleet_shadow setup f r

  reached : IsReached setup (controller f).w
  reached = state_reached setup (λ s v. 0) f shadow

  calm : IsCalm (controller f).w
  calm = net_is_calm setup (shade_of f shadow).net (net_of f shadow)

  told : (ids : List StreamId) → AreAwaiting (controller f).w ids → IsReached setup (with_effects ids (controller f).w) × IsAlike (controller f).w (with_effects ids (controller f).w)
  told ids t = effects_alike setup ids (controller f).w reached t.apart (all_of (controller f).w calm.unmade ids t.awaiting)

-- the question for a restart is answered alike, whichever effects are not recorded
pub approves_alike : EachFleet ApprovesAlike
approves_alike setup f r ids v t = approves_same (told setup f r ids t).1 v

-- and so does a checked plan begin, or not
pub starts_alike : EachFleet StartsAlike
starts_alike setup f r ids plan t checked =
    let e = told setup f r ids t in
    (begins_here setup (controller f).w (with_effects ids (controller f).w) (reached setup f r) e.0 e.1 plan checked, begins_there setup (controller f).w (with_effects ids (controller f).w) (reached setup f r) e.0 e.1 plan checked)
