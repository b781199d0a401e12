-- Lists of events that are played with a hand.
use Rattle.sm_protocol.proofs.Below.{◌≡◌, ℕ, zero, suc, Bool, true, false, refl, sym, ap, subst, Option, Some, None, List, [], ◌∷◌, ◌++◌, ◌==◌, find, option_map, slice_index_or, slice_set, if◌then◌else◌, AllByRecursion, list_any, filter_map, Sizes, sizes_of, PlanModel}
use Rattle.sm_protocol.proofs.Words.{Event, Played, Ticket, Outcome, Refused, Answered, Happening, Step, Lose, Refill, PassOn, Approve, Done, Begin, happens, run, outcomes, Hand, Game, is_token, given, spends, without_first, IsSafe, NextIsServed, ExecutedServes, SomeCanStepOrSpent, tickets_of, hand_after, hand_by, turn_by, turn, play, plays, all_given, played_events, or_unknown, SomeCanStep, HasEffectOnce, IsReached, FitsConfig, AllFit, LosesNothing, NamesKnown, AsksNoLoss, AreChecked, AreServed, PlaysAreRuns, PlaysAreSafe}
use Rattle.sm_protocol.specs.declared.event.Event.TheVariants as event
use Rattle.sm_protocol.specs.declared.event.Played.TheVariants as played
use Rattle.sm_protocol.proofs.Reached.{reached_run}
use Rattle.sm_protocol.proofs.Whole.{reached_keeps, run_served}
use Rattle.sm_protocol.proofs.Onward.{headline, with_losses}
use Rattle.sm_protocol.specs.Laws.{RunsAreSafe}
use Rattle.sm_protocol.proofs.Passable.{executed_serves}
use Rattle.sm_protocol.proofs.EffectNumbers.{effect_once}
use Rattle.sm_protocol.proofs.Passes.{tickets_once}

-- ---- the run that a list of events makes

-- an event, and the list behind it
turn_runs : (g : Game) (e : Event) (es : List Event) (o : Option Happening) →
    ((next : Game) → ((play es next).state ≡ run (played_events es next) next.state) × (plays es next ≡ or_unknown (all_given es next) (outcomes (played_events es next) next.state))) →
    let next = (turn_by g e o).1 in
    let there = filter_map (λ x. x) (o ∷ all_given es next) in
    ((play es next).state ≡ run there g.state) × ((turn_by g e o).0 ∷ plays es next ≡ or_unknown (o ∷ all_given es next) (outcomes there g.state))
turn_runs g e es None rest = ((rest g).0, ap (λ os. Answered played.Unknown ∷ os) (rest g).1)
turn_runs g e es (Some x) rest = let r = rest (turn_by g e (Some x)).1 in (r.0, ap (λ os. (happens g.state x).0 ∷ os) r.1)

-- a list of events that is played makes the run of those for which the hand has something, with what it gives
pub plays_are_runs : PlaysAreRuns
plays_are_runs [] g = (refl, refl)
plays_are_runs (e ∷ es) g = turn_runs g e es (given g.hand e) (plays_are_runs es)

-- ---- what the hand gives fits

-- what is given, if anything, is so
abbrev IsGivenAs : (Happening → Type 0) → Option Happening → Type 0
IsGivenAs P None = Unit {0}
IsGivenAs P (Some x) = P x

if_held : (P : Happening → Type 0) (b : Bool) (x : Happening) → P x → IsGivenAs P (if b then Some x else None)
if_held P true x p = p
if_held P false x p = tt

given_fits : (c : Sizes) (h : Hand) (e : Event) → AreChecked c h → NamesKnown c e → IsGivenAs (FitsConfig c) (given h e)
given_fits c h (event.Step id) all k = if_held (FitsConfig c) (list_any (is_token id) h.tokens) (Step id) tt
given_fits c h (event.Lose id after) all k = if_held (FitsConfig c) (list_any (is_token id) h.tokens) (Lose id after) tt
given_fits c h (event.Refill id more) all k = if_held (FitsConfig c) (list_any (is_token id) h.tokens) (Refill id more) k
given_fits c h (event.Arrive s v) all k = k
given_fits c h (event.PassOn place) all k = by_ticket (find (λ t. t.place == place) h.tickets)
  where
    by_ticket : (o : Option Ticket) → IsGivenAs (FitsConfig c) (option_map PassOn o)
    by_ticket None = tt
    by_ticket (Some t) = tt
given_fits c h (event.Approve v) all k = k
given_fits c h (event.Done v) all k = if_held (FitsConfig c) (list_any (λ permit. permit == v) h.permits) (Done v) k
given_fits c h (event.Begin place) all k = by_plan (slice_index_or h.plans place None) refl
  where
    by_plan : (o : Option PlanModel) → slice_index_or h.plans place None ≡ o → IsGivenAs (FitsConfig c) (option_map Begin o)
    by_plan None e = tt
    by_plan (Some plan) e = all place plan e

given_loses : (h : Hand) (e : Event) → AsksNoLoss e → IsGivenAs LosesNothing (given h e)
given_loses h (event.Step id) n = if_held LosesNothing (list_any (is_token id) h.tokens) (Step id) tt
given_loses h (event.Lose id after) n = absurd n
given_loses h (event.Refill id more) n = if_held LosesNothing (list_any (is_token id) h.tokens) (Refill id more) tt
given_loses h (event.Arrive s v) n = tt
given_loses h (event.PassOn place) n = by_ticket (find (λ t. t.place == place) h.tickets)
  where
    by_ticket : (o : Option Ticket) → IsGivenAs LosesNothing (option_map PassOn o)
    by_ticket None = tt
    by_ticket (Some t) = tt
given_loses h (event.Approve v) n = tt
given_loses h (event.Done v) n = if_held LosesNothing (list_any (λ permit. permit == v) h.permits) (Done v) tt
given_loses h (event.Begin place) n = by_plan (slice_index_or h.plans place None)
  where
    by_plan : (o : Option PlanModel) → IsGivenAs LosesNothing (option_map Begin o)
    by_plan None = tt
    by_plan (Some plan) = tt

-- ---- the plans in the hand stay checked

taken_out : (plans : List (Option PlanModel)) (i k : ℕ) (plan : PlanModel) → slice_index_or (slice_set plans i None) k None ≡ Some plan → slice_index_or plans k None ≡ Some plan
taken_out [] i k plan e = e
taken_out (x ∷ xs) zero zero plan e = absurd (cc)
taken_out (x ∷ xs) zero (suc k) plan e = e
taken_out (x ∷ xs) (suc i) zero plan e = e
taken_out (x ∷ xs) (suc i) (suc k) plan e = taken_out xs i k plan e

module _ (c : Sizes) (h : Hand) (all : AreChecked c h) where
  stays_checked : (e : Event) (x : Happening) (answer : Played) → AreChecked c (hand_after h e x answer)
  stays_checked (event.Begin at) (Begin plan) (played.Begun number) = λ place p q. all place p (taken_out h.plans _ place p q)
  stays_checked e (Begin plan) _ = all
  stays_checked e (Approve v) played.Approved = all
  stays_checked e (Approve v) _ = all
  stays_checked e (Done v) played.Up = all
  stays_checked e (Done v) _ = all
  stays_checked e (PassOn t) answer = by_spent (spends answer)
    where
      by_spent : (b : Bool) → AreChecked c (if b then record h { tickets = without_first (λ x. x.place == t.place) h.tickets ++ tickets_of t.shard t.target answer } else h)
      by_spent true = all
      by_spent false = all
  stays_checked e _ answer = all

  checked_by : (e : Event) (x : Happening) (o : Outcome) → AreChecked c (hand_by h e x o)
  checked_by e x Refused = all
  checked_by e x (Answered answer) = stays_checked e x answer

turn_checked : (c : Sizes) (g : Game) (e : Event) (o : Option Happening) → AreChecked c g.hand → AreChecked c (turn_by g e o).1.hand
turn_checked c g e None all = all
turn_checked c g e (Some x) all = checked_by c g.hand all e x (happens g.state x).0

-- ---- lists of events

-- what holds of what is given, and of all that is given later
all_so : (P : Happening → Type 0) (o : Option Happening) (xs : List (Option Happening)) → IsGivenAs P o → AllByRecursion P (filter_map (λ x. x) xs) → AllByRecursion P (filter_map (λ x. x) (o ∷ xs))
all_so P None xs p all = all
all_so P (Some x) xs p all = (p, all)

-- all that is given fits, and the plans in the hand stay checked
played_fit : (c : Sizes) (es : List Event) (g : Game) → AreChecked c g.hand → AllByRecursion (NamesKnown c) es → AllFit c (played_events es g) × AreChecked c (play es g).hand
played_fit c [] g all k = (tt, all)
played_fit c (e ∷ es) g all k =
    let r = played_fit c es (turn g e).1 (turn_checked c g e (given g.hand e) all) k.1 in
    (all_so (FitsConfig c) (given g.hand e) (all_given es (turn g e).1) (given_fits c g.hand e all k.0) r.0, r.1)

played_lose : (es : List Event) (g : Game) → AllByRecursion AsksNoLoss es → AllByRecursion LosesNothing (played_events es g)
played_lose [] g n = tt
played_lose (e ∷ es) g n = all_so LosesNothing (given g.hand e) (all_given es (turn g e).1) (given_loses g.hand e n.0) (played_lose es (turn g e).1 n.1)

-- events for which the hand has nothing are not refused
unknown_served : (xs : List (Option Happening)) (os : List Outcome) → AreServed os → AreServed (or_unknown xs os)
unknown_served [] os all = tt
unknown_served (None ∷ xs) os all = ((λ q. cc), unknown_served xs os all)
unknown_served (Some x ∷ xs) [] all = tt
unknown_served (Some x ∷ xs) (o ∷ os) all = (all.0, unknown_served xs os all.1)

-- the laws hold of every list of events that fit
pub runs_are_safe : RunsAreSafe
runs_are_safe setup w es reached fit =
    let kept = reached_keeps setup w reached in
    let fits : AllFit w.sizes es = subst (λ c. AllFit c es) (sym kept.1) fit in
    let after = reached_run setup es w reached fits in
    let onward = with_losses setup (run es w) after in
    record {
      reached = after;
      served = run_served es w kept.0 fits;
      next = onward.0;
      executed = executed_serves setup (run es w) after;
      effects = λ n. effect_once w kept.0 es n fits;
      tickets = tickets_once w es;
      safe = onward.1;
      onward = onward.2;
      unlost = λ none losses. (headline setup w es reached none fit losses).3;
    }

-- the laws of runs hold of every list of events that is played with a hand of checked plans
pub plays_are_safe : PlaysAreSafe
plays_are_safe setup es g reached all known =
    let there = played_events es g in
    let runs = plays_are_runs es g in
    let played = played_fit (sizes_of setup) es g all known in
    let safe = runs_are_safe setup g.state there reached played.0 in
    let back = sym runs.0 in
    record {
      fit = played.0;
      reached = subst (IsReached setup) back safe.reached;
      checked = played.1;
      served = subst AreServed (sym runs.1) (unknown_served (all_given es g) (outcomes there g.state) safe.served);
      next = subst NextIsServed back safe.next;
      executed = subst ExecutedServes back safe.executed;
      effects = λ n. subst (λ x. HasEffectOnce g.state there x n) back (safe.effects n);
      tickets = safe.tickets;
      safe = subst IsSafe back safe.safe;
      onward = subst SomeCanStepOrSpent back safe.onward;
      unlost = λ none asked. subst SomeCanStep back (safe.unlost none (played_lose es g asked));
    }
