-- Starts of plans that a hand has.
use Rattle.std.proofs.Common.{◌≡◌, ◌<◌, ◌≤◌, ◌+◌, ◌^◌, ◌++◌, ◌∷◌, [], ℕ, zero, suc, Bool, true, false, List, Option, Some, None, length, map, refl, sym, ap, ◌∙◌, subst, arith}
use Rattle.std.specs.Prelude.{slice_index_or, slice_set, option_map, if◌then◌else◌, vec_capacity, nat_lt, nat_le}
use Rattle.std.specs.List.{sum_by, range_with_len}
use Rattle.std.proofs.lemmas.Bool.{ltb-false}
use Rattle.std.proofs.lemmas.List.{map-set, length-append}
use Rattle.std.proofs.lemmas.List.Sums.{sum_by-set}
use Rattle.sm_placement.proofs.NamedLemmas.{or_second}
use Rattle.sm_reservation.specs.declared.stream_id.StreamId.{StreamId}
use Rattle.sm_plan_code.specs.Plan.{PlanModel}
use Rattle.sm_plan_code.specs.declared.limits.TheConstants.{MOST_NUMBER, MOST_PLANS}
use Rattle.sm_verifier.specs.declared.admission.Holding.{Holding}
use Rattle.sm_verifier.specs.Checked.{CheckedModel}
use Rattle.sm_verifier.specs.FirstHolding.{first_holding}
use Rattle.sm_protocol.specs.declared.event.Event.TheVariants as event
use Rattle.sm_protocol.specs.declared.event.Played.TheVariants as played
use Rattle.sm_protocol.specs.declared.event.BeginFault.{BeginFault}
use Rattle.sm_protocol.specs.declared.event.BeginFault.TheVariants as fault
use Rattle.sm_protocol.specs.State.{State, stream_id, free_places, places_of, pool}
use Rattle.sm_protocol.specs.Steps.{Outcome, Answered, unchanged}
use Rattle.sm_protocol.specs.Happens.{Begin, happens, begun, running_plans, has_all_plans, started}
use Rattle.sm_protocol.specs.Hand.{given}
use Rattle.sm_machine.specs.declared.hand.Hand as declared
use Rattle.sm_machine.specs.Machine.{MachineModel}
use Rattle.sm_machine.specs.State.{state_of}
use Rattle.sm_machine.specs.Started.{IsNotStarted}
use Rattle.sm_machine.specs.Starts.{AreTokens}
use Rattle.sm_machine.specs.Hand.{hand_plan, hand_of, AreLeft, token_count, HasHandRoom, IsTurn}
use Rattle.sm_machine.proofs.FirstPlaces.{left_there}
use Rattle.sm_machine.proofs.Hands.{given_so}

-- ---- the number of a plan that has begun

abbrev by_tests : State → PlanModel → Bool → Bool → Outcome × State
by_tests w plan a b =
    if a then unchanged w (played.NotBegun fault.LogFull)
    else if b then unchanged w (played.NotBegun fault.TooManyPlans)
    else (Answered (played.Begun (length w.plans)), started w plan)

not_all : (w : State) (plan : PlanModel) (n : ℕ) (a b : Bool) → (by_tests w plan a b).0 ≡ Answered (played.Begun n) → b ≡ false
not_all w plan n true b e = absurd (cc)
not_all w plan n false true e = absurd (cc)
not_all w plan n false false e = refl

not_all_by : (w : State) (plan : PlanModel) (n : ℕ) (o : Option Holding) → (begun w plan o).0 ≡ Answered (played.Begun n) → has_all_plans w ≡ false
not_all_by w plan n None e = not_all w plan n (nat_lt (free_places w) (places_of plan)) (has_all_plans w) e
not_all_by w plan n (Some why) e = absurd (cc)

-- where a plan begins, fewer than 2^32 plans were begun before it
pub number_fits : (w : State) (plan : PlanModel) (n : ℕ) → (happens w (Begin plan)).0 ≡ Answered (played.Begun n) → length w.plans < 2 ^ 32
number_fits w plan n e =
    let few = ltb-false MOST_NUMBER (length w.plans) (or_second (nat_le MOST_PLANS (running_plans w)) _ (not_all_by w plan n (first_holding w.sizes w.place (pool w) plan) e)) in
    omega arith

-- ---- the tokens that a start gives

tokens_from : (plan from n : ℕ) (ts : List StreamId) → length ts ≡ n → ((i : ℕ) (d : StreamId) → i < n → slice_index_or ts i d ≡ stream_id plan (from + i)) → ts ≡ map (stream_id plan) (range_with_len from n)
tokens_from plan from zero [] c e = refl
tokens_from plan from zero (t ∷ ts) c e = absurd (omega arith)
tokens_from plan from (suc n) [] c e = absurd (omega arith)
tokens_from plan from (suc n) (t ∷ ts) c e =
    let here : t ≡ stream_id plan from = e 0 t (omega arith) ∙ ap (stream_id plan) (the_same from) in
    let rest : ts ≡ map (stream_id plan) (range_with_len (from + 1) n) = tokens_from plan (from + 1) n ts (omega arith) (λ i d l. e (suc i) d (omega arith) ∙ ap (stream_id plan) (one_more from i)) in
    ap (λ x. x ∷ ts) here ∙ ap (λ xs. stream_id plan from ∷ xs) rest
  where
    the_same : (k : ℕ) → k + 0 ≡ k
    the_same k = omega arith

    one_more : (k i : ℕ) → k + suc i ≡ k + 1 + i
    one_more k i = omega arith

pub tokens_are : (plan n : ℕ) (ts : List StreamId) → AreTokens plan n ts → ts ≡ map (stream_id plan) (range_with_len 0 n)
tokens_are plan n ts a = tokens_from plan 0 n ts a.count (λ i d l. a.each i d l ∙ ap (stream_id plan) (let e : i ≡ 0 + i = omega arith in e))

-- ---- plans in a hand

-- the protocol's hand has at each place the plan of what the machine's hand has there
pub plan_there : (xs : List (Option CheckedModel)) (i : ℕ) → slice_index_or (map hand_plan xs) i None ≡ hand_plan (slice_index_or xs i None)
plan_there [] i = refl
plan_there (x ∷ xs) zero = refl
plan_there (x ∷ xs) (suc i) = plan_there xs i

-- past the end of a list there is None
pub beyond : {T : Type 0} (xs : List (Option T)) (i : ℕ) → length xs ≤ i → slice_index_or xs i None ≡ None
beyond [] i l = refl
beyond (x ∷ xs) zero l = absurd (omega arith)
beyond (x ∷ xs) (suc i) l = beyond xs i (omega arith)

-- the hands have the same, but for their plans, which are the same too
pub record HasSamePlans (h k : declared.Hand) : Type 0 where
  pub tokens : k.tokens ≡ h.tokens
  pub permits : k.permits ≡ h.permits
  pub tickets : k.tickets ≡ h.tickets
  pub plans : k.plans.items ≡ h.plans.items

same_hand : (h k : declared.Hand) → HasSamePlans h k → hand_of k ≡ hand_of h
same_hand h k s = let a = s.tokens in let b = s.permits in let c = s.tickets in let d = s.plans in cc

same_left : (h k : declared.Hand) → HasSamePlans h k → AreLeft h.plans.items k.plans.items
same_left h k s place p q = subst (λ ps. slice_index_or ps place None ≡ Some p) s.plans q

same_room : (h k : declared.Hand) → HasSamePlans h k → (more : ℕ) → HasHandRoom h (suc more) → HasHandRoom k more
same_room h k s more r = record {
  tokens = subst (λ ts. length ts.items + sum_by token_count k.plans.items ≤ vec_capacity ts) (sym s.tokens) (subst (λ ps. length h.tokens.items + sum_by token_count ps ≤ vec_capacity h.tokens) (sym s.plans) r.tokens);
  permits = subst (λ ps. length ps.items + more ≤ vec_capacity ps) (sym s.permits) (let a = r.permits in omega arith);
  tickets = subst (λ ts. length ts.items + more ≤ vec_capacity ts) (sym s.tickets) (let a = r.tickets in omega arith);
}

module _ (m n : MachineModel) (h k : declared.Hand) (place : ℕ) (p : CheckedModel) (there : slice_index_or h.plans.items place None ≡ Some p) where
  plan_given : given (hand_of h) (event.Begin place) ≡ Some (Begin p.plan)
  plan_given = ap (option_map Begin) (plan_there h.plans.items place ∙ ap hand_plan there)

  -- the plan has not started, and is back in its place
  pub not_started : (why : BeginFault) → IsNotStarted (state_of m) p.plan why → n ≡ m → HasSamePlans h k → IsTurn m h (event.Begin place) (played.NotBegun why) n k
  not_started why told same s =
      given_so m n h k (event.Begin place) (Begin p.plan) (played.NotBegun why) plan_given (ap (λ o. o.0) told) (ap state_of same ∙ sym (ap (λ o. o.1) told)) (ap (λ (x : MachineModel). x.placement.setup) same)
      (same_hand h k s) (same_left h k s) (same_room h k s)

  -- the plan is out of its place, and the tokens of its streams are in the hand
  pub has_started : (number : ℕ) (ts : List StreamId) → number ≡ length (state_of m).plans → (happens (state_of m) (Begin p.plan)).0 ≡ Answered (played.Begun (length (state_of m).plans)) →
      state_of n ≡ (happens (state_of m) (Begin p.plan)).1 → n.placement.setup ≡ m.placement.setup → AreTokens (length (state_of m).plans) (length p.plan.streams) ts →
      place < length h.plans.items → k.plans.items ≡ slice_set h.plans.items place None → k.tokens.items ≡ h.tokens.items ++ ts → vec_capacity h.tokens ≤ vec_capacity k.tokens → k.permits ≡ h.permits → k.tickets ≡ h.tickets →
      IsTurn m h (event.Begin place) (played.Begun number) n k
  has_started number ts is answer state setup tokens within plans items capacity permits tickets =
      given_so m n h k (event.Begin place) (Begin p.plan) (played.Begun number) plan_given (answer ∙ ap (λ j. Answered (played.Begun j)) (sym is)) state setup hand_is
      (λ at q e. left_there h.plans.items place at q (subst (λ ps. slice_index_or ps at None ≡ Some q) plans e)) room_is
    where
      places_are : map hand_plan k.plans.items ≡ slice_set (map hand_plan h.plans.items) place None
      places_are = ap (map hand_plan) plans ∙ map-set hand_plan h.plans.items place None

      tokens_now : k.tokens.items ≡ h.tokens.items ++ map (stream_id number) (range_with_len 0 (length p.plan.streams))
      tokens_now = items ∙ ap (λ xs. h.tokens.items ++ xs) (tokens_are (length (state_of m).plans) (length p.plan.streams) ts tokens ∙ ap (λ j. map (stream_id j) (range_with_len 0 (length p.plan.streams))) (sym is))

      hand_is : hand_of k ≡ record (hand_of h) { plans = slice_set (map hand_plan h.plans.items) place None; tokens = h.tokens.items ++ map (stream_id number) (range_with_len 0 (length p.plan.streams)) }
      hand_is = let a = permits in let b = tickets in let c = places_are in let d = tokens_now in cc

      room_is : (more : ℕ) → HasHandRoom h (suc more) → HasHandRoom k more
      room_is more r =
          let count : length ts ≡ length p.plan.streams = tokens.count in
          let one = sum_by-set token_count h.plans.items place None None within in
          let was : token_count (slice_index_or h.plans.items place None) ≡ length p.plan.streams = ap token_count there in
          let now : sum_by token_count k.plans.items ≡ sum_by token_count (slice_set h.plans.items place None) = ap (sum_by token_count) plans in
          let long : length k.tokens.items ≡ length h.tokens.items + length ts = ap length items ∙ length-append h.tokens.items ts in
          let enough = r.tokens in
          record {
            tokens = omega arith;
            permits = subst (λ ps. length ps.items + more ≤ vec_capacity ps) (sym permits) (let a = r.permits in omega arith);
            tickets = subst (λ qs. length qs.items + more ≤ vec_capacity qs) (sym tickets) (let a = r.tickets in omega arith);
          }
