-- Wherever events lead, steps, orders and answers can lead on to where all plans are done.
use Rattle.std.proofs.Common.{◌≡◌, ℕ, zero, suc, ◌+◌, ◌-◌, ◌<◌, ◌≤◌, ◌⊎◌, refl, sym, ap, ◌∙◌, inl, inr, subst, arith, Bool, true, false, Option, Some, None, List, [], ◌∷◌, ◌++◌, length}
use Rattle.std.specs.Prelude.{if◌then◌else◌, slice_get, slice_index_or}
use Rattle.std.specs.List.{AllByRecursion}
use Rattle.std.proofs.lemmas.Bool.{cases_Bool, cases_eq}
use Rattle.sm_placement.specs.Setup.{Setup, Sizes, sizes_of}
use Rattle.sm_placement.specs.Sums.{any_below, sum_below}
use Rattle.sm_verifier.proofs.OnePlace.{some_below, sum_below_le}
use Rattle.sm_plan_code.specs.Plan.{PlanModel}
use Rattle.sm_verifier.specs.Order.{code_at}
use Rattle.sm_protocol.specs.declared.event.Passage.TheVariants.{Through}
use Rattle.sm_protocol.specs.State.{Progress, Start, State, is_unfinished, no_start, plan_at, progress_of, set_progress, stream_count, stream_id}
use Rattle.sm_protocol.specs.Happens.{Happening, Lose, Step, happens}
use Rattle.sm_protocol.specs.Laws.{AreDone}
use Rattle.sm_protocol.proofs.Cases.{OfSteps, all_fit, of_any, of_happens}
use Rattle.sm_protocol.proofs.Numbers.{each_stream, goes_on}
use Rattle.sm_protocol.proofs.Whole.{reached_keeps}
use Rattle.laws_network.specs.Net.{Delivery, after_delivery, real_delivery, Answer, Ask, Control, Deliver, Net, NetEvent, Order, Pass, Quiet, Send, StreamId, answer_taken, at_place, comes, controlled, delivered, is_awaited, is_own, net_run}
use Rattle.laws_network.specs.Laws.{AllNetFit, CanFinish, EachNet, HasMovedOn, IsAdvance, IsNetReached, NetFits, round_trip}
use Rattle.laws_network.proofs.Lists.{all_append}
use Rattle.laws_network.proofs.Raised.{record_is_reached, some_can_go_on}

-- ---- what moves leave as it is

-- no plan starts, and no stream goes back
pub record GoesOn (w new : State) : Type 0 where
  pub plans : new.plans ≡ w.plans
  pub at : (id : StreamId) → (progress_of w id).at ≤ (progress_of new id).at
  pub done : (id : StreamId) → (progress_of w id).done ≡ true → (progress_of new id).done ≡ true

-- a state is as far as itself
pub still : (w : State) → GoesOn w w
still w = record { plans = refl; at = λ id. omega arith; done = λ id d. d }

-- who is further than one that is further is further
pub further : (a b c : State) → GoesOn a b → GoesOn b c → GoesOn a c
further a b c f g = record { plans = g.plans ∙ f.plans; at = λ id. (let x = f.at id in let y = g.at id in omega arith); done = λ id d. g.done id (f.done id d) }

put_on : (w : State) (id : StreamId) (y : Progress) → (progress_of w id).at ≤ y.at → ((progress_of w id).done ≡ true → y.done ≡ true) → (j : StreamId) →
    ((progress_of w j).at ≤ (set_progress w id y j.plan j.stream).at) × ((progress_of w j).done ≡ true → (set_progress w id y j.plan j.stream).done ≡ true)
put_on w id y a d = each_stream (goes_on w id y) (λ j z. ((progress_of w j).at ≤ z.at) × ((progress_of w j).done ≡ true → z.done ≡ true)) (a, d) (λ j n. ((omega arith), (λ e. e)))

goes_by : (w new : State) (id : StreamId) (y : Progress) → (progress_of w id).at ≤ y.at → ((progress_of w id).done ≡ true → y.done ≡ true) → new.plans ≡ w.plans →
    ((j : StreamId) → progress_of new j ≡ set_progress w id y j.plan j.stream) → GoesOn w new
goes_by w new id y a d plans progress = record {
  plans = plans;
  at = λ j. subst (λ (z : Progress). (progress_of w j).at ≤ z.at) (sym (progress j)) (put_on w id y a d j).0;
  done = λ j e. ap (λ (z : Progress). z.done) (progress j) ∙ (put_on w id y a d j).1 e;
}

step_by : (w : State) (id : StreamId) → OfSteps w id Through (λ o. GoesOn w o.1)
step_by w id = record {
  idle = λ answer. still w;
  refused = λ i x why t e. still w;
  at_end = λ b. goes_by w _ id (record (progress_of w id) { done = true }) (omega arith) (λ e. refl) refl (λ j. refl);
  publishes = λ i s server b c. goes_by w _ id (record (progress_of w id) { at = (progress_of w id).at + 1 }) (omega arith) (λ e. e) refl (λ j. refl);
  posts = λ q b. goes_by w _ id (record (progress_of w id) { at = (progress_of w id).at + 1 }) (omega arith) (λ e. e) refl (λ j. refl);
  awaits = λ q b e. goes_by w _ id (record (progress_of w id) { at = (progress_of w id).at + 1 }) (omega arith) (λ e. e) refl (λ j. refl);
  lost = λ i x t p. goes_by w _ id _ (omega arith) (λ e. e) refl (λ j. refl);
  through = λ i x effect t a p. goes_by w _ id _ (omega arith) (λ e. e) refl (λ j. refl);
  unanswered = λ i x effect t a p. goes_by w _ id _ (omega arith) (λ e. e) refl (λ j. refl);
}

-- it is a step of a stream
abbrev pub IsStepOf : Happening → Type 0
IsStepOf (Step id) = Unit {0}
IsStepOf _ = ⊥

-- a step of a stream starts no plan, and takes no stream back
pub step_goes : (w : State) (id : StreamId) → GoesOn w (happens w (Step id)).1
step_goes w id = of_happens w (λ e o. IsStepOf e → GoesOn w o.1) (record {
  idle = λ e answer n s. still w;
  steps = λ j. all_fit (λ o. GoesOn w o.1) (step_by w j);
  loses = λ j after. of_any (λ o. IsStepOf (Lose j after) → GoesOn w o.1) (λ o s. absurd s);
  refills = λ j more f s. absurd s;
  arrives = λ s v f a. absurd a;
  passes_on = λ t o f a. absurd a;
  approves = λ v f a. absurd a;
  restarts = λ v f a. absurd a;
  starts = λ plan h f g a. absurd a;
}) (Step id) tt

-- a move of the network is a step of a stream, or leaves what is recorded as it is
pub move_goes : (n : Net) (e : NetEvent) → IsAdvance e → GoesOn n.w (comes n e).1.w
move_goes n (Control (Step id)) m = go (is_own n.w (Step id))
  where
    go : (b : Bool) → GoesOn n.w (if b then controlled n (happens n.w (Step id)) else (Quiet, n)).1.w
    go true = step_goes n.w id
    go false = still n.w
move_goes n (Control _) m = absurd m
move_goes n (Send id) m = still n.w
move_goes n (Ask s v) m = absurd m
move_goes n (Pass k) m = absurd m
move_goes n (Deliver k) m = go (slice_get n.sent k)
  where
    by_delivery : (o : Order) (d : Delivery) → GoesOn n.w (after_delivery n o d).1.w
    by_delivery o Delivery.Old = still n.w
    by_delivery o Delivery.Again = still n.w
    by_delivery o (Delivery.Served next) = still n.w
    by_delivery o (Delivery.Refused why) = still n.w

    go : (o : Option Order) → GoesOn n.w (at_place n delivered o).1.w
    go None = still n.w
    go (Some o) = by_delivery o (real_delivery n o)
move_goes n (Answer k) m = go (slice_get n.answers k)
  where
    by_test : (o : Order) (b : Bool) → GoesOn n.w (if b then controlled n (happens n.w (Step o.stream)) else (Quiet, n)).1.w
    by_test o true = step_goes n.w o.stream
    by_test o false = still n.w

    go : (o : Option Order) → GoesOn n.w (at_place n answer_taken o).1.w
    go None = still n.w
    go (Some o) = by_test o (is_awaited n.base n.w o)

moves_go : (es : List NetEvent) (n : Net) → AllByRecursion IsAdvance es → GoesOn n.w (net_run es n).w
moves_go [] n all = still n.w
moves_go (e ∷ es) n all = further n.w (comes n e).1.w (net_run es (comes n e).1).w (move_goes n e all.0) (moves_go es (comes n e).1 all.1)

-- a step, an order or an answer names no plan that has to be checked
pub move_fits : (c : Sizes) (e : NetEvent) → IsAdvance e → NetFits c e
move_fits c (Control (Step id)) m = tt
move_fits c (Control _) m = absurd m
move_fits c (Send id) m = tt
move_fits c (Deliver k) m = tt
move_fits c (Answer k) m = tt
move_fits c (Ask s v) m = tt
move_fits c (Pass k) m = tt

moves_fit : (c : Sizes) (es : List NetEvent) → AllByRecursion IsAdvance es → AllNetFit c es
moves_fit c [] all = tt
moves_fit c (e ∷ es) all = (move_fits c e all.0, moves_fit c es all.1)

-- a list of events behind another one
pub run_append : (es fs : List NetEvent) (n : Net) → net_run (es ++ fs) n ≡ net_run fs (net_run es n)
run_append [] fs n = refl
run_append (e ∷ es) fs n = run_append es fs (comes n e).1

-- what moves lead to is reached too
pub reached_on : (setup : Setup) (n : Net) (es : List NetEvent) → IsNetReached setup n → AllByRecursion IsAdvance es → IsNetReached setup (net_run es n)
reached_on setup n es r all = record {
  start = r.start;
  opening = r.opening;
  events = r.events ++ es;
  fit = all_append (NetFits (sizes_of setup)) r.events es r.fit (moves_fit (sizes_of setup) es all);
  state = ap (net_run es) r.state ∙ sym (run_append r.events es r.start);
}

-- ---- what is left to do

-- how many steps a stream of so many instructions has left, its end counted as one
abbrev pub rest : ℕ → Progress → ℕ
rest many x = if x.done then 0 else many + 1 - x.at

abbrev pub left_of : PlanModel → (ℕ → Progress) → ℕ
left_of plan f = sum_below (length plan.streams) (λ i. rest (length (code_at plan i)) (f i))

abbrev pub left_by : List Start → (ℕ → ℕ → Progress) → ℕ
left_by plans f = sum_below (length plans) (λ k. left_of (slice_index_or plans k no_start).plan (f k))

-- the instructions and ends that all streams still have to make
abbrev pub left : State → ℕ
left w = left_by w.plans w.progress

rest_falls : (many : ℕ) (x y : Progress) → x.at ≤ y.at → (x.done ≡ true → y.done ≡ true) → rest many y ≤ rest many x
rest_falls many x y a d = elim (cases_Bool y.done) [
  | inl e ↦ (let z : rest many y ≡ 0 = rw e refl in omega arith)
  | inr e ↦ elim (cases_Bool x.done) [
    | inl f ↦ absurd (let z = d f in cc)
    | inr f ↦ (let z : rest many y ≡ many + 1 - y.at = rw e refl in let u : rest many x ≡ many + 1 - x.at = rw f refl in omega arith)
  ]
]

rest_drops : (many : ℕ) (x y : Progress) → x.at ≤ many → x.done ≡ false → ((y.at ≡ x.at + 1) ⊎ (y.done ≡ true)) → rest many y < rest many x
rest_drops many x y l d m = elim (cases_Bool y.done) [
  | inl e ↦ (let z : rest many y ≡ 0 = rw e refl in let u : rest many x ≡ many + 1 - x.at = rw d refl in omega arith)
  | inr e ↦ elim m [
    | inl a ↦ (let z : rest many y ≡ many + 1 - y.at = rw e refl in let u : rest many x ≡ many + 1 - x.at = rw d refl in omega arith)
    | inr f ↦ absurd (cc)
  ]
]

sum_drops : (n : ℕ) (f g : ℕ → ℕ) (k : ℕ) → k < n → ((j : ℕ) → f j ≤ g j) → f k < g k → sum_below n f < sum_below n g
sum_drops zero f g k l all d = absurd (omega arith)
sum_drops (suc n) f g k l all d = elim (cases_eq k n) [
  | inl e ↦ (let a = sum_below_le n f g all in let b : f n < g n = subst (λ m. f m < g m) e d in omega arith)
  | inr e ↦ (let a = sum_drops n f g k (omega arith) all d in let b = all n in omega arith)
]

-- what is left falls where a stream moves on
pub left_drops : (w new : State) → GoesOn w new → (k i : ℕ) → k < length w.plans → i < stream_count w k → (w.progress k i).at ≤ length (code_at (plan_at w k) i) → (w.progress k i).done ≡ false →
    HasMovedOn w (stream_id k i) new → left new < left w
left_drops w new g k i l m within d moved = subst (λ plans. left_by plans new.progress < left w) (sym g.plans)
    (sum_drops (length w.plans) (λ j. left_of (plan_at w j) (new.progress j)) (λ j. left_of (plan_at w j) (w.progress j)) k l
    (λ j. sum_below_le (stream_count w j) (λ h. rest (length (code_at (plan_at w j) h)) (new.progress j h)) (λ h. rest (length (code_at (plan_at w j) h)) (w.progress j h)) (λ h. falls j h))
    (sum_drops (stream_count w k) (λ h. rest (length (code_at (plan_at w k) h)) (new.progress k h)) (λ h. rest (length (code_at (plan_at w k) h)) (w.progress k h)) i m (falls k)
    (rest_drops (length (code_at (plan_at w k) i)) (w.progress k i) (new.progress k i) within d moved)))
  where
    falls : (j h : ℕ) → rest (length (code_at (plan_at w j) h)) (new.progress j h) ≤ rest (length (code_at (plan_at w j) h)) (w.progress j h)
    falls j h = rest_falls (length (code_at (plan_at w j) h)) (w.progress j h) (new.progress j h) (g.at (stream_id j h)) (g.done (stream_id j h))

-- ---- the end

-- if a test holds of no number below a count, it is false of each
pub none_below : (n : ℕ) (t : ℕ → Bool) → any_below n t ≡ false → (i : ℕ) → i < n → t i ≡ false
none_below zero t e i l = absurd (omega arith)
none_below (suc n) t e i l = elim (cases_Bool (t n)) [
  | inl h ↦ absurd (let z = rw h at e in cc)
  | inr h ↦ elim (cases_eq i n) [ inl q ↦ ap t q ∙ h | inr q ↦ none_below n t (rw h at e) i (omega arith) ]
]

-- some moves take a stream of a plan that isn't done further
record IsOnward (setup : Setup) (n : Net) : Type 0 where
  pub events : List NetEvent
  pub moves : AllByRecursion IsAdvance events
  pub fewer : left (net_run events n).w < left n.w

onward : (setup : Setup) (n : Net) → IsNetReached setup n → (k : ℕ) → k < length n.w.plans → is_unfinished n.w k ≡ true → IsOnward setup n
onward setup n r k l unfinished =
    let s = some_can_go_on setup n r k l unfinished in
    let v = (reached_keeps setup n.w (record_is_reached setup n r)).0 in
    let within = ((v.plans k l).streams s.0 s.1).within in
    elim s.3 [
      | inl c ↦ record {
        events = Control (Step (stream_id k s.0)) ∷ [];
        moves = (tt, tt);
        fewer = left_drops n.w _ (moves_go (Control (Step (stream_id k s.0)) ∷ []) n (tt, tt)) k s.0 l s.1 within s.2 c;
      }
      | inr c ↦ record {
        events = round_trip n (stream_id k s.0);
        moves = (tt, (tt, (tt, tt)));
        fewer = left_drops n.w _ (moves_go (round_trip n (stream_id k s.0)) n (tt, (tt, (tt, tt)))) k s.0 l s.1 within s.2 c;
      }
    ]

finish : (setup : Setup) (m : ℕ) (n : Net) → IsNetReached setup n → left n.w ≤ m → CanFinish setup n
finish setup zero n r l = elim (cases_Bool (any_below (length n.w.plans) (is_unfinished n.w))) [
  | inr e ↦ ([], tt, none_below (length n.w.plans) (is_unfinished n.w) e)
  | inl e ↦ let k = some_below (length n.w.plans) (is_unfinished n.w) e in absurd (let o = (onward setup n r k.0 k.1 k.2).fewer in omega arith)
]
finish setup (suc m) n r l = elim (cases_Bool (any_below (length n.w.plans) (is_unfinished n.w))) [
  | inr e ↦ ([], tt, none_below (length n.w.plans) (is_unfinished n.w) e)
  | inl e ↦
      let k = some_below (length n.w.plans) (is_unfinished n.w) e in
      let o = onward setup n r k.0 k.1 k.2 in
      let f = o.fewer in
      let rest = finish setup m (net_run o.events n) (reached_on setup n o.events r o.moves) (omega arith) in
      (o.events ++ rest.0, all_append IsAdvance o.events rest.0 o.moves rest.1, subst (λ (c : Net). AreDone c.w) (sym (run_append o.events rest.0 n)) rest.2)
]

-- steps, orders and answers lead on to where all plans are done
pub can_finish : EachNet CanFinish
can_finish setup n r = finish setup (left n.w) n r (omega arith)
