-- A server that no unfinished stream names is in no handover: what streams still make leads to where all plans are done, and leaves it alone.
use Rattle.std.proofs.Common.{◌≡◌, ◌≢◌, ◌≤◌, ◌⊎◌, ℕ, zero, suc, arith, inl, inr, refl, sym, ap, ◌∙◌, subst, not, Bool, true, false, true≢false, Option, Some, None, Result, Ok, Err, List, [], ◌∷◌}
use Rattle.std.specs.Prelude.{◌||◌, if◌then◌else◌, slice_get}
use Rattle.std.specs.List.{AllByRecursion, list_any}
use Rattle.std.proofs.lemmas.Bool.{and_from, and_parts, cases_Bool, eq-eqb, not-true}
use Rattle.sm_server.specs.declared.call.Cell.{Cell}
use Rattle.sm_server.specs.declared.call.Cell.TheVariants as cell
use Rattle.sm_server.specs.declared.call.Call.{Call}
use Rattle.sm_server.specs.declared.call.Refusal.{Refusal}
use Rattle.sm_server.specs.declared.call.Served.{Served}
use Rattle.sm_placement.specs.Setup.{Setup, Sizes}
use Rattle.sm_placement.specs.Place.{CallEffect, Place, called_numbered, numbered_answer_at, with_served}
use Rattle.sm_reservation.specs.Amounts.{same_listed}
use Rattle.sm_reservation.proofs.Truths.{same_server_true}
use Rattle.sm_reservation.specs.declared.stream_id.StreamId.{StreamId}
use Rattle.sm_plan_code.specs.declared.call.ServerCall.{ServerCall}
use Rattle.sm_plan_code.specs.declared.instruction.Instr.{Instr}
use Rattle.sm_plan_code.specs.Acts.{call_again, next_call}
use Rattle.sm_plan_code.specs.Instr.{Mentions, is_mentioned, names_of, shard_of}
use Rattle.sm_protocol.specs.declared.event.Passage.TheVariants.{Through}
use Rattle.sm_protocol.specs.State.{Start, State, is_begun, progress_of, stream_parts}
use Rattle.sm_protocol.specs.Happens.{Lose, Step, engages, happens}
use Rattle.sm_protocol.proofs.Cases.{IsTry, OfSteps, all_fit, of_any, of_happens}
use Rattle.sm_protocol.proofs.Invariant.{IsKept}
use Rattle.sm_protocol.proofs.LogRoom.{begun_parts, ok_is}
use Rattle.sm_protocol.proofs.Trials.{running}
use Rattle.sm_protocol.proofs.Whole.{reached_keeps}
use Rattle.sm_protocol.specs.Laws.{IsReached}
use Rattle.laws_network.specs.Net.{Answer, Ask, Control, Deliver, Delivery, Net, NetEvent, Order, Pass, Quiet, Send, after_delivery, answer_taken, at_place, cell_above, comes, controlled, delivered, is_awaited, is_own, net_run, real_delivery}
use Rattle.laws_network.specs.Laws.{IsAdvance, IsNetReached}
use Rattle.laws_network.proofs.Apart.{mentions}
use Rattle.laws_network.proofs.Behind.{IsUnnamed, any_at, none_for}
use Rattle.laws_network.proofs.Calm.{IsCalm}
use Rattle.laws_network.proofs.Finish.{GoesOn, IsStepOf, can_finish, move_goes, reached_on}
use Rattle.laws_network.proofs.Overlay.{put2-other}
use Rattle.laws_network.proofs.Raised.{net_is_calm, real_is_near, record_is_reached}
use Rattle.laws_network.proofs.Resting.{IsOutside, outside}

-- ---- who is named

-- a stream that names a server then named it before
pub named_before : (w new : State) (g : GoesOn w new) (v : ℕ) (id : StreamId) → engages new v id ≡ true → engages w v id ≡ true
named_before w new g v id e = go (progress_of w id).done refl
  where
    p : (not (progress_of new id).done ≡ true) × (list_any (is_mentioned v) (stream_parts new id).code ≡ true)
    p = and_parts (not (progress_of new id).done) (list_any (is_mentioned v) (stream_parts new id).code) e

    code : list_any (is_mentioned v) (stream_parts w id).code ≡ true
    code = ap (λ (plans : List Start). let u : State = record w { plans = plans } in list_any (is_mentioned v) (stream_parts u id).code) (sym g.plans) ∙ p.1

    go : (b : Bool) → (progress_of w id).done ≡ b → engages w v id ≡ true
    go true d = absurd (let z : (progress_of new id).done ≡ true = g.done id d in let q = not-true (progress_of new id).done p.0 in cc)
    go false d = and_from (not (progress_of w id).done) _ (ap not d) code

-- and was begun before
pub begun_before : (w new : State) (g : GoesOn w new) (id : StreamId) → is_begun new id ≡ true → is_begun w id ≡ true
begun_before w new g id b = ap (λ (plans : List Start). let u : State = record w { plans = plans } in is_begun u id) (sym g.plans) ∙ b

-- so who is not named is not named later
unnamed_on : (w new : State) (v : ℕ) → GoesOn w new → IsUnnamed w v → IsUnnamed new v
unnamed_on w new v g free id b = elim (cases_Bool (engages new v id)) [
  | inr e ↦ e
  | inl e ↦ absurd (true≢false (sym (named_before w new g v id e) ∙ free id (begun_before w new g id b)))
]

-- ---- a step

-- a call leaves the cells of the other servers as they are
other_cells : (c : Sizes) (p : Place) (s v : ℕ) (call : Call) (number : ℕ) (effect : CallEffect) → called_numbered c p s v call number ≡ Ok effect → (r u : ℕ) → u ≢ v → effect.place.cells r u ≡ p.cells r u
other_cells c p s v call number effect e r u n = go (numbered_answer_at c p s v call number) e
  where
    go : (a : Result Served Refusal) → with_served p s v a ≡ Ok effect → effect.place.cells r u ≡ p.cells r u
    go (Err why) f = absurd (cc)
    go (Ok x) f = ap (λ (y : CallEffect). y.place.cells r u) (sym (ok_is _ effect f)) ∙ put2-other p.cells s v x.cell r u (λ q. n q.1)

-- a stream that tries a call names its server
names : (w : State) (id : StreamId) (i : Instr) (x : ServerCall) → IsTry w id i x → (progress_of w id).ahead ≡ false → engages w x.server id ≡ true
names w id i x t unmade =
    let next : next_call w.numbers i ≡ Some x = sym (ap (λ b. if b then call_again w.numbers i (shard_of i) else next_call w.numbers i) unmade) ∙ t.call_is in
    let m = mentions w.numbers i x t.call next in
    let named : is_mentioned x.server i ≡ true = (let s : same_listed (names_of i).first (Some x.server) ≡ true = rw (m, eq-eqb x.server x.server refl) refl in rw s refl) in
    and_from (not (progress_of w id).done) _ (ap not t.before.running) (any_at (is_mentioned x.server) (stream_parts w id).code (progress_of w id).at i t.before.next_is named)

-- the cells of the server are as they were
abbrev IsLeft : State → ℕ → State → Type 0
IsLeft w v new = (s : ℕ) → new.place.cells s v ≡ w.place.cells s v

module _ (w : State) (calm : IsCalm w) (v : ℕ) (free : IsUnnamed w v) where
  by_step : (id : StreamId) → OfSteps w id Through (λ o. IsLeft w v o.1)
  by_step id = record {
    idle = λ answer s. refl;
    refused = λ i x why t e s. refl;
    at_end = λ b s. refl;
    publishes = λ i s server b c r. refl;
    posts = λ q b s. refl;
    awaits = λ q b e s. refl;
    lost = λ i x t p s. refl;
    through = λ i x effect t a p s. other_cells w.sizes w.place x.shard x.server x.call _ effect a s v
        (λ e. absurd (true≢false (sym (subst (λ u. engages w u id ≡ true) (sym e) (names w id i x t (calm.unmade id))) ∙ free id t.before.begun)));
    unanswered = λ i x effect t a p. absurd (cc);
  }

  -- a step of a stream leaves a server that is not named alone
  step_leaves : (id : StreamId) → IsLeft w v (happens w (Step id)).1
  step_leaves id = of_happens w (λ e o. IsStepOf e → IsLeft w v o.1) (record {
    idle = λ e answer n q s. refl;
    steps = λ j. all_fit (λ o. IsLeft w v o.1) (by_step j);
    loses = λ j after. of_any (λ o. IsStepOf (Lose j after) → IsLeft w v o.1) (λ o s. absurd s);
    refills = λ j more f s. absurd s;
    arrives = λ s u f a. absurd a;
    passes_on = λ t o f a. absurd a;
    approves = λ u f a. absurd a;
    restarts = λ u f a. absurd a;
    starts = λ plan h f g a. absurd a;
  }) (Step id) tt

-- ---- moves

-- so does a move of the network
move_leaves : (n : Net) (e : NetEvent) → IsAdvance e → IsCalm n.w → (v : ℕ) → IsUnnamed n.w v → IsLeft n.w v (comes n e).1.w
move_leaves n (Control (Step id)) m calm v free = go (is_own n.w (Step id))
  where
    go : (b : Bool) → IsLeft n.w v (if b then controlled n (happens n.w (Step id)) else (Quiet, n)).1.w
    go true = step_leaves n.w calm v free id
    go false = λ s. refl
move_leaves n (Control _) m calm v free = absurd m
move_leaves n (Send id) m calm v free = λ s. refl
move_leaves n (Ask s u) m calm v free = absurd m
move_leaves n (Pass k) m calm v free = absurd m
move_leaves n (Deliver k) m calm v free = go (slice_get n.sent k)
  where
    by_delivery : (o : Order) (d : Delivery) → IsLeft n.w v (after_delivery n o d).1.w
    by_delivery o Delivery.Old s = refl
    by_delivery o Delivery.Again s = refl
    by_delivery o (Delivery.Served next) s = refl
    by_delivery o (Delivery.Refused why) s = refl

    go : (o : Option Order) → IsLeft n.w v (at_place n delivered o).1.w
    go None = λ s. refl
    go (Some o) = by_delivery o (real_delivery n o)
move_leaves n (Answer k) m calm v free = go (slice_get n.answers k)
  where
    by_test : (o : Order) (b : Bool) → IsLeft n.w v (if b then controlled n (happens n.w (Step o.stream)) else (Quiet, n)).1.w
    by_test o true = step_leaves n.w calm v free o.stream
    by_test o false = λ s. refl

    go : (o : Option Order) → IsLeft n.w v (at_place n answer_taken o).1.w
    go None = λ s. refl
    go (Some o) = by_test o (is_awaited n.base n.w o)

moves_leave : (setup : Setup) (es : List NetEvent) (n : Net) → IsNetReached setup n → AllByRecursion IsAdvance es → (v : ℕ) → IsUnnamed n.w v → IsLeft n.w v (net_run es n).w
moves_leave setup [] n r all v free s = refl
moves_leave setup (e ∷ es) n r all v free s =
    moves_leave setup es (comes n e).1 (reached_on setup n (e ∷ []) r (all.0, tt)) all.1 v (unnamed_on n.w (comes n e).1.w v (move_goes n e all.0) free) s
    ∙ move_leaves n e all.0 (net_is_calm setup n r) v free s

-- a server that no unfinished stream names is recorded in no handover
pub unnamed_is_outside : (setup : Setup) (n : Net) → IsNetReached setup n → (v : ℕ) → IsUnnamed n.w v → (s : ℕ) → IsOutside (n.w.place.cells s v)
unnamed_is_outside setup n r v free s =
    let end = can_finish setup n r in
    let last = net_run end.0 n in
    subst IsOutside (moves_leave setup end.0 n r end.1 v free s) (outside setup last.w (record_is_reached setup last (reached_on setup n end.0 r end.1)) end.2 s v)

above_outside : (base : ℕ) (c : Cell) → IsOutside c → IsOutside (cell_above base c)
above_outside base cell.Absent h = h
above_outside base cell.Secondary h = h
above_outside base cell.Primary h = h
above_outside base (cell.Prepared a n) h = absurd h
above_outside base (cell.Forwarding a n) h = absurd h

-- nor is it in one above a base
pub unnamed_is_recorded_outside : (setup : Setup) (n : Net) → IsNetReached setup n → (v : ℕ) → IsUnnamed n.w v → (s : ℕ) → IsOutside (cell_above n.base (n.w.place.cells s v))
unnamed_is_recorded_outside setup n r v free s = above_outside n.base (n.w.place.cells s v) (unnamed_is_outside setup n r v free s)

-- and it is in none
pub unnamed_is_really_outside : (setup : Setup) (n : Net) → IsNetReached setup n → (v : ℕ) → IsUnnamed n.w v → (s : ℕ) → IsOutside (n.cells s v)
unnamed_is_really_outside setup n r v free s = elim (real_is_near setup n r s v) [
  | inl e ↦ subst IsOutside (sym e) (unnamed_is_recorded_outside setup n r v free s)
  | inr f ↦ absurd (none_for n.base n.w v free f.stream f.order f.current f.server)
]

-- ---- who is down

-- one of a list passes
some_passes : {A : Type 0} (t : A → Bool) (xs : List A) → list_any t xs ≡ true → (n : ℕ) × (x : A) × (slice_get xs n ≡ Some x) × (t x ≡ true)
some_passes t [] e = absurd (cc)
some_passes t (x ∷ xs) e = elim (cases_Bool (t x)) [
  | inl y ↦ (zero, x, refl, y)
  | inr n ↦ let rest = some_passes t xs (ap (λ b. b || list_any t xs) (sym n) ∙ e) in (suc rest.0, rest.1, rest.2, rest.3)
]

mentions_by : (v : ℕ) (i : Instr) → is_mentioned v i ≡ true → Mentions (names_of i) v
mentions_by v i e = elim (cases_Bool (same_listed (names_of i).first (Some v))) [
  | inl y ↦ inl (same_server_true (names_of i).first (Some v) y)
  | inr n ↦ inr (same_server_true (names_of i).second (Some v) (ap (λ b. b || same_listed (names_of i).second (Some v)) (sym n) ∙ e))
]

-- no unfinished stream names a server that is recorded as down, or a number that is no server's
pub away_is_unnamed : (setup : Setup) (w : State) → IsReached setup w → (v : ℕ) → (w.place.down v ≡ true) ⊎ (w.sizes.servers ≤ v) → IsUnnamed w v
away_is_unnamed setup w r v away id b = elim (cases_Bool (engages w v id)) [
  | inr n ↦ n
  | inl y ↦ absurd (named y)
]
  where
    kept : IsKept w
    kept = (reached_keeps setup w r).0

    named : engages w v id ≡ true → ⊥
    named y =
        let p = and_parts (not (progress_of w id).done) (list_any (is_mentioned v) (stream_parts w id).code) y in
        let one = some_passes (is_mentioned v) (stream_parts w id).code p.1 in
        let q = begun_parts w id b in
        let reach = ((running w kept id (record { plan = q.0; stream = q.1 })).streams id.stream q.1).reachable (not-true (progress_of w id).done p.0) one.0 one.1 one.2 in
        let mentioned = mentions_by v one.1 one.3 in
        elim away [
          | inl d ↦ absurd (true≢false (sym d ∙ reach.up v mentioned))
          | inr l ↦ absurd (let k = reach.known v mentioned in omega arith)
        ]
