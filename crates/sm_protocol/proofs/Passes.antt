-- The passes that the log records, who executes requests, and that each ticket is spent by one answer at most: that answer is
-- recorded, and a ticket whose passing on is recorded is not open.
use Rattle.sm_protocol.proofs.Below.{◌≡◌, ℕ, true, false, refl, sym, ap, ◌∙◌, subst, Option, Some, None, [], ◌∷◌, ◌++◌, if◌then◌else◌, slice_index_or, option_map, same_Some, none-some, Setup, sizes_of, Place, StreamId, one_serves, CanBePassed, passed_by_lead, forwarding_passes, inl, inr, arith, List, ◌==◌, and_parts, eqb-true, eq-eqb, cases_Bool, list_any-append, bit}
use Rattle.sm_protocol.proofs.Words.{Event, Passage, Through, LostBefore, LostAfter, Played, Logged, Ticket, passes, pass_of, pass_of_event, is_open_ticket, State, opened, Answered, Happening, reply_of, happens, spends, IsServing, IsOpening, asked, is_pass_on, is_passed_on, PassOn, spends_at, times_spent, TicketsOnce}
use Rattle.sm_protocol.specs.declared.event.Event.TheVariants as event
use Rattle.sm_protocol.specs.declared.event.Played.TheVariants as played
use Rattle.sm_protocol.proofs.Cases.{OfSteps, IsQuiet, of_happens, of_any}
use Rattle.sm_protocol.proofs.Scripts.{pass_push}
use Rattle.sm_protocol.proofs.Replays.{open_ticket}
use Rattle.sm_protocol.proofs.Requests.{IsLed, PassesFit, reply_serves, reply_forwards}
use Rattle.sm_protocol.proofs.Turns.{turns}

-- a number under which a request may have been passed on stays one
abbrev pub KeepsPassable : State → State → Type 0
KeepsPassable w new = (s m : ℕ) → CanBePassed (w.place.cells s) (w.numbers s) m → CanBePassed (new.place.cells s) (new.numbers s) m

line_fits : (w new : State) (x : Logged) → new.log ≡ w.log ++ x ∷ [] → KeepsPassable w new → PassesFit w →
    ((t : Ticket) → pass_of (passes w.log) x.answer x.event ≡ Some t → CanBePassed (w.place.cells t.shard) (w.numbers t.shard) t.number) → PassesFit new
line_fits w new x log keeps h last = record {
  fit = λ n t e. keeps t.shard t.number (
      pass_push w.log x (λ k t. CanBePassed (w.place.cells t.shard) (w.numbers t.shard) t.number) h.fit last n t (ap (λ l. slice_index_or (passes l) n None) (sym log) ∙ e)
      );
}

passes_by_steps : (w : State) (id : StreamId) (passage : Passage) → PassesFit w → OfSteps w id passage (λ o. KeepsPassable w o.1 → PassesFit o.1)
passes_by_steps w id passage h = record {
  idle = λ answer f. h;
  refused = λ i x why t e f. h;
  at_end = λ b f. line_fits w _ (record { event = event.Step id; answer = played.Done }) refl f h (λ t e. absurd (cc));
  publishes = λ i s server b c f. line_fits w _ (record { event = event.Step id; answer = played.Moved }) refl f h (λ t e. absurd (cc));
  posts = λ q b f. line_fits w _ (record { event = event.Step id; answer = played.Moved }) refl f h (λ t e. absurd (cc));
  awaits = λ q b e f. line_fits w _ (record { event = event.Step id; answer = played.Moved }) refl f h (λ t e. absurd (cc));
  lost = λ i x t p f. line_fits w _ (record { event = event.Lose id false; answer = played.Lost }) refl f h (λ t e. absurd (cc));
  through = λ i x effect t a p f. line_fits w _ (record { event = event.Step id; answer = played.Moved }) refl f h (λ t e. absurd (cc));
  unanswered = λ i x effect t a p f. line_fits w _ (record { event = event.Lose id true; answer = played.Lost }) refl f h (λ t e. absurd (cc));
}

-- the pass of a request that a server answers so
pass_fits : (w : State) (s v : ℕ) (sent : Option Ticket) (x : Event) (a : Played) → IsLed w → reply_of w s v sent ≡ a →
    ((to m place : ℕ) (t : Ticket) → pass_of_event (passes w.log) to m place x ≡ Some t → (t.shard ≡ s) × (t.number ≡ m)) →
    (t : Ticket) → pass_of (passes w.log) a x ≡ Some t → CanBePassed (w.place.cells t.shard) (w.numbers t.shard) t.number
pass_fits w s v sent x (played.Passed to m place) led e shape t g =
    let p = shape to m place t g in
    let f = (reply_forwards w s v sent to m place e).0 in
    let d = led.described s in
    let c = passed_by_lead (led.leads s) (w.numbers s) (w.place.cells s) d m (forwarding_passes (led.leads s) (w.numbers s) (w.place.cells s) d v to m f) in
    subst (λ k. CanBePassed (w.place.cells k) (w.numbers k) t.number) (sym p.0) (subst (λ k. CanBePassed (w.place.cells s) (w.numbers s) k) (sym p.1) c)
pass_fits w s v sent x _ led e shape t g = absurd (cc)

-- an event keeps that the numbers of passes fit, where its step keeps the numbers
pub passes_kept : (w : State) (e : Happening) → IsLed w → KeepsPassable w (happens w e).1 → PassesFit w → PassesFit (happens w e).1
passes_kept w e led keeps h = of_happens w (λ e o. KeepsPassable w o.1 → PassesFit o.1) (record {
  idle = λ e answer n f. h;
  steps = λ id. passes_by_steps w id Through h;
  loses = λ id after. passes_by_steps w id (if after then LostAfter else LostBefore) h;
  refills = λ id more n f. line_fits w _ (record { event = event.Refill id more; answer = played.Refilled }) refl f h (λ t e. absurd (cc));
  arrives = λ s v n f. line_fits w _ (record { event = event.Arrive s v; answer = reply_of w s v None }) refl f h (pass_fits w s v None (event.Arrive s v) (reply_of w s v None) led refl (λ to m place t g. arrived s v to m place t g));
  passes_on = λ q o n f. line_fits w _ (record { event = event.PassOn q.place; answer = reply_of w q.shard q.target (Some q) }) refl f h
      (pass_fits w q.shard q.target (Some q) (event.PassOn q.place) (reply_of w q.shard q.target (Some q)) led refl (λ to m place t g. passed q to m place t o g));
  approves = λ v n f. line_fits w _ (record { event = event.Approve v; answer = played.Approved }) refl f h (λ t e. absurd (cc));
  restarts = λ v n f. line_fits w _ (record { event = event.Done v; answer = played.Up }) refl f h (λ t e. absurd (cc));
  starts = λ plan n l m f. record { fit = h.fit };
}) e keeps
  where
    arrived : (s v to m place : ℕ) (t : Ticket) → pass_of_event (passes w.log) to m place (event.Arrive s v) ≡ Some t → (t.shard ≡ s) × (t.number ≡ m)
    arrived s v to m place t g = let f = same_Some _ t g in (sym (ap (λ (x : Ticket). x.shard) f), sym (ap (λ (x : Ticket). x.number) f))

    passed : (q : Ticket) (to m place : ℕ) (t : Ticket) → is_open_ticket w.log q ≡ true → pass_of_event (passes w.log) to m place (event.PassOn q.place) ≡ Some t → (t.shard ≡ q.shard) × (t.number ≡ m)
    passed q to m place t o g =
        let a : Option Ticket → Option Ticket = option_map (λ (x : Ticket). let y : Ticket = record { place = place; shard = x.shard; sender = x.target; target = to; number = m } in y) in
        let b : a (Some q) ≡ Some t = sym (ap a (open_ticket w.log q o).pass) ∙ g in
        let f = same_Some _ t b in
        (sym (ap (λ (x : Ticket). x.shard) f), sym (ap (λ (x : Ticket). x.number) f))

-- who executes a request is the one server that serves its shard
pub serves_by_passes : (w : State) → IsLed w → PassesFit w → (e : Happening) (s v : ℕ) → asked e ≡ Some s → (happens w e).0 ≡ Answered (played.Executed v) →
    IsServing w.place s v × ((u : ℕ) → IsServing w.place s u → u ≡ v)
serves_by_passes w led h e = of_happens w (λ e o. (s v : ℕ) → asked e ≡ Some s → o.0 ≡ Answered (played.Executed v) → IsServing w.place s v × ((u : ℕ) → IsServing w.place s u → u ≡ v)) (record {
  idle = λ e answer n s v a q. absurd (let f : answer ≡ played.Executed v = cc in let g : spends (played.Executed v) ≡ false = subst IsQuiet f n in cc);
  steps = λ id. by_steps id Through;
  loses = λ id after. by_steps id (if after then LostAfter else LostBefore);
  refills = λ id more n s v a q. absurd (cc);
  arrives = λ r u n s v a q. requests r u None s v (same_Some r s a) (λ t g. absurd (cc)) (answered (reply_of w r u None) v q);
  passes_on = λ t o n s v a q. requests t.shard t.target (Some t) s v (same_Some t.shard s a)
      (λ y g. subst (λ z. CanBePassed (w.place.cells t.shard) (w.numbers t.shard) z) (ap (λ (x : Ticket). x.number) (same_Some t y g)) (h.fit t.place t (open_ticket w.log t o).pass))
      (answered (reply_of w t.shard t.target (Some t)) v q);
  approves = λ u n s v a q. absurd (cc);
  restarts = λ u n s v a q. absurd (cc);
  starts = λ plan n l m s v a q. absurd (cc);
}) e
  where
    answered : (x : Played) (v : ℕ) → Answered x ≡ Answered (played.Executed v) → x ≡ played.Executed v
    answered x v q = cc

    by_steps : (id : StreamId) (passage : Passage) → OfSteps w id passage (λ o. (s v : ℕ) → ◌≡◌ {A = Option ℕ} None (Some s) → o.0 ≡ Answered (played.Executed v) → IsServing w.place s v × ((u : ℕ) → IsServing w.place s u → u ≡ v))
    by_steps id passage = record {
      idle = λ answer s v a q. absurd (cc);
      refused = λ i x why t e s v a q. absurd (cc);
      at_end = λ b s v a q. absurd (cc);
      publishes = λ i r server b c s v a q. absurd (cc);
      posts = λ k b s v a q. absurd (cc);
      awaits = λ k b e s v a q. absurd (cc);
      lost = λ i x t p s v a q. absurd (cc);
      through = λ i x effect t f p s v a q. absurd (cc);
      unanswered = λ i x effect t f p s v a q. absurd (cc);
    }

    requests : (r u : ℕ) (sent : Option Ticket) (s v : ℕ) → r ≡ s → ((t : Ticket) → sent ≡ Some t → CanBePassed (w.place.cells r) (w.numbers r) t.number) → reply_of w r u sent ≡ played.Executed v →
        IsServing w.place s v × ((x : ℕ) → IsServing w.place s x → x ≡ v)
    requests r u sent s v same given q =
        let a = reply_serves w r u sent led given v q in
        let b : IsServing w.place s v = subst (λ z. IsServing w.place z v) same (subst (λ z. IsServing w.place r z) (sym a.0) a.1) in
        (b, λ x p. one_serves (led.leads s) (w.numbers s) (w.place.cells s) (led.described s) x v p b)

-- at an opening all recorded passes fit: there are none
pub passes_at_opening : (setup : Setup) (p : Place) (room : ℕ) → IsOpening setup p room → PassesFit (opened (sizes_of setup) p room)
passes_at_opening setup p room o = record { fit = λ n t e. absurd (none-some t e) }

-- ---- tickets

-- what was passed on stays so
passed_push : (log : List Logged) (x : Logged) (place : ℕ) → is_passed_on log place ≡ true → is_passed_on (log ++ x ∷ []) place ≡ true
passed_push log x place p = list_any-append (λ (y : Logged). is_pass_on place y.event) log (x ∷ []) ∙ rw p refl

passed_stays : (w : State) (e : Happening) (place : ℕ) → is_passed_on w.log place ≡ true → is_passed_on (happens w e).1.log place ≡ true
passed_stays w e place p = elim (turns w e) [
  | inl same ↦ subst (λ (x : State). is_passed_on x.log place ≡ true) (sym same) p
  | inr (inl line) ↦ subst (λ log. is_passed_on log place ≡ true) (sym line.log) (passed_push w.log _ place p)
  | inr (inr start) ↦ subst (λ (x : State). is_passed_on x.log place ≡ true) (sym start.state) p
]

quiet_spends : (answer : Played) → IsQuiet answer → spends answer ≡ false
quiet_spends (played.Begun number) q = absurd q
quiet_spends _ q = q

idle_spends : (place : ℕ) (e : Happening) (answer : Played) → IsQuiet answer → spends_at place e (Answered answer) ≡ true → ⊥
idle_spends place (PassOn t) answer q s = let a = (and_parts (t.place == place) (spends answer) s).1 in let b = quiet_spends answer q in cc
idle_spends place _ answer q s = cc

-- an answer that spends a ticket is recorded, and was not before
spent_by : (w : State) (e : Happening) (place : ℕ) → spends_at place e (happens w e).0 ≡ true → (is_passed_on w.log place ≡ false) × (is_passed_on (happens w e).1.log place ≡ true)
spent_by w e place = of_happens w (λ e o. spends_at place e o.0 ≡ true → (is_passed_on w.log place ≡ false) × (is_passed_on o.1.log place ≡ true)) (record {
  idle = λ e answer q s. absurd (idle_spends place e answer q s);
  steps = λ id. of_any _ (λ o s. absurd (cc));
  loses = λ id after. of_any _ (λ o s. absurd (cc));
  refills = λ id more f s. absurd (cc);
  arrives = λ r u f s. absurd (cc);
  passes_on = λ t o f s.
      let here : t.place ≡ place = eqb-true t.place place (and_parts (t.place == place) _ s).0 in
      let unspent = (open_ticket w.log t o).unspent in
      let line : Logged = record { event = event.PassOn t.place; answer = reply_of w t.shard t.target (Some t) } in
      subst (λ k. (is_passed_on w.log k ≡ false) × (is_passed_on (w.log ++ line ∷ []) k ≡ true)) here
      (unspent, list_any-append (λ (y : Logged). is_pass_on t.place y.event) w.log (line ∷ []) ∙ rw (unspent, eq-eqb t.place t.place refl) refl);
  approves = λ u f s. absurd (cc);
  restarts = λ u f s. absurd (cc);
  starts = λ plan h f g s. absurd (cc);
}) e

none_spent : (es : List Happening) (w : State) (place : ℕ) → is_passed_on w.log place ≡ true → times_spent place es w ≡ 0
none_spent [] w place p = refl
none_spent (e ∷ es) w place p = elim (cases_Bool (spends_at place e (happens w e).0)) [
  | inl s ↦ absurd (let a = (spent_by w e place s).0 in cc)
  | inr s ↦ let a : bit (spends_at place e (happens w e).0) ≡ 0 = ap bit s in let b = none_spent es (happens w e).1 place (passed_stays w e place p) in omega arith
]

-- along every list of events one answer at most spends a ticket of each place of the log
pub tickets_once : TicketsOnce
tickets_once w [] place = omega arith
tickets_once w (e ∷ es) place = elim (cases_Bool (spends_at place e (happens w e).0)) [
  | inl s ↦ let a : bit (spends_at place e (happens w e).0) ≡ 1 = ap bit s in let b = none_spent es (happens w e).1 place (spent_by w e place s).1 in omega arith
  | inr s ↦ let a : bit (spends_at place e (happens w e).0) ≡ 0 = ap bit s in let b = tickets_once (happens w e).1 es place in omega arith
]
