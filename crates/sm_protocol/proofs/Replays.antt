-- The log replays to the state.
use Rattle.sm_protocol.proofs.Below.{◌≡◌, ℕ, ◌+◌, ◌<◌, ◌≤◌, Bool, true, false, cond, refl, sym, ap, ◌∙◌, inl, inr, ◌⊎◌, subst, arith, Option, Some, None, List, [], ◌∷◌, ◌++◌, length-append, ◌==◌, length, count_by, slice_get, slice_index_or, option_map, and_parts, eqb-true, cases_lt, cases_eq, not-true, or_parts, sum_by_push, sum_by-cons, slice_get_past, same_Some, Setup, sizes_of, Place, PlanModel, first_holding, option_map_or}
use Rattle.sm_protocol.proofs.Words.{Event, Played, Logged, Ticket, passes, pass_of, pass_of_event, same_ticket, is_open_ticket, is_pass_on, is_passed_on, State, Start, opened, pool, Outcome, Answered, Happening, Begin, started, happens, IsAccepted, happening_of, script, IsAcceptedStart, Replays, IsRequestTo, IsPass, IsLegal, IsOpening, IsReached, IsCheckedPlan, FitsConfig}
use Rattle.sm_protocol.specs.declared.event.Event.TheVariants as event
use Rattle.sm_protocol.specs.declared.event.Played.TheVariants as played
use Rattle.sm_protocol.proofs.Reached.{IsOfOneMachine, same_machine, by_events}
use Rattle.sm_protocol.proofs.Turns.{IsNewLine, IsNewStart, IsRecordOf, turns}
use Rattle.sm_protocol.proofs.Scripts.{AreBegunBy, begun_by_more, begun_by_push, start_line, script_parts, script_is, script_of_line, script_of_start, passes_before, pass_below, pass_push, slice_get_before, slice_get_last}

-- ---- open tickets

-- an open ticket is that of an earlier pass, which was not passed on yet
pub record IsOpenTicket (log : List Logged) (t : Ticket) : Type 0 where
  pub earlier : t.place < length log
  pub pass : slice_index_or (passes log) t.place None ≡ Some t
  pub unspent : is_passed_on log t.place ≡ false

same_parts : (a b : Ticket) → same_ticket a b ≡ true → a ≡ b
same_parts a b e =
    let p = and_parts (a.place == b.place) _ e in
    let q = and_parts (a.shard == b.shard) _ p.1 in
    let r = and_parts (a.sender == b.sender) _ q.1 in
    let s = and_parts (a.target == b.target) _ r.1 in
    let place = eqb-true a.place b.place p.0 in
    let shard = eqb-true a.shard b.shard q.0 in
    let sender = eqb-true a.sender b.sender r.0 in
    let target = eqb-true a.target b.target s.0 in
    let number = eqb-true a.number b.number s.1 in
    λ i. record { place = place i; shard = shard i; sender = sender i; target = target i; number = number i }

-- a ticket that tests as open is that of an earlier pass, which was not passed on yet
pub open_ticket : (log : List Logged) (t : Ticket) → is_open_ticket log t ≡ true → IsOpenTicket log t
open_ticket log t e =
    let parts = and_parts (option_map_or (λ pass. same_ticket pass t) (slice_index_or (passes log) t.place None) false) _ e in
    let pass = by_pass (slice_index_or (passes log) t.place None) refl parts.0 in
    record { earlier = pass_below log t.place t pass; pass = pass; unspent = not-true (is_passed_on log t.place) parts.1 }
  where
    by_pass : (o : Option Ticket) → slice_index_or (passes log) t.place None ≡ o → option_map_or (λ pass. same_ticket pass t) o false ≡ true → slice_index_or (passes log) t.place None ≡ Some t
    by_pass None f g = absurd (cc)
    by_pass (Some a) f g = f ∙ ap Some (same_parts a t g)

-- ---- the invariant

-- what an event at this place of the log passes on was passed earlier
abbrev pub IsEarlierIn : List Logged → ℕ → Type 0
IsEarlierIn log n = (x : Logged) (place : ℕ) → slice_get log n ≡ Some x → x.event ≡ event.PassOn place →
    (place < n) × ((t : Ticket) × (slice_index_or (passes log) place None ≡ Some t))

-- the ticket of the pass at a place of the log names that place, and tells of that pass
abbrev pub IsNamed : List Logged → ℕ → Ticket → Type 0
IsNamed log n t = (t.place ≡ n) × IsPass log t

-- The recorded events lead to the state. Plans were begun when the log was no longer; what is passed on was passed before, and
-- nothing is passed on twice.
pub record IsReplayed (w : State) : Type 0 where
  pub begun : AreBegunBy (length w.log) w.plans
  pub earlier : (n : ℕ) → IsEarlierIn w.log n
  pub named : (n : ℕ) (t : Ticket) → slice_index_or (passes w.log) n None ≡ Some t → IsNamed w.log n t
  pub once : (place : ℕ) → count_by (λ (x : Logged). is_pass_on place x.event) w.log ≤ 1
  pub replays : Replays (opened w.sizes w.opening w.room) (script w) w

pub replays_push : (from : State) (xs : List (Happening × Played)) (w : State) (x : Happening × Played) (new : State) → Replays from xs w →
    happens w x.0 ≡ (Answered x.1, new) → IsAcceptedStart w x.0 → Replays from (xs ++ x ∷ []) new
replays_push from [] w x new r e a =
    let f : happens from x.0 ≡ (Answered x.1, new) = ap (λ y. happens y x.0) r ∙ e in
    (ap (λ o. o.0) f, subst (λ y. IsAcceptedStart y x.0) (sym r) a, ap (λ o. o.1) f)
replays_push from (y ∷ xs) w x new r e a = (r.0, r.1, replays_push (happens from y.0).1 xs w x new r.2 e a)

-- ---- a recorded event keeps it

-- what a recorded event passes on
abbrev pub PassesOpen : List Logged → Event → Type 0
PassesOpen log x = (place : ℕ) → x ≡ event.PassOn place →
    (place < length log) × ((t : Ticket) × (slice_index_or (passes log) place None ≡ Some t)) × (is_passed_on log place ≡ false)

passes_open : (w : State) (e : Happening) (x : Event) → IsRecordOf w e x → PassesOpen w.log x
passes_open w e x (inl h) place q = absurd (let f : happening_of [] (event.PassOn place) ≡ Some e = ap (happening_of []) (sym q) ∙ h [] in cc)
passes_open w e x (inr (t, p, q, o)) place r =
    let f : event.PassOn t.place ≡ event.PassOn place = sym q ∙ r in
    let g : t.place ≡ place = cc in
    let a = open_ticket w.log t o in
    subst (λ k. (k < length w.log) × ((t : Ticket) × (slice_index_or (passes w.log) k None ≡ Some t)) × (is_passed_on w.log k ≡ false)) g (a.earlier, (t, a.pass), a.unspent)

line_of : (w : State) (e : Happening) (x : Event) (y : Logged) → IsRecordOf w e x → happening_of (passes (w.log ++ y ∷ [])) x ≡ Some e
line_of w e x y (inl h) = h (passes (w.log ++ y ∷ []))
line_of w e x y (inr (t, p, q, o)) =
    let a = open_ticket w.log t o in
    let f = passes_before w.log y t.place a.earlier in
    rw (q, p, f, a.pass) refl

earlier_push : (log : List Logged) (x : Logged) → ((n : ℕ) → IsEarlierIn log n) → PassesOpen log x.event → (n : ℕ) → IsEarlierIn (log ++ x ∷ []) n
earlier_push log x all last n y place g p = elim (cases_lt n (length log)) [
  | inl l ↦
      let a = all n y place (sym (slice_get_before log (x ∷ []) n l) ∙ g) p in
      let b = a.0 in
      (b, (a.1.0, passes_before log x place (omega arith) ∙ a.1.1))
  | inr l ↦ elim (cases_eq n (length log)) [
    | inl e ↦
        let h : Some x ≡ Some y = sym (slice_get_last log x) ∙ ap (slice_get (log ++ x ∷ [])) (sym e) ∙ g in
        let i : x ≡ y = same_Some x y h in
        let a = last place (ap (λ z. z.event) i ∙ p) in
        let b = a.0 in
        (omega arith, (a.1.0, passes_before log x place b ∙ a.1.1))
    | inr e ↦
        let k = length-append log (x ∷ []) in
        let h : slice_get (log ++ x ∷ []) n ≡ None = slice_get_past (log ++ x ∷ []) n (omega arith) in
        absurd (cc)
  ]
]

-- ---- tickets name passes

request_stays : (log : List Logged) (x : Logged) (e : Event) (s v : ℕ) → IsRequestTo (passes log) e s v → IsRequestTo (passes (log ++ x ∷ [])) e s v
request_stays log x (event.Arrive r u) s v h = h
request_stays log x (event.PassOn place) s v h = (h.0, passes_before log x place (pass_below log place h.0 h.1) ∙ h.1, h.2, h.3)
request_stays log x _ s v h = absurd h

named_stays : (log : List Logged) (x : Logged) (n : ℕ) (t : Ticket) → IsNamed log n t → slice_index_or (passes log) n None ≡ Some t → IsNamed (log ++ x ∷ []) n t
named_stays log x n t h e = (
  h.0,
  record {
    line = h.1.line;
    at = slice_get_before log (x ∷ []) t.place (subst (λ k. k < length log) (sym h.0) (pass_below log n t e)) ∙ h.1.at;
    request = request_stays log x h.1.line.event t.shard t.sender h.1.request;
    answer = h.1.answer;
  },
)

-- the pass that a request makes
told_by : (tickets : List (Option Ticket)) (to m place : ℕ) (e : Event) (t : Ticket) → pass_of_event tickets to m place e ≡ Some t →
    (t.target ≡ to) × (t.number ≡ m) × (t.place ≡ place) × IsRequestTo tickets e t.shard t.sender
told_by tickets to m place (event.Arrive s v) t g = (cc, cc, cc, (cc, cc))
told_by tickets to m place (event.PassOn q) t g = by_ticket (slice_index_or tickets q None) refl g
  where
    by_ticket : (o : Option Ticket) → slice_index_or tickets q None ≡ o → option_map (λ (y : Ticket). let z : Ticket = record { place = place; shard = y.shard; sender = y.target; target = to; number = m } in z) o ≡ Some t →
        (t.target ≡ to) × (t.number ≡ m) × (t.place ≡ place) × ((y : Ticket) × (slice_index_or tickets q None ≡ Some y) × (y.shard ≡ t.shard) × (y.target ≡ t.sender))
    by_ticket None f h = absurd (cc)
    by_ticket (Some y) f h = (cc, cc, cc, (y, f, cc, cc))
told_by tickets to m place _ t g = absurd (cc)

told : (tickets : List (Option Ticket)) (a : Played) (e : Event) (t : Ticket) → pass_of tickets a e ≡ Some t → (a ≡ played.Passed t.target t.number t.place) × IsRequestTo tickets e t.shard t.sender
told tickets (played.Passed to m place) e t g = let h = told_by tickets to m place e t g in let i = h.0 in let j = h.1 in let k = h.2 in (cc, h.3)
told tickets _ e t g = absurd (cc)

named_push : (log : List Logged) (x : Logged) → ((to m place : ℕ) → x.answer ≡ played.Passed to m place → place ≡ length log) →
    ((n : ℕ) (t : Ticket) → slice_index_or (passes log) n None ≡ Some t → IsNamed log n t) → (n : ℕ) (t : Ticket) → slice_index_or (passes (log ++ x ∷ [])) n None ≡ Some t → IsNamed (log ++ x ∷ []) n t
named_push log x here all = pass_push log x (IsNamed (log ++ x ∷ [])) (λ n t e. named_stays log x n t (all n t e) e) (λ t g.
    let a = told (passes log) x.answer x.event t g in
    let place : t.place ≡ length log = here t.target t.number t.place a.0 in
    (place, record { line = x; at = ap (slice_get (log ++ x ∷ [])) place ∙ slice_get_last log x; request = request_stays log x x.event t.shard t.sender a.1; answer = a.0 }))

-- how often a log passes on the request of a place
abbrev pub passings : List Logged → ℕ → ℕ
passings log q = count_by (λ (x : Logged). is_pass_on q x.event) log

none_passed : (log : List Logged) (q : ℕ) → is_passed_on log q ≡ false → passings log q ≡ 0
none_passed [] q e = refl
none_passed (x ∷ log) q e =
    let a = or_parts (is_pass_on q x.event) (is_passed_on log q) e in
    let b = none_passed log q a.1 in
    sum_by-cons (λ (x : Logged). cond (is_pass_on q x.event) 1 0) x log ∙ rw (a.0, b) refl

passes_this : (q : ℕ) (x : Event) → is_pass_on q x ≡ true → x ≡ event.PassOn q
passes_this q (event.PassOn place) e = ap event.PassOn (eqb-true place q e)
passes_this q _ e = absurd (cc)

once_push : (log : List Logged) (x : Logged) (q : ℕ) → passings log q ≤ 1 → PassesOpen log x.event → passings (log ++ x ∷ []) q ≤ 1
once_push log x q l open_one = go (is_pass_on q x.event) refl
  where
    more : passings (log ++ x ∷ []) q ≡ passings log q + cond (is_pass_on q x.event) 1 0
    more = sum_by_push (λ (x : Logged). cond (is_pass_on q x.event) 1 0) log x

    go : (b : Bool) → is_pass_on q x.event ≡ b → passings (log ++ x ∷ []) q ≤ 1
    go false e = let f : passings (log ++ x ∷ []) q ≡ passings log q + 0 = more ∙ ap (λ b. passings log q + cond b 1 0) e in omega arith
    go true e =
        let f : passings (log ++ x ∷ []) q ≡ passings log q + 1 = more ∙ ap (λ b. passings log q + cond b 1 0) e in
        let n = none_passed log q (open_one q (passes_this q x.event e)).2 in
        omega arith

-- the new line of a recorded event
abbrev pub line_made : (w : State) (o : Outcome × State) → IsNewLine w o → Logged
line_made w o n = record { event = n.event; answer = n.answer }

script_of_event : (w : State) (o : Outcome × State) (n : IsNewLine w o) → IsReplayed w → script o.1 ≡ script w ++ (n.happening, n.answer) ∷ []
script_of_event w o n r =
    let x = line_made w o n in
    let a = script_of_line w.log x w.plans (λ k y place f g. (r.earlier k y place f g).0) r.begun in
    let h = line_of w n.happening n.event x n.is_record in
    let b : script_parts (passes o.1.log) o.1.log o.1.plans (length o.1.log) ≡ script_parts (passes (w.log ++ x ∷ [])) (w.log ++ x ∷ []) w.plans (length (w.log ++ x ∷ [])) =
    ap (λ l. script_parts (passes l) l o.1.plans (length l)) n.log ∙ ap (λ ps. script_parts (passes (w.log ++ x ∷ [])) (w.log ++ x ∷ []) ps (length (w.log ++ x ∷ []))) n.plans in
    script_is o.1 ∙ b ∙ a ∙ rw h (ap (λ xs. xs ++ (n.happening, n.answer) ∷ []) (sym (script_is w)))

same_opening : (w new : State) → IsOfOneMachine w new → opened w.sizes w.opening w.room ≡ opened new.sizes new.opening new.room
same_opening w new same = ap (λ c. opened c w.opening w.room) (sym same.sizes) ∙ ap (λ p. opened new.sizes p w.room) (sym same.opening) ∙ ap (λ r. opened new.sizes new.opening r) (sym same.room)

line_keeps : (w : State) (o : Outcome × State) → IsNewLine w o → IsOfOneMachine w o.1 → IsReplayed w → IsReplayed o.1
line_keeps w o n same r =
    let x = line_made w o n in
    let passed = passes_open w n.happening n.event n.is_record in
    record {
      begun = subst (λ ps. AreBegunBy (length o.1.log) ps) (sym n.plans) (begun_by_more (length w.log) (length o.1.log) w.plans (let a = length-append w.log (x ∷ []) in let b = ap length n.log in omega arith) r.begun);
      earlier = λ k. subst (λ l. IsEarlierIn l k) (sym n.log) (earlier_push w.log x r.earlier passed k);
      named = subst (λ l. (k : ℕ) (t : Ticket) → slice_index_or (passes l) k None ≡ Some t → IsNamed l k t) (sym n.log) (named_push w.log x n.pass_here r.named);
      once = λ q. subst (λ l. passings l q ≤ 1) (sym n.log) (once_push w.log x q (r.once q) passed);
      replays =
          subst (λ from. Replays from (script o.1) o.1) (same_opening w o.1 same)
          (subst (λ xs. Replays (opened w.sizes w.opening w.room) xs o.1) (sym (script_of_event w o n r))
          (replays_push (opened w.sizes w.opening w.room) (script w) w (n.happening, n.answer) o.1 r.replays n.made n.no_start));
    }

-- ---- a start keeps it

start_keeps : (w : State) (e : Happening) (o : Outcome × State) (n : IsNewStart w e o) → IsAccepted w n.plan → IsReplayed w → IsReplayed o.1
start_keeps w e o n accepted r =
    let y : Start = record { plan = n.plan; since = length w.log } in
    let a = script_of_start (passes w.log) w.log w.plans y (length w.log) refl in
    let b : script (started w n.plan) ≡ script w ++ start_line (length w.plans) y =
    script_is (started w n.plan) ∙ a ∙ ap (λ xs. xs ++ start_line (length w.plans) y) (sym (script_is w)) in
    let m : happens w (Begin n.plan) ≡ (Answered (played.Begun (length w.plans)), started w n.plan) = n.made ∙ ap (λ s. (Answered (played.Begun (length w.plans)), s)) n.state in
    subst IsReplayed (sym n.state) (record {
      begun = begun_by_push (length w.log) w.plans y r.begun (omega arith);
      earlier = r.earlier;
      named = r.named;
      once = r.once;
      replays = subst (λ xs. Replays (opened w.sizes w.opening w.room) xs (started w n.plan)) (sym b)
          (replays_push (opened w.sizes w.opening w.room) (script w) w (Begin n.plan, played.Begun (length w.plans)) (started w n.plan) r.replays m accepted);
    })

-- ---- all

-- a checked plan that nothing holds up is accepted
abbrev pub AcceptsUnheld : State → Type 0
AcceptsUnheld w = (plan : PlanModel) → IsCheckedPlan w.sizes plan → first_holding w.sizes w.place (pool w) plan ≡ None → IsAccepted w plan

pub replayed_kept : (w : State) (e : Happening) → AcceptsUnheld w → FitsConfig w.sizes e → IsReplayed w → IsReplayed (happens w e).1
replayed_kept w e accepts fits r = go (turns w e)
  where
    go : ((happens w e).1 ≡ w) ⊎ (IsNewLine w (happens w e) ⊎ IsNewStart w e (happens w e)) → IsReplayed (happens w e).1
    go (inl q) = subst IsReplayed (sym q) r
    go (inr (inl n)) = line_keeps w (happens w e) n (same_machine w e) r
    go (inr (inr n)) = start_keeps w e (happens w e) n (accepts n.plan (subst (FitsConfig w.sizes) n.event fits) n.free) r

replayed_at_opening : (setup : Setup) (p : Place) (room : ℕ) → IsOpening setup p room → IsReplayed (opened (sizes_of setup) p room)
replayed_at_opening setup p room o = record {
  begun = tt;
  earlier = λ n x place f g. absurd (cc);
  named = λ n t f. absurd (cc);
  once = λ place. omega arith;
  replays = refl;
}

-- If every checked plan that nothing holds up is accepted, every log is legal.
pub log_replays : ((setup : Setup) (w : State) → IsReached setup w → AcceptsUnheld w) → (setup : Setup) (w : State) → IsReached setup w → IsLegal w
log_replays accepts setup w reached =
    let r = by_events setup IsReplayed (replayed_at_opening setup) (λ u e at f v. replayed_kept u e (accepts setup u at) f v) w reached in
    record {
      replays = r.replays;
      once = r.once;
      earlier = λ n x place e f. let a = r.earlier n x place e f in let b = r.named place a.1.0 a.1.1 in (a.0, (a.1.0, b.0, a.1.1, b.1));
    }
