-- Every event keeps what holds, so it holds wherever events lead; and nothing is refused.
use Rattle.std.proofs.Common.{◌≤◌, ◌≡◌, ◌≢◌, ℕ, ◌+◌, ◌<◌, refl, sym, ap, ◌∙◌, inl, inr, subst, arith, not, Bool, true, false, Option, Some, None, List, [], ◌∷◌, ◌++◌, Result}
use Rattle.std.specs.Prelude.{◌==◌, ◌&&◌, nat_lt, is_some, if◌then◌else◌, slice_get}
use Rattle.std.specs.List.{AllByRecursion}
use Rattle.std.specs.Option.{option_to_list}
use Rattle.std.proofs.lemmas.Bool.{and_parts, eqb-false, eqb-true, ltb-false, not-true}
use Rattle.sm_server.specs.declared.call.Refusal.{Refusal}
use Rattle.sm_placement.specs.Setup.{Setup}
use Rattle.sm_reservation.specs.declared.stream_id.StreamId.{StreamId}
use Rattle.sm_plan_code.specs.declared.instruction.Instr.{Instr}
use Rattle.sm_plan_code.specs.declared.instruction.Instr.TheVariants.{Publish, Unlist, Signal, Wait}
use Rattle.sm_plan_code.specs.declared.call.ServerCall.{ServerCall}
use Rattle.sm_plan_code.specs.Instr.{is_call}
use Rattle.sm_plan_code.specs.Acts.{next_call}
use Rattle.sm_protocol.specs.State.{State, is_begun, is_running, next_instruction, progress_of}
use Rattle.sm_protocol.specs.Steps.{Outcome}
use Rattle.sm_protocol.specs.Steps.{Refused as refused_call}
use Rattle.sm_protocol.specs.Happens.{Step, happens}
use Rattle.sm_protocol.proofs.Invariant.{IsKept}
use Rattle.sm_protocol.proofs.Reached.{reached_by}
use Rattle.sm_protocol.proofs.Whole.{happens_keeps, reached_keeps}
use Rattle.laws_network.specs.Orders.{by_served}
use Rattle.sm_server.specs.Call.{served}
use Rattle.std.specs.Prelude.{◌-◌}
use Rattle.laws_network.proofs.Traced.{Cell, Delivery, after_delivery, load_of, Answer, Ask, Control, Deliver, Made, Net, NetEvent, NetOutcome, Order, Pass, Played, Quiet, Refused, Send, State, Ticket, answer_taken, at_place, instruction_call, call_now, comes, controlled, delivered, is_awaited, is_own, net_run, order_for, order_of, real, without, pass_by, passed, real_reply, replied}
use Rattle.laws_network.proofs.TracedLaws.{IsReached, AllNetFit, IsNetOpening, IsNetReached, NetFits}
use Rattle.laws_network.proofs.Overlay.{AreOnce, IsIn, overlay}
use Rattle.laws_network.proofs.Apart.{IsAtCall}
use Rattle.laws_network.proofs.Lists.{all_append, all_at, all_map, all_push, is_in}
use Rattle.laws_network.proofs.Sound.{IsAnswer, IsCurrent, IsKnown, IsPassable, IsSound, handed}
use Rattle.laws_network.proofs.Ahead.{real_described}
use Rattle.laws_network.proofs.Calm.{IsCalm, ready}
use Rattle.sm_protocol.proofs.Requests.{IsLed, reply_forwards, reply_serves}
use Rattle.sm_protocol.specs.declared.event.Played.TheVariants as played
use Rattle.sm_plan_code.proofs.Passings.{CanBePassed, forwarding_passes, passed_by_lead}
use Rattle.sm_placement.proofs.Leads.{one_serves}
use Rattle.sm_placement.specs.SafePlace.{IsServing}
use Rattle.laws_network.proofs.Control.{answer_sound, own_sound}
use Rattle.laws_network.proofs.Serving.{served_sound, serves}

-- an instruction with a call is one
next_is_call : (numbers : ℕ → ℕ) (i : Instr) (x : ServerCall) → next_call numbers i ≡ Some x → is_call i ≡ true
next_is_call numbers (Publish s) x e = cc
next_is_call numbers (Unlist s) x e = cc
next_is_call numbers (Signal k) x e = cc
next_is_call numbers (Wait k) x e = cc
next_is_call numbers _ x e = refl

-- a running stream with a call stands before it
pub at_call_of : (w : State) (id : StreamId) (x : ServerCall) → is_running w id ≡ true → call_now w id ≡ Some x → (i : Instr) × IsAtCall w id i x
at_call_of w id x r c = go (next_instruction w id) refl c
  where
    go : (o : Option Instr) → next_instruction w id ≡ o → instruction_call w.numbers o ≡ Some x → (i : Instr) × IsAtCall w id i x
    go None q e = absurd (cc)
    go (Some i) q e =
        let p = and_parts (is_begun w id) (not (progress_of w id).done) r in
        (i, record { before = record { begun = p.0; running = not-true (progress_of w id).done p.1; next_is = q }; call = next_is_call w.numbers i x e; next = e })

-- the order of a stream is its current one
pub order_current : (n : Net) (id : StreamId) (o : Order) → order_of n id ≡ Some o → IsCurrent n o × (o.stream ≡ id)
order_current n id o e = go (is_running n.w id) (call_now n.w id) refl refl e
  where
    go : (b : Bool) (c : Option ServerCall) → is_running n.w id ≡ b → call_now n.w id ≡ c → (if b then order_for n id c else None) ≡ Some o → IsCurrent n o × (o.stream ≡ id)
    go false c r q e = absurd (cc)
    go true None r q e = absurd (cc)
    go true (Some x) r q e =
        let own : Order = record { stream = id; at = (progress_of n.w id).at; call = x; number = n.since id + 1 } in
        let same : own ≡ o = cc in
        let t = at_call_of n.w id x r q in
        let current : IsCurrent n own = record { instr = t.0; at_call = t.1; position = refl; number = refl } in
        (subst (IsCurrent n) same current, ap (λ (z : Order). z.stream) (sym same))

-- what is to be shown of what comes of an event
pub record IsGood (setup : Setup) (r : NetOutcome × Net) : Type 0 where
  pub served : (why : Refusal) → r.0 ≢ Refused why
  pub made : r.0 ≢ Made refused_call
  pub sound : IsSound setup r.1

quiet : {setup : Setup} {n : Net} → IsSound setup n → IsGood setup (Quiet, n)
quiet sound = record { served = λ why e. absurd (cc); made = λ e. absurd (cc); sound = sound }

module _ (setup : Setup) (n : Net) (sound : IsSound setup n) where
  v : IsKept n.w
  v = (reached_keeps setup n.w sound.reached).0

  -- other messages were sent
  known_still : (s a : List Order) (ts : List Ticket) (o : Order) → IsKnown n o → IsKnown (record n { sent = s; answers = a; passes = ts }) o
  known_still s a ts o (inl c) = inl (record { instr = c.instr; at_call = c.at_call; position = c.position; number = c.number })
  known_still s a ts o (inr p) = inr (record { since = p.since; last = p.last })

  messages : (s a : List Order) (ts : List Ticket) → AllByRecursion (IsKnown n) s → AllByRecursion (IsAnswer n) a → AllByRecursion (IsPassable n) ts → IsSound setup (record n { sent = s; answers = a; passes = ts })
  messages s a ts all some led = record {
    reached = sound.reached;
    calm = sound.calm;
    at_calls = sound.at_calls;
    once = sound.once;
    cells = sound.cells;
    had_last = sound.had_last;
    lasts = λ r u. elim (sound.lasts r u) [
      | inl k ↦ inl k
      | inr k ↦ inr (record { stream = k.stream; instr = k.instr; call = k.call; had = k.had; at_call = k.at_call; shard = k.shard; server = k.server })
    ];
    fresh = sound.fresh;
    sinces = sound.sinces;
    sent = all_map (IsKnown n) (IsKnown (record n { sent = s; answers = a; passes = ts })) s (known_still s a ts) all;
    answers = all_map (IsAnswer n) (IsAnswer (record n { sent = s; answers = a; passes = ts })) a (λ o i. (known_still s a ts o i.0, i.1)) some;
    passes = led;
  }

  -- ---- orders

  -- an order whose number is higher than the last one of its cell is a current one, and its call has had no effect
  pub is_fresh : (o : Order) → IsKnown n o → n.last o.call.shard o.call.server < o.number → IsCurrent n o × (IsIn n.had o.stream → ⊥)
  is_fresh o (inr p) l = absurd (let a = p.last in omega arith)
  is_fresh o (inl c) l = (c, λ h. absurd (let a = sound.had_last o.stream c.instr o.call h c.at_call in let b = c.number in omega arith))

  -- what its server answers to an order that it serves
  abbrev answer_at : Order → Result Cell Refusal
  answer_at o = served (n.cells o.call.shard o.call.server) (n.w.sizes.room o.call.server - load_of n.w.sizes n.cells o.call.server) (n.w.sizes.load o.call.shard) true o.call.call

  delivery : (o : Order) → IsKnown n o → IsGood setup (delivered n o)
  delivery o known = on_lower (nat_lt o.number (n.last o.call.shard o.call.server)) refl
    where
      on_call : n.last o.call.shard o.call.server < o.number → IsGood setup (after_delivery n o (by_served (answer_at o)))
      on_call l =
          let f = is_fresh o known l in
          let s = serves setup n sound o f.0 f.1 in
          subst (λ r. IsGood setup (after_delivery n o (by_served r))) (sym s.served) (record { served = λ why e. absurd (cc); made = λ e. absurd (cc); sound = served_sound setup n sound o f.0 f.1 l s.next s.made })

      on_same : (b : Bool) → (o.number == n.last o.call.shard o.call.server) ≡ b → nat_lt o.number (n.last o.call.shard o.call.server) ≡ false →
          IsGood setup (after_delivery n o (if b then Delivery.Again else by_served (answer_at o)))
      on_same true e l = quiet (messages n.sent (n.answers ++ o ∷ []) n.passes sound.sent (all_push (IsAnswer n) n.answers o sound.answers (known, (let q = eqb-true _ _ e in omega arith))) sound.passes)
      on_same false e l = on_call (let a = ltb-false _ _ l in let b = eqb-false _ _ e in omega arith)

      on_lower : (b : Bool) → nat_lt o.number (n.last o.call.shard o.call.server) ≡ b →
          IsGood setup (after_delivery n o (if b then Delivery.Old else if o.number == n.last o.call.shard o.call.server then Delivery.Again else by_served (answer_at o)))
      on_lower true e = quiet sound
      on_lower false e = on_same (o.number == n.last o.call.shard o.call.server) refl e

  -- the order of a stream is sent
  sending : (id : StreamId) → IsGood setup (comes n (Send id))
  sending id = quiet (messages (n.sent ++ option_to_list (order_of n id)) n.answers n.passes (all_append (IsKnown n) n.sent (option_to_list (order_of n id)) sound.sent (go (order_of n id) refl)) sound.answers sound.passes)
    where
      go : (o : Option Order) → order_of n id ≡ o → AllByRecursion (IsKnown n) (option_to_list o)
      go None e = tt
      go (Some o) e = (inl (order_current n id o e).0, tt)

  -- ---- answers

  -- an answer that is awaited is that to the current order, whose call has had its effect
  pub is_outstanding : (o : Order) → IsAnswer n o → is_awaited n o ≡ true → IsCurrent n o × IsIn n.had o.stream
  is_outstanding o a e = by_kind a.0
    where
      parts : (is_running n.w o.stream ≡ true) × ((is_some (call_now n.w o.stream) && (o.number == n.since o.stream + 1)) ≡ true)
      parts = and_parts (is_running n.w o.stream) (is_some (call_now n.w o.stream) && (o.number == n.since o.stream + 1)) e

      number : o.number ≡ n.since o.stream + 1
      number = eqb-true o.number (n.since o.stream + 1) (and_parts (is_some (call_now n.w o.stream)) (o.number == n.since o.stream + 1) parts.1).1

      by_kind : IsKnown n o → IsCurrent n o × IsIn n.had o.stream
      by_kind (inr p) = absurd (let b = p.since in let c = number in omega arith)
      by_kind (inl c) = elim (is_in n.had o.stream) [
        | inl h ↦ (c, h)
        | inr h ↦ absurd (let l = sound.fresh o.stream c.instr o.call h c.at_call in let b = a.1 in let d = number in omega arith)
      ]

  answering : (o : Order) → IsAnswer n o → IsGood setup (answer_taken n o)
  answering o a = go (is_awaited n o) refl
    where
      go : (b : Bool) → is_awaited n o ≡ b → IsGood setup (if b then controlled n (happens n.w (Step o.stream)) (without o.stream n.had) else (Quiet, n))
      go false e = quiet sound
      go true e =
          let c = is_outstanding o a e in
          record {
            served = λ why q. absurd (cc);
            made = λ q. (happens_keeps n.w v (Step o.stream) tt).0 (same_made _ _ q);
            sound = answer_sound setup n sound o.stream c.0.instr o.call c.1 c.0.at_call;
          }
        where
          same_made : (a b : Outcome) → Made a ≡ Made b → a ≡ b
          same_made a b e = cc

  -- ---- requests

  -- what the servers have, with the highest handover numbers there
  abbrev there : State
  there = record n.w { place = record (real n) { down = λ u. false }; numbers = handed n; log = [] }

  is_led : IsLed there
  is_led =
      let d = real_described setup n.w n.had sound.reached sound.calm.halted (λ id h. let t = sound.at_calls id h in (t.0, t.1, ready v sound.calm t.2)) sound.once n.cells sound.cells n.last in
      record { leads = d.0; described = d.1 }

  -- a pass is made where its sender forwards
  makes_pass : (s u : ℕ) (sent : Option Ticket) (a : Played) → real_reply n s u sent ≡ a → AllByRecursion (IsPassable n) (option_to_list (pass_by s u a))
  makes_pass s u sent (played.Passed to number place) e =
      let f = (reply_forwards there s u sent to number place e).0 in
      let d = is_led.described s in
      (passed_by_lead (is_led.leads s) (handed n s) (n.cells s) d number (forwarding_passes (is_led.leads s) (handed n s) (n.cells s) d u to number f), tt)
  makes_pass s u sent _ e = tt

  replying : (s u : ℕ) (sent : Option Ticket) → IsGood setup (replied n s u sent)
  replying s u sent = record {
    served = λ why e. absurd (cc);
    made = λ e. absurd (cc);
    sound = messages n.sent n.answers (n.passes ++ option_to_list (pass_by s u (real_reply n s u sent))) sound.sent sound.answers
        (all_append (IsPassable n) n.passes (option_to_list (pass_by s u (real_reply n s u sent))) sound.passes (makes_pass s u sent (real_reply n s u sent) refl));
  }

  passing : (o : Option Ticket) → IsGood setup (passed n o)
  passing None = quiet sound
  passing (Some t) = replying t.shard t.target (Some t)

  -- who executes a request serves its shard
  pub executes : (s u : ℕ) (sent : Option Ticket) → ((t : Ticket) → sent ≡ Some t → (t.shard ≡ s) × IsPassable n t) → (b : ℕ) → real_reply n s u sent ≡ played.Executed b →
      IsServing (real n) s b × ((x : ℕ) → IsServing (real n) s x → x ≡ b)
  executes s u sent known b e =
      let a = reply_serves there s u sent is_led (λ t q. let k = known t q in subst (λ z. CanBePassed (n.cells z) (handed n z) t.number) k.0 k.1) b e in
      let serving : IsServing (real n) s b = subst (λ z. IsServing (real n) s z) (sym a.0) a.1 in
      (serving, λ x p. one_serves (is_led.leads s) (handed n s) (n.cells s) (is_led.described s) x b p serving)

  -- ---- every event

  placed : (f : Net → Order → NetOutcome × Net) (P : Order → Type 0) (xs : List Order) (k : ℕ) → AllByRecursion P xs → ((o : Order) → P o → IsGood setup (f n o)) → IsGood setup (at_place n f (slice_get xs k))
  placed f P xs k all good = go (slice_get xs k) refl
    where
      go : (o : Option Order) → slice_get xs k ≡ o → IsGood setup (at_place n f o)
      go None e = quiet sound
      go (Some o) e = good o (all_at P xs k o all e)

  -- each event keeps the invariant, and no order of it is refused
  pub comes_good : (e : NetEvent) → NetFits n.w.sizes e → IsGood setup (comes n e)
  comes_good (Control e) fits = go (is_own n.w e) refl
    where
      go : (b : Bool) → is_own n.w e ≡ b → IsGood setup (if b then controlled n (happens n.w e) n.had else (Quiet, n))
      go false o = quiet sound
      go true o = record {
        served = λ why q. absurd (cc);
        made = λ q. (happens_keeps n.w v e fits).0 (same_made _ _ q);
        sound = own_sound setup n sound e fits o;
      }
        where
          same_made : (a b : Outcome) → Made a ≡ Made b → a ≡ b
          same_made a b e = cc
  comes_good (Send id) fits = sending id
  comes_good (Deliver k) fits = placed delivered (IsKnown n) n.sent k sound.sent delivery
  comes_good (Answer k) fits = placed answer_taken (IsAnswer n) n.answers k sound.answers answering
  comes_good (Ask s u) fits = replying s u None
  comes_good (Pass k) fits = passing (slice_get n.passes k)

-- ---- wherever events lead

-- events do not change the configuration
pub same_sizes : (setup : Setup) (n : Net) (sound : IsSound setup n) (e : NetEvent) → NetFits n.w.sizes e → (comes n e).1.w.sizes ≡ n.w.sizes
same_sizes setup n sound e fits =
    let a = (reached_keeps setup n.w sound.reached).1 in
    let b = (reached_keeps setup (comes n e).1.w (comes_good setup n sound e fits).sound.reached).1 in
    b ∙ sym a

pub run_sound : (setup : Setup) (es : List NetEvent) (n : Net) → IsSound setup n → AllNetFit n.w.sizes es → IsSound setup (net_run es n)
run_sound setup [] n sound fit = sound
run_sound setup (e ∷ es) n sound fit =
    run_sound setup es (comes n e).1 (comes_good setup n sound e fit.0).sound (subst (λ c. AllNetFit c es) (sym (same_sizes setup n sound e fit.0)) fit.1)

pub opened_sound : (setup : Setup) (n : Net) → IsNetOpening setup n → IsSound setup n
opened_sound setup n o = record {
  reached = subst (IsReached setup) (sym o.w) (reached_by setup o.place o.room [] o.opening tt);
  calm = subst IsCalm (sym o.w) (record { halted = refl; unmade = λ id. refl; unlost = λ id. inr refl });
  at_calls = λ id h. absurd (none id h);
  once = subst AreOnce (sym o.had) tt;
  cells = o.cells ∙ sym (ap (λ l. overlay n.w l n.w.place.cells) o.had ∙ ap (λ (w : State). w.place.cells) o.w);
  had_last = λ id i x h t. absurd (none id h);
  lasts = λ s u. inl (let l = o.lasts s u in omega arith);
  fresh = λ id i x h t. let l = o.lasts x.shard x.server in let s = at_base id in omega arith;
  sinces = λ id. let s = at_base id in omega arith;
  sent = all_map (λ p. p.number ≤ n.last p.call.shard p.call.server) (IsKnown n) n.sent is_past o.sent;
  answers = all_map (λ p. p.number ≤ n.last p.call.shard p.call.server) (IsAnswer n) n.answers (λ p l. (is_past p l, l)) o.answers;
  passes = subst (AllByRecursion (IsPassable n)) (sym o.passes) tt;
}
  where
    none : (id : StreamId) → IsIn n.had id → ⊥
    none id h = subst (λ l. IsIn l id) o.had h

    at_base : (id : StreamId) → n.since id ≡ n.base
    at_base id = ap (λ f. f id) o.since

    is_past : (p : Order) → p.number ≤ n.last p.call.shard p.call.server → IsKnown n p
    is_past p l = inr (record { since = (let a = o.lasts p.call.shard p.call.server in let s = at_base p.stream in omega arith); last = l })

-- the invariant holds wherever events lead
pub net_sound : (setup : Setup) (n : Net) → IsNetReached setup n → IsSound setup n
net_sound setup n r = subst (IsSound setup) (sym r.state) (run_sound setup r.events r.start (opened_sound setup r.start r.opening) (subst (λ c. AllNetFit c r.events) (sym (ap (λ (w : State). w.sizes) r.opening.w)) r.fit))
