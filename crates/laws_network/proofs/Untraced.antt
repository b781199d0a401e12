-- The laws of the network are those of the traced one, which it is without its traces.
use Rattle.std.proofs.Common.{◌≡◌, ◌≢◌, ℕ, ◌+◌, ◌≤◌, ◌⊎◌, refl, sym, ap, ◌∙◌, inl, inr, subst, not, Bool, true, false, Option, Some, None, List, [], ◌∷◌, ◌++◌}
use Rattle.std.specs.Prelude.{◌==◌, ◌&&◌, count_by, is_some, if◌then◌else◌, slice_get}
use Rattle.std.proofs.Math.Path.{fun_ext}
use Rattle.std.specs.Option.{option_to_list}
use Rattle.std.proofs.lemmas.Bool.{and_from}
use Rattle.sm_server.specs.Call.{led_to}
use Rattle.sm_placement.specs.Setup.{Setup}
use Rattle.sm_plan_code.specs.declared.instruction.Instr.{Instr}
use Rattle.sm_plan_code.specs.declared.call.ServerCall.{ServerCall}
use Rattle.sm_verifier.proofs.OnePlace.{put2_cases}
use Rattle.sm_protocol.specs.State.{is_begun, is_running, progress_of}
use Rattle.sm_protocol.specs.Happens.{Step, happens}
use Rattle.sm_protocol.proofs.Whole.{reached_keeps}
use Rattle.laws_network.proofs.Counted.{Delivery, after_delivery, real_delivery, Answer, Ask, Cell, Control, Deliver, Net, NetEvent, NetOutcome, Order, Pass, Quiet, Send, StreamId, Ticket, answer_taken, at_place, call_now, comes, controlled, delivered, is_awaited, is_own, net_run, order_for, order_of, passed, since_of}
use Rattle.laws_network.proofs.CountedLaws.{PassesAreLow, CanMoveOn, HasMovedOn, EachNet, CanReopen, ExecutesWhereServing, IsFurther, IsNetReached, HasEffectsOnce, NoneIsRefused, RealIsAtEnds, RealIsNear, RealIsRecorded, RealIsSafe, RecordIsReached, ServesWhereUp, SomeCanGoOn, shard_asked, is_for, is_of_instruction, order_served, orders_served, round_trip}
use Rattle.laws_network.proofs.Traced as traced
use Rattle.laws_network.proofs.TracedLaws as laws
use Rattle.laws_network.proofs.Overlay.{AreOnce, IsIn, call_made, called_led, cell_after, cell_by, made_at, overlay}
use Rattle.laws_network.proofs.Apart.{IsAtCall, calls_apart}
use Rattle.laws_network.proofs.Calls.{is_called}
use Rattle.laws_network.proofs.Calm.{IsCalm, ready}
use Rattle.laws_network.proofs.Ahead.{call_is}
use Rattle.laws_network.proofs.Sound.{IsSound}
use Rattle.laws_network.proofs.Events.{net_sound}
use Rattle.laws_network.proofs.Logged.{AreLogged, comes_logged, net_logged, start_logged}
use Rattle.laws_network.proofs.Wherever as wherever
use Rattle.laws_network.proofs.Once as once
use Rattle.laws_network.proofs.Onward as onward

-- the network without its traces
abbrev pub erase : traced.Net → Net
erase n = record { w = n.w; base = n.base; cells = n.cells; last = n.last; sent = n.sent; answers = n.answers; passes = n.passes }

abbrev both : NetOutcome × traced.Net → NetOutcome × Net
both r = (r.0, erase r.1)

-- ---- an event does the same

module _ (n : traced.Net) (h : AreLogged n) where
  -- a stream has the same order
  pub order_same : (id : StreamId) → order_of n.base n.w id ≡ traced.order_of n id
  order_same id = go (is_running n.w id) refl (call_now n.w id)
    where
      go : (b : Bool) → is_running n.w id ≡ b → (o : Option ServerCall) → (if b then order_for n.base n.w id o else None) ≡ (if b then traced.order_for n id o else None)
      go false e o = refl
      go true e None = refl
      go true e (Some x) = ap (λ k. let o : Order = record { stream = id; at = (progress_of n.w id).at; call = x; number = k + 1 } in Some o) (sym (h.running id e))

  awaited_same : (o : Order) → is_awaited n.base n.w o ≡ traced.is_awaited n o
  awaited_same o = go (is_running n.w o.stream) refl
    where
      go : (b : Bool) → is_running n.w o.stream ≡ b →
          (b && (is_some (call_now n.w o.stream) && (o.number == n.base + since_of n.w o.stream + 1))) ≡ (b && (is_some (call_now n.w o.stream) && (o.number == n.since o.stream + 1)))
      go false e = refl
      go true e = ap (λ k. is_some (call_now n.w o.stream) && (o.number == k + 1)) (sym (h.running o.stream e))

  pub comes_same : (e : NetEvent) → comes (erase n) e ≡ both (traced.comes n e)
  comes_same (Control e) = go (is_own n.w e)
    where
      go : (b : Bool) → (if b then controlled (erase n) (happens n.w e) else (Quiet, erase n)) ≡ both (if b then traced.controlled n (happens n.w e) n.had else (Quiet, n))
      go true = refl
      go false = refl
  comes_same (Send id) = ap (λ p. let m : Net = record (erase n) { sent = n.sent ++ option_to_list p } in (Quiet, m)) (order_same id)
  comes_same (Deliver k) = go (slice_get n.sent k)
    where
      by_delivery : (o : Order) (d : Delivery) → after_delivery (erase n) o d ≡ both (traced.after_delivery n o d)
      by_delivery o Delivery.Old = refl
      by_delivery o Delivery.Again = refl
      by_delivery o (Delivery.Served next) = refl
      by_delivery o (Delivery.Refused why) = refl

      go : (o : Option Order) → at_place (erase n) delivered o ≡ both (traced.at_place n traced.delivered o)
      go None = refl
      go (Some o) = by_delivery o (real_delivery (erase n) o)
  comes_same (Answer k) = go (slice_get n.answers k)
    where
      by_test : (o : Order) (b c : Bool) → b ≡ c → (if b then controlled (erase n) (happens n.w (Step o.stream)) else (Quiet, erase n))
          ≡ both (if c then traced.controlled n (happens n.w (Step o.stream)) (traced.without o.stream n.had) else (Quiet, n))
      by_test o true true e = refl
      by_test o false false e = refl
      by_test o true false e = absurd (cc)
      by_test o false true e = absurd (cc)

      go : (o : Option Order) → at_place (erase n) answer_taken o ≡ both (traced.at_place n traced.answer_taken o)
      go None = refl
      go (Some o) = by_test o (is_awaited n.base n.w o) (traced.is_awaited n o) (awaited_same o)
  comes_same (Ask s v) = refl
  comes_same (Pass k) = go (slice_get n.passes k)
    where
      go : (o : Option Ticket) → passed (erase n) o ≡ both (traced.passed n o)
      go None = refl
      go (Some t) = refl

-- ---- and so does a list of events

run_same : (es : List NetEvent) (n : traced.Net) → AreLogged n → net_run es (erase n) ≡ erase (traced.net_run es n)
run_same [] n h = refl
run_same (e ∷ es) n h = ap (λ (r : NetOutcome × Net). net_run es r.1) (comes_same n h e) ∙ run_same es (traced.comes n e).1 (comes_logged n e h)

served_same : (es : List NetEvent) (n : traced.Net) → AreLogged n → orders_served es (erase n) ≡ laws.orders_served es n
served_same [] n h = refl
served_same (e ∷ es) n h =
    ap (λ (r : NetOutcome × Net). order_served r.0 ++ orders_served es r.1) (comes_same n h e)
    ∙ ap (λ l. order_served (traced.comes n e).0 ++ l) (served_same es (traced.comes n e).1 (comes_logged n e h))

-- what is reached is reached with traces
record IsTraced (setup : Setup) (c : Net) : Type 0 where
  pub n : traced.Net
  pub reached : laws.IsNetReached setup n
  pub logged : AreLogged n
  pub same : erase n ≡ c

traced_too : (setup : Setup) (c : Net) → IsNetReached setup c → IsTraced setup c
traced_too setup c r = record {
  n = traced.net_run r.events start;
  reached = reached;
  logged = net_logged setup (traced.net_run r.events start) reached;
  same = sym (run_same r.events start (start_logged setup start opening)) ∙ sym r.state;
}
  where
    start : traced.Net
    start = record { w = r.start.w; base = r.start.base; since = λ id. r.start.base; cells = r.start.cells; last = r.start.last; had = []; sent = r.start.sent; answers = r.start.answers; passes = r.start.passes }

    opening : laws.IsNetOpening setup start
    opening = let o = r.opening in record {
      place = o.place;
      room = o.room;
      opening = o.opening;
      w = o.w;
      since = refl;
      had = refl;
      cells = o.cells;
      lasts = o.lasts;
      sent = o.sent;
      answers = o.answers;
      passes = o.passes;
    }

    reached : laws.IsNetReached setup (traced.net_run r.events start)
    reached = record { start = start; opening = opening; events = r.events; fit = r.fit; state = refl }

-- what holds of each that is reached with traces holds of each that is reached
pub by_traces : (P : Setup → Net → Type 0) → ((setup : Setup) (n : traced.Net) → laws.IsNetReached setup n → AreLogged n → P setup (erase n)) → EachNet P
by_traces P all setup c r = let t = traced_too setup c r in subst (P setup) t.same (all setup t.n t.reached t.logged)

-- ---- laws

-- the record is a state of the protocol that events lead to
pub record_is_reached : EachNet RecordIsReached
record_is_reached = by_traces RecordIsReached (λ setup n r h. wherever.record_is_reached setup n r)

-- no order and no recorded event is refused
pub none_is_refused : EachNet NoneIsRefused
none_is_refused = by_traces NoneIsRefused (λ setup n r h e fits.
    let t = wherever.none_is_refused setup n r e fits in
    let same = ap (λ (x : NetOutcome × Net). x.0) (comes_same n h e) in
    ((λ why q. t.0 why (sym same ∙ q)), (λ q. t.1 (sym same ∙ q))))

-- the real placement is safe
pub real_is_safe : EachNet RealIsSafe
real_is_safe = by_traces RealIsSafe (λ setup n r h. wherever.real_is_safe setup n r)

-- each number and each instruction has its effect once at most
pub is_once : EachNet HasEffectsOnce
is_once = by_traces HasEffectsOnce (λ setup n r h. record {
  numbers = λ es s v number fit. subst (λ l. (count_by (is_for s v number) l ≤ 1) × (number ≤ n.last s v → count_by (is_for s v number) l ≡ 0)) (sym (served_same es n h)) (once.effects_once n es s v number);
  instructions = λ es id at fit. subst (λ l. count_by (is_of_instruction id at) l ≤ 1) (sym (served_same es n h)) (once.instructions_once setup n r es id at fit);
})

-- no server that is recorded as down serves an order
pub serves_where_up : EachNet ServesWhereUp
serves_where_up = by_traces ServesWhereUp (λ setup n r h e o q. once.serves_up setup n (net_sound setup n r) e o (sym (ap (λ (x : NetOutcome × Net). x.0) (comes_same n h e)) ∙ q))

-- another controller can open where all plans are done
pub can_reopen : EachNet CanReopen
can_reopen = by_traces CanReopen (λ setup n r h done place room opening cells.
    let o = wherever.over setup n (net_sound setup n r) done in record {
      place = place;
      room = room;
      opening = opening;
      w = refl;
      cells = fun_ext (λ s. fun_ext (λ v. cells s v));
      lasts = o.2;
      sent = o.0;
      answers = o.1;
      passes = refl;
    })

-- no call is lost in the record
pub net_is_calm : EachNet (λ setup n. IsCalm n.w)
net_is_calm = by_traces (λ setup n. IsCalm n.w) (λ setup n r h. (net_sound setup n r).calm)

-- where all plans are done, no pass has a number above the log's length
pub passes_are_low : EachNet PassesAreLow
passes_are_low = by_traces PassesAreLow (λ setup n r h done. wherever.low setup n (net_sound setup n r) done)

-- where all plans are done, the servers have the end of the plans
pub real_is_at_ends : EachNet RealIsAtEnds
real_is_at_ends = by_traces RealIsAtEnds (λ setup n r h. wherever.real_is_at_ends setup n r)

-- some stream of each unfinished plan can go on
pub some_can_go_on : EachNet SomeCanGoOn
some_can_go_on = by_traces SomeCanGoOn (λ setup n r h k l unfinished.
    let o = onward.some_can_go_on setup n r k l unfinished in
    (o.0, o.1, o.2, goes n h (traced_id k o.0) o.3))
  where
    traced_id : ℕ → ℕ → StreamId
    traced_id k i = record { plan = k; stream = i }

    goes : (n : traced.Net) → AreLogged n → (id : StreamId) → laws.CanMoveOn n id → CanMoveOn (erase n) id
    goes n h id (inl c) = inl (subst (λ (x : Net). HasMovedOn n.w id x.w) (sym (run_same (Control (Step id) ∷ []) n h)) c)
    goes n h id (inr c) = inr (subst (λ (x : Net). HasMovedOn n.w id x.w) (sym (run_same (round_trip (erase n) id) n h)) c)

-- who executes a request is the one server that serves its shard
pub executes_where_serving : EachNet ExecutesWhereServing
executes_where_serving = by_traces ExecutesWhereServing (λ setup n r h e s v a q.
    wherever.executes_where_serving setup n r e s v (sym (asked_same n e) ∙ a) (sym (ap (λ (x : NetOutcome × Net). x.0) (comes_same n h e)) ∙ q))
  where
    asked_same : (n : traced.Net) (e : NetEvent) → shard_asked (erase n) e ≡ laws.shard_asked n e
    asked_same n (Ask s v) = refl
    asked_same n (Pass k) = refl
    asked_same n (Control e) = refl
    asked_same n (Send id) = refl
    asked_same n (Deliver k) = refl
    asked_same n (Answer k) = refl

-- ---- cells

module _ (setup : Setup) (n : traced.Net) (sound : IsSound setup n) (h : AreLogged n) where
  -- the order of a stream whose call has had its effect
  had_order : (id : StreamId) (i : Instr) (x : ServerCall) → IsIn n.had id → IsAtCall n.w id i x →
      (o : Order) × (order_of n.base n.w id ≡ Some o) × (o.call ≡ x) × (n.last x.shard x.server ≡ o.number)
  had_order id i x k t =
      let runs = and_from (is_begun n.w id) (not (progress_of n.w id).done) t.before.begun (ap not t.before.running) in (
        record { stream = id; at = (progress_of n.w id).at; call = x; number = n.base + since_of n.w id + 1 },
        ap (λ b. if b then order_for n.base n.w id (call_now n.w id) else None) runs ∙ ap (order_for n.base n.w id) (call_is t),
        refl,
        sound.had_last id i x k t ∙ ap (λ m. m + 1) (h.running id runs),
      )

  -- where no stream's order has had its effect, no stream's call has
  none_had : ((id : StreamId) (o : Order) → order_of n.base n.w id ≡ Some o → n.last o.call.shard o.call.server ≢ o.number) → (l : List StreamId) → n.had ≡ l → n.had ≡ []
  none_had none [] e = e
  none_had none (a ∷ ids) e =
      let k : IsIn n.had a = subst (λ l. IsIn l a) (sym e) (inl refl) in
      let t = sound.at_calls a k in
      let o = had_order a t.0 t.1 k t.2 in
      absurd (none a o.0 o.1 (ap (λ (y : ServerCall). n.last y.shard y.server) o.2 ∙ o.3))

  -- a cell that is otherwise is that of a call that has had its effect
  pub record IsOther (ids : List StreamId) (s v : ℕ) : Type 0 where
    pub id : StreamId
    pub instr : Instr
    pub call : ServerCall
    pub had : IsIn ids id
    pub at_call : IsAtCall n.w id instr call
    pub shard : call.shard ≡ s
    pub server : call.server ≡ v
    pub cell : overlay n.w ids n.w.place.cells s v ≡ cell_by call n.w.place.cells

  near : (ids : List StreamId) → ((id : StreamId) → IsIn ids id → IsIn n.had id) → AreOnce ids → (s v : ℕ) → (overlay n.w ids n.w.place.cells s v ≡ n.w.place.cells s v) ⊎ IsOther ids s v
  near [] into o s v = inl refl
  near (a ∷ ids) into o s v =
      let t = sound.at_calls a (into a (inl refl)) in
      more t.0 t.1 t.2 (near ids (λ id k. into id (inr k)) o.1 s v) (near ids (λ id k. into id (inr k)) o.1 t.1.shard t.1.server)
    where
      below : ℕ → ℕ → Cell
      below = overlay n.w ids n.w.place.cells

      more : (i : Instr) (x : ServerCall) → IsAtCall n.w a i x → (overlay n.w ids n.w.place.cells s v ≡ n.w.place.cells s v) ⊎ IsOther ids s v →
          (overlay n.w ids n.w.place.cells x.shard x.server ≡ n.w.place.cells x.shard x.server) ⊎ IsOther ids x.shard x.server →
          (overlay n.w (a ∷ ids) n.w.place.cells s v ≡ n.w.place.cells s v) ⊎ IsOther (a ∷ ids) s v
      more i x t here own =
          let made : overlay n.w (a ∷ ids) n.w.place.cells s v ≡ call_made x (overlay n.w ids n.w.place.cells) s v = ap (λ c. made_at c (overlay n.w ids n.w.place.cells) s v) (call_is t) in
          elim (put2_cases (overlay n.w ids n.w.place.cells) x.shard x.server (cell_by x (overlay n.w ids n.w.place.cells)) s v) [
            | inl k ↦ elim own [
              | inl e ↦ inr (record { id = a; instr = i; call = x; had = inl refl; at_call = t; shard = sym k.0; server = sym k.1; cell = made ∙ k.2 ∙ ap (λ c. cell_after c (led_to x.call c)) e })
              | inr e ↦ absurd (
                  let v = (reached_keeps setup n.w sound.reached).0 in
                  calls_apart n.w v e.id a e.instr i e.call x (λ q. o.0 (subst (IsIn ids) q e.had)) e.at_call t (sound.calm.unmade e.id) (sound.calm.unmade a) (e.shard, e.server)
                  )
            ]
            | inr k ↦ elim here [
              | inl e ↦ inl (made ∙ k.1 ∙ e)
              | inr e ↦ inr (record { id = e.id; instr = e.instr; call = e.call; had = inr e.had; at_call = e.at_call; shard = e.shard; server = e.server; cell = made ∙ k.1 ∙ e.cell })
            ]
          ]

  pub cell_near : (s v : ℕ) → (n.cells s v ≡ n.w.place.cells s v) ⊎ IsFurther (erase n) s v
  cell_near s v = elim (near n.had (λ id k. k) sound.once s v) [
    | inl e ↦ inl (ap (λ f. f s v) sound.cells ∙ e)
    | inr o ↦ inr (further o)
  ]
    where
      further : IsOther n.had s v → IsFurther (erase n) s v
      further o =
          let d = had_order o.id o.instr o.call o.had o.at_call in
          let w = (reached_keeps setup n.w sound.reached).0 in
          let led = called_led n.w.sizes n.w.place o.call _ (is_called n.w w o.id o.instr o.call sound.calm.halted (ready w sound.calm o.at_call)) in
          let here : led_to o.call.call (n.w.place.cells s v) ≡ Some (cell_by o.call n.w.place.cells) =
          subst (λ a. led_to o.call.call (n.w.place.cells a v) ≡ Some (cell_by o.call n.w.place.cells)) o.shard
          (subst (λ b. led_to o.call.call (n.w.place.cells o.call.shard b) ≡ Some (cell_by o.call n.w.place.cells)) o.server led) in
          record {
            stream = o.id;
            order = d.0;
            current = d.1;
            shard = ap (λ (y : ServerCall). y.shard) d.2 ∙ o.shard;
            server = ap (λ (y : ServerCall). y.server) d.2 ∙ o.server;
            last = subst (λ a. n.last a v ≡ d.0.number) o.shard (subst (λ b. n.last o.call.shard b ≡ d.0.number) o.server d.3);
            led = subst (λ (y : ServerCall). led_to y.call (n.w.place.cells s v) ≡ Some (n.cells s v)) (sym d.2) (here ∙ ap Some (sym (ap (λ f. f s v) sound.cells ∙ o.cell)));
          }

-- each real cell is as recorded, or one call further
pub real_is_near : EachNet RealIsNear
real_is_near = by_traces RealIsNear (λ setup n r h. cell_near setup n (net_sound setup n r) h)

-- if no answer is outstanding, the servers have what is recorded
pub real_is_recorded : EachNet RealIsRecorded
real_is_recorded = by_traces RealIsRecorded (λ setup n r h none. wherever.real_is_recorded setup n r (none_had setup n (net_sound setup n r) h none n.had refl))
