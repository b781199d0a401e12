-- Some stream of each plan that isn't done can go on.
use Rattle.std.proofs.Common.{◌≡◌, ◌+◌, refl, sym, ap, ◌∙◌, inl, inr, subst, arith, not, Bool, true, false, Option, Some, None, List, [], ◌∷◌, ◌++◌, length}
use Rattle.std.specs.Prelude.{◌==◌, ◌&&◌, nat_lt, is_none, is_some, if◌then◌else◌, slice_get}
use Rattle.std.specs.Option.{option_to_list}
use Rattle.std.proofs.lemmas.Bool.{and_from, eq-eqb, le-ltb, ne_eqb}
use Rattle.sm_placement.specs.Setup.{Setup}
use Rattle.sm_plan_code.specs.declared.instruction.Instr.{Instr}
use Rattle.sm_plan_code.specs.declared.call.ServerCall.{ServerCall}
use Rattle.sm_protocol.specs.State.{State, allowance, is_begun, is_running, next_instruction, progress_of, stream_id}
use Rattle.sm_protocol.specs.Steps.{Outcome, made, step}
use Rattle.sm_protocol.specs.Happens.{Step, happens}
use Rattle.sm_protocol.specs.declared.event.Passage.TheVariants.{Through}
use Rattle.sm_protocol.specs.Safe.{CanStep, IsStep}
use Rattle.sm_protocol.proofs.Invariant.{IsKept}
use Rattle.sm_protocol.proofs.Keeping.{is_begun_true}
use Rattle.sm_protocol.proofs.Progress.{IsSpentAt, some_onward}
use Rattle.sm_protocol.proofs.Reached.{unhalted_is}
use Rattle.sm_protocol.proofs.Trials.{call_at}
use Rattle.sm_protocol.proofs.Whole.{reached_keeps}
use Rattle.laws_network.specs.Orders.{by_served}
use Rattle.sm_server.specs.Call.{served}
use Rattle.std.specs.Prelude.{◌-◌}
use Rattle.laws_network.proofs.Traced.{Delivery, after_delivery, load_of, real_delivery, Answer, Deliver, Net, NetOutcome, Order, Quiet, Send, StreamId, answer_taken, at_place, call_now, comes, controlled, delivered, is_awaited, net_run, order_for, order_of, without}
use Rattle.laws_network.proofs.TracedLaws.{CanMoveOn, HasMovedOn, EachNet, SomeCanGoOn, round_trip}
use Rattle.laws_network.proofs.Apart.{IsAtCall}
use Rattle.laws_network.proofs.Ahead.{call_is}
use Rattle.laws_network.proofs.Calls.{made_moves, step_made, step_moves}
use Rattle.laws_network.proofs.Calm.{ready}
use Rattle.laws_network.proofs.Lists.{is_in}
use Rattle.laws_network.proofs.Sound.{IsCurrent, IsSound}
use Rattle.laws_network.proofs.Events.{at_call_of, comes_good, net_sound}
use Rattle.laws_network.proofs.Serving.{serves}

-- the last of a list that was made longer by one
pub slice_get_push : {X : Type 0} (xs : List X) (x : X) → slice_get (xs ++ x ∷ []) (length xs) ≡ Some x
slice_get_push [] x = refl
slice_get_push (y ∷ ys) x = slice_get_push ys x

-- an order that comes to its server is answered, and nothing that is recorded changes
record IsAnswered (n : Net) (o : Order) (r : NetOutcome × Net) : Type 0 where
  pub w : r.1.w ≡ n.w
  pub since : r.1.since ≡ n.since
  pub answers : r.1.answers ≡ n.answers ++ o ∷ []

-- so it is of a current order
module _ (setup : Setup) (n : Net) (sound : IsSound setup n) (o : Order) (c : IsCurrent n o) where
  v : IsKept n.w
  v = (reached_keeps setup n.w sound.reached).0

  chosen : (lower same : Bool) → Delivery
  chosen lower same =
      if lower then Delivery.Old
      else if same then Delivery.Again
      else by_served (served (n.cells o.call.shard o.call.server) (n.w.sizes.room o.call.server - load_of n.w.sizes n.cells o.call.server) (n.w.sizes.load o.call.shard) true o.call.call)

  is_chosen : real_delivery n o ≡ chosen (nat_lt o.number (n.last o.call.shard o.call.server)) (o.number == n.last o.call.shard o.call.server)
  unfolding chosen
  is_chosen = refl

  is_answered : IsAnswered n o (delivered n o)
  unfolding chosen
  is_answered = subst (λ d. IsAnswered n o (after_delivery n o d)) (sym is_chosen) (elim (is_in n.had o.stream) [
    | inl h ↦
        let l = sound.had_last o.stream c.instr o.call h c.at_call in
        let e = c.number in
        let lower : nat_lt o.number (n.last o.call.shard o.call.server) ≡ false = le-ltb o.number (n.last o.call.shard o.call.server) (omega arith) in
        let same : (o.number == n.last o.call.shard o.call.server) ≡ true = eq-eqb o.number (n.last o.call.shard o.call.server) (omega arith) in
        subst (λ b. IsAnswered n o (after_delivery n o (chosen b (o.number == n.last o.call.shard o.call.server)))) (sym lower)
        (subst (λ b. IsAnswered n o (after_delivery n o (chosen false b))) (sym same) (record { w = refl; since = refl; answers = refl }))
    | inr h ↦
        let l = sound.fresh o.stream c.instr o.call h c.at_call in
        let e = c.number in
        let lower : nat_lt o.number (n.last o.call.shard o.call.server) ≡ false = le-ltb o.number (n.last o.call.shard o.call.server) (omega arith) in
        let same : (o.number == n.last o.call.shard o.call.server) ≡ false = ne_eqb o.number (n.last o.call.shard o.call.server) (λ q. absurd (omega arith)) in
        let s = serves setup n sound o c h in
        subst (λ b. IsAnswered n o (after_delivery n o (chosen b (o.number == n.last o.call.shard o.call.server)))) (sym lower) (subst (λ b. IsAnswered n o (after_delivery n o (chosen false b))) (sym same)
        (subst (λ r. IsAnswered n o (after_delivery n o (by_served r))) (sym s.served) (record { w = refl; since = refl; answers = refl })))
  ])

-- ---- round trips

module _ (setup : Setup) (n : Net) (sound : IsSound setup n) (id : StreamId) (i : Instr) (x : ServerCall) (t : IsAtCall n.w id i x) where
  abbrev o : Order
  o = record { stream = id; at = (progress_of n.w id).at; call = x; number = n.since id + 1 }

  runs : is_running n.w id ≡ true
  runs = and_from (is_begun n.w id) (not (progress_of n.w id).done) t.before.begun (ap not t.before.running)

  order_is : order_of n id ≡ Some o
  order_is = ap (λ b. if b then order_for n id (call_now n.w id) else None) runs ∙ ap (order_for n id) (call_is t)

  abbrev sent : Net
  sent = record n { sent = n.sent ++ o ∷ [] }

  is_sent : (comes n (Send id)).1 ≡ sent
  is_sent = ap (λ p. let m : Net = record n { sent = n.sent ++ option_to_list p } in m) order_is

  sent_sound : IsSound setup sent
  sent_sound = subst (IsSound setup) is_sent (comes_good setup n sound (Send id) tt).sound

  there : IsAnswered sent o (delivered sent o)
  there = is_answered setup sent sent_sound o (record { instr = i; at_call = t; position = refl; number = refl })

  abbrev came : Net
  came = (delivered sent o).1

  -- the controller takes the answer
  is_taken : is_awaited came o ≡ true
  is_taken =
      ap (λ w. let m : Net = record came { w = w } in is_awaited m o) there.w
      ∙ ap (λ f. let m : Net = record came { w = n.w; since = f } in is_awaited m o) there.since
      ∙ and_from (is_running n.w id) (is_some (call_now n.w id) && (n.since id + 1 == n.since id + 1)) runs
      (and_from (is_some (call_now n.w id)) (n.since id + 1 == n.since id + 1) (ap is_some (call_is t)) (eq-eqb (n.since id + 1) (n.since id + 1) refl))

  taken : (answer_taken came o).1.w ≡ (happens n.w (Step id)).1
  taken =
      ap (λ b. (if b then controlled came (happens came.w (Step id)) (without id came.had) else (Quiet, came)).1.w) is_taken
      ∙ ap (λ w. (happens w (Step id)).1) there.w

  pub goes_round : (progress_of (net_run (round_trip n id) n).w id).at ≡ (progress_of n.w id).at + 1
  goes_round =
      ap (λ m. (progress_of (net_run (Deliver (length n.sent) ∷ Answer (length n.answers) ∷ []) m).w id).at) is_sent
      ∙ ap (λ p. (progress_of (comes (at_place sent delivered p).1 (Answer (length n.answers))).1.w id).at) (slice_get_push n.sent o)
      ∙ ap (λ l. (progress_of (at_place came answer_taken (slice_get l (length n.answers))).1.w id).at) there.answers
      ∙ ap (λ p. (progress_of (at_place came answer_taken p).1.w id).at) (slice_get_push n.answers o)
      ∙ ap (λ (w : State). (progress_of w id).at) taken
      ∙ (step_moves n.w (reached_keeps setup n.w sound.reached).0 id i x sound.calm.halted (ready (reached_keeps setup n.w sound.reached).0 sound.calm t)).1

-- ---- plans that aren't done

module _ (setup : Setup) (n : Net) (sound : IsSound setup n) (id : StreamId) (b : is_begun n.w id ≡ true) (d : (progress_of n.w id).done ≡ false) where
  kept : IsKept n.w
  kept = (reached_keeps setup n.w sound.reached).0

  -- no stream has spent its allowance
  not_spent : IsSpentAt n.w id → ⊥
  not_spent s =
      let c = call_at n.w.numbers s.instr s.call in
      let r = ready {w = n.w} {id = id} {i = s.instr} {x = c.call} kept sound.calm (record { before = record { begun = b; running = d; next_is = s.here }; call = s.call; next = c.next }) in
      let e = eq-eqb (progress_of n.w id).tries (allowance n.w id) s.all in
      let f = r.unspent in
      absurd (cc)

  can_go_on : CanStep n.w id → CanMoveOn n id
  can_go_on can = go (call_now n.w id) refl
    where
      go : (p : Option ServerCall) → call_now n.w id ≡ p → CanMoveOn n id
      go None q =
          let made_is = step_made n.w id Through sound.calm.halted b d in
          let steps : IsStep (made n.w id Through (next_instruction n.w id)).0 =
          subst (λ (r : Outcome × State). IsStep r.0) made_is (subst (λ w. IsStep (step w id Through).0) (unhalted_is n.w sound.calm.halted) can) in
          let own = ap (λ b. (if b then controlled n (happens n.w (Step id)) n.had else (Quiet, n)).1.w) (ap is_none q) in
          inl (subst (HasMovedOn n.w id) (sym (own ∙ ap (λ (r : Outcome × State). r.1) made_is)) (made_moves n.w id (next_instruction n.w id) q steps))
      go (Some x) q =
          let t = at_call_of n.w id x (and_from (is_begun n.w id) (not (progress_of n.w id).done) b (ap not d)) q in
          inr (inl (goes_round setup n sound id t.0 x t.1))

-- some stream of each unfinished plan can go on
pub some_can_go_on : EachNet SomeCanGoOn
some_can_go_on setup n r k l unfinished =
    let sound = net_sound setup n r in
    let o = some_onward n.w (reached_keeps setup n.w sound.reached).0 k l unfinished in
    let b = is_begun_true n.w (stream_id k o.i) (record { plan = l; stream = o.stream }) in (
      o.i,
      o.stream,
      o.unended,
      elim o.goes [
        | inl can ↦ can_go_on setup n sound (stream_id k o.i) b o.unended can
        | inr spent ↦ absurd (not_spent setup n sound (stream_id k o.i) b o.unended spent)
      ],
    )
