-- Some stream of each unfinished plan can go on.
use Rattle.std.proofs.Common.{◌≡◌, ◌≢◌, ℕ, suc, ◌+◌, ◌<◌, ◌⊎◌, refl, sym, ap, ◌∙◌, inl, inr, subst, arith, not, Bool, true, false, Option, Some, None, List, [], ◌∷◌, ◌++◌, length}
use Rattle.std.specs.Prelude.{◌==◌, ◌&&◌, ◌-◌, IsSome, if◌then◌else◌, is_none, is_some, nat_lt, option_map, slice_get, unwrap_or}
use Rattle.std.specs.Option.{option_to_list}
use Rattle.std.proofs.lemmas.Bool.{and_from, eq-eqb, lt-ltb}
use Rattle.sm_server.specs.declared.call.Cell.{Cell}
use Rattle.sm_server.specs.Call.{led_to}
use Rattle.sm_placement.proofs.Calls.{served_ok}
use Rattle.sm_placement.specs.Setup.{Setup}
use Rattle.sm_reservation.specs.declared.stream_id.StreamId.{StreamId}
use Rattle.sm_plan_code.specs.declared.call.ServerCall.{ServerCall}
use Rattle.sm_protocol.specs.State.{State, is_begun, is_running, is_unfinished, progress_of, stream_count, stream_id}
use Rattle.sm_protocol.specs.Happens.{Step, happens}
use Rattle.sm_protocol.proofs.Courses.{some_same}
use Rattle.sm_protocol.proofs.Invariant.{IsKept}
use Rattle.sm_protocol.proofs.Keeping.{is_begun_true}
use Rattle.sm_protocol.proofs.Whole.{reached_keeps}
use Rattle.sm_agent.specs.declared.order.Verdict.{Verdict}
use Rattle.sm_agent.specs.declared.order.Verdict.TheVariants as verdict
use Rattle.sm_agent.specs.Order.{begun_slot, committed, is_done}
use Rattle.laws_network.specs.Net.{Answer, Control, Deliver, Net, Order, Quiet, answer_taken, at_place, call_now, comes, controlled, delivered, is_awaited, is_own, net_run, order_for, order_of, since_of}
use Rattle.laws_network.specs.Laws.{HasMovedOn, round_trip}
use Rattle.laws_network.specs.World.{Publication, is_answered_by, publication_for, publication_now, publication_of}
use Rattle.laws_network.specs.Controller.{Controller, Letter, Made, Stored, entry_recorded, goes_on, letter, letter_of, notice}
use Rattle.laws_network.specs.Fleet.{Fleet, controller, has_lost, load_used, order_read, owner_verdict, slot_for, notice_stamp, verdict_of}
use Rattle.laws_network.specs.FleetLaws.{AreNamedKnown, EachFleet, FleetGoesOn, GoesByOrder, GoesByPublication, SomeFleetCanGoOn}
use Rattle.laws_network.proofs.AtServer.{IsAway, IsBySlot, IsHeard, Lower, Refuses, Same, Serves, heard, judged_is}
use Rattle.laws_network.proofs.Behind.{present_engages}
use Rattle.laws_network.proofs.Calls.{step_moves}
use Rattle.laws_network.proofs.Calm.{IsCalm, ready}
use Rattle.laws_network.proofs.Commands.{publisher_steps, state_reached}
use Rattle.laws_network.proofs.Deliveries.{shade_of}
use Rattle.laws_network.proofs.Events.{at_call_of}
use Rattle.laws_network.proofs.Forwarders.{can_be_done}
use Rattle.laws_network.proofs.OfFleet.{net_of, present_heard}
use Rattle.laws_network.proofs.Raised.{net_is_calm, some_can_go_on}
use Rattle.laws_network.proofs.Reaching.{fleet_shadow}
use Rattle.laws_network.proofs.ReadyOwners.{AreOwnersReady, owners_ready}
use Rattle.laws_network.proofs.Shadow.{IsShadow}

-- ---- orders

-- the order of a running stream before a call is awaited
pub awaits : (base : ℕ) (w : State) (id : StreamId) (o : Order) → order_of base w id ≡ Some o → (is_awaited base w o ≡ true) × (o.stream ≡ id)
awaits base w id o e = go (is_running w id) (call_now w id) refl refl e
  where
    go : (b : Bool) (c : Option ServerCall) → is_running w id ≡ b → call_now w id ≡ c → (if b then order_for base w id c else None) ≡ Some o → (is_awaited base w o ≡ true) × (o.stream ≡ id)
    go false c r q e = absurd (cc)
    go true None r q e = absurd (cc)
    go true (Some x) r q e =
        let same = some_same _ o e in
        let number = ap (λ (z : Order). z.number) (sym same) in
        let stream = ap (λ (z : Order). z.stream) (sym same) in
        let here : is_awaited base w (record o { stream = id }) ≡ true = and_from (is_running w id) _ r (and_from (is_some (call_now w id)) _ (ap is_some q) (eq-eqb o.number (base + since_of w id + 1) number)) in
        (subst (λ i. is_awaited base w (record o { stream = i }) ≡ true) (sym stream) here, stream)

-- a step over it moves the stream on
pub order_moves : (base : ℕ) (w : State) (v : IsKept w) (calm : IsCalm w) (id : StreamId) (o : Order) → order_of base w id ≡ Some o → HasMovedOn w id (happens w (Step id)).1
order_moves base w v calm id o e = go (is_running w id) (call_now w id) refl refl e
  where
    go : (b : Bool) (c : Option ServerCall) → is_running w id ≡ b → call_now w id ≡ c → (if b then order_for base w id c else None) ≡ Some o → HasMovedOn w id (happens w (Step id)).1
    go false c r q e = absurd (cc)
    go true None r q e = absurd (cc)
    go true (Some x) r q e = let t = at_call_of w id x r q in inl (step_moves w v id t.0 x calm.halted (ready v calm t.1)).1

-- nothing stands behind the end of a list
behind_end : {A : Type 0} (xs : List A) → slice_get (xs ++ []) (length xs) ≡ None
behind_end [] = refl
behind_end (x ∷ xs) = behind_end xs

at_end : {A : Type 0} (xs : List A) → slice_get xs (length xs) ≡ None
at_end [] = refl
at_end (x ∷ xs) = at_end xs

-- a stream without an order makes no round trip
no_trip : (n : Net) (id : StreamId) → order_of n.base n.w id ≡ None → (net_run (round_trip n id) n).w ≡ n.w
no_trip n id e =
    ap (λ o. (net_run (Deliver (length n.sent) ∷ Answer (length n.answers) ∷ []) (record n { sent = n.sent ++ option_to_list o })).w) e
    ∙ (ap (λ a. (net_run (Answer (length n.answers) ∷ []) (at_place (record n { sent = n.sent ++ [] }) delivered a).1).w) (behind_end n.sent)
    ∙ ap (λ a. (at_place (record n { sent = n.sent ++ [] }) answer_taken a).1.w) (at_end n.answers))

-- A present order that has not had its effect is new to its server, and its call is served there.
record IsNew (f : Fleet) (l : Letter) : Type 0 where
  pub above : (slot_for f l).last < l.order.number
  pub next : Cell
  pub led : led_to l.order.call.call (slot_for f l).cell ≡ Some next

is_new : (setup : Setup) (low : ℕ → ℕ → ℕ) (f : Fleet) (k : IsShadow setup low f) (l : Letter) → letter_of (controller f) l.order.stream ≡ Some l → has_lost f l.order.call.server ≡ false → verdict_of f l ≢ verdict.Again → IsNew f l
is_new setup low f k l present known new = go (verdict_of f l) new (present_heard setup low f k l present known).1 (judged_is (f.servers l.order.call.server).base (slot_for f l) (load_used f l.order.call.server) (order_read l))
  where
    go : (x : Verdict) → x ≢ verdict.Again → (x ≡ verdict.Begin) ⊎ ((x ≡ verdict.Working) ⊎ (x ≡ verdict.Again)) → IsAway x ⊎ (IsHeard (f.servers l.order.call.server).base (order_read l).stamp × IsBySlot (slot_for f l) (load_used f l.order.call.server) (order_read l) x) →
        IsNew f l
    go x n (inl b) (inl (inl a)) = absurd (let z = sym a ∙ b in cc)
    go x n (inl b) (inl (inr (inl a))) = absurd (let z = sym a ∙ b in cc)
    go x n (inl b) (inl (inr (inr a))) = absurd (let z = sym a ∙ b in cc)
    go x n (inr (inl b)) (inl (inl a)) = absurd (let z = sym a ∙ b in cc)
    go x n (inr (inl b)) (inl (inr (inl a))) = absurd (let z = sym a ∙ b in cc)
    go x n (inr (inl b)) (inl (inr (inr a))) = absurd (let z = sym a ∙ b in cc)
    go x n (inr (inr b)) w = absurd (n b)
    go x n (inl b) (inr (g, Lower m a)) = absurd (let z = sym a ∙ b in cc)
    go x n (inr (inl b)) (inr (g, Lower m a)) = absurd (let z = sym a ∙ b in cc)
    go x n (inl b) (inr (g, Same m a)) = absurd (let z = sym a ∙ b in cc)
    go x n (inr (inl b)) (inr (g, Same m a)) = absurd (let z = sym a ∙ b in cc)
    go x n (inl b) (inr (g, Refuses m why s a)) = absurd (let z = sym a ∙ b in cc)
    go x n (inr (inl b)) (inr (g, Refuses m why s a)) = absurd (let z = sym a ∙ b in cc)
    go x n b (inr (g, Serves m next s a)) = record { above = m; next = next; led = (served_ok (slot_for f l).cell (l.room - load_used f l.order.call.server) l.load true l.order.call.call next s).1 }

-- it is committed, once its work is begun and done
pub commits_when_done : (setup : Setup) (low : ℕ → ℕ → ℕ) (f : Fleet) (k : IsShadow setup low f) (l : Letter) → letter_of (controller f) l.order.stream ≡ Some l → has_lost f l.order.call.server ≡ false → (at : ℕ) →
    is_done l.order.call.call (slot_for f l).cell (slot_for f l).cut at ≡ true → verdict_of f l ≢ verdict.Again → IsSome (committed (f.servers l.order.call.server).base (begun_slot (slot_for f l) (order_read l)) (order_read l) at)
commits_when_done setup low f k l present known at done new =
    let n = is_new setup low f k l present known new in
    let away = heard (f.servers l.order.call.server).base (order_read l).stamp (present_heard setup low f k l present known).0 in
    let above = lt-ltb (slot_for f l).last l.order.number n.above in
    let work = eq-eqb l.order.number l.order.number refl in
    let led = n.led in
    rw (away, above, work, done, led) refl

-- ---- streams

module _ (setup : Setup) (low : ℕ → ℕ → ℕ) (f : Fleet) (k : IsShadow setup low f) (named : AreNamedKnown f) (owners : AreOwnersReady f) (id : StreamId) (left : (progress_of (controller f).w id).done ≡ false) where
  abbrev c : Controller
  c = controller f

  abbrev n : Net
  n = (shade_of f k).net

  kept : IsKept (controller f).w
  kept = (reached_keeps setup (controller f).w (state_reached setup low f k)).0

  calm : IsCalm (controller f).w
  calm = net_is_calm setup (shade_of f k).net (net_of f k)

  -- a stream with an order
  with_order : (o : Order) → order_of c.base c.w id ≡ Some o → GoesByOrder f id
  with_order o e =
      let a = awaits c.base c.w id o e in
      let p = present_engages c.base c.w id o e in
      let says : letter_of c id ≡ Some (letter c o) = ap (option_map (letter c)) e in
      let present : letter_of c o.stream ≡ Some (letter c o) = subst (λ i. letter_of c i ≡ Some (letter c o)) (sym a.1) says in
      let known = named id o.call.server p.0 p.1 in
      record {
        letter = letter c o;
        present = says;
        heard = (present_heard setup low f k (letter c o) present known).1;
        done = λ new. can_be_done setup low f k (letter c o) present known owners (is_new setup low f k (letter c o) present known new).above;
        commits = λ at done new. commits_when_done setup low f k (letter c o) present known at done new;
        answered = subst (λ (u : State). HasMovedOn c.w id u) (sym (ap (λ b. (if b then goes_on c (Step o.stream) else c).w) a.0 ∙ ap (λ i. (happens c.w (Step i)).1) a.1)) (order_moves c.base c.w kept calm id o e);
      }

  -- one that makes a round trip has an order
  by_trip : HasMovedOn c.w id (net_run (round_trip n id) n).w → GoesByOrder f id
  by_trip m = go (order_of c.base c.w id) refl
    where
      stays : (progress_of (controller f).w id).done ≡ false → HasMovedOn (controller f).w id (controller f).w → ⊥
      stays d (inl q) = absurd (omega arith)
      stays d (inr q) = absurd (cc)

      go : (o : Option Order) → order_of (controller f).base (controller f).w id ≡ o → GoesByOrder f id
      go (Some o) e = with_order o e
      go None e = absurd (stays left (subst (λ (u : State). HasMovedOn (controller f).w id u) (no_trip (shade_of f k).net id e) m))

  -- ---- publications

  -- the owner hears what is published now
  owner_hears : (p : Publication) → publication_of c.base c.w id ≡ Some p → IsHeard f.owner (notice_stamp (notice c p))
  owner_hears p e = record {
    known = k.owner.known;
    journal = sym k.owner.journal;
    taken = k.owner.taken;
    fence = k.owner.fence;
    above = (let a = k.owner.number in let b = above (is_running c.w id) (publication_now c.w id) e in omega arith);
  }
    where
      above : (b : Bool) (o : Option (ℕ × Option ℕ)) → (if b then publication_for (controller f).base (controller f).w id o else None) ≡ Some p → (controller f).base < p.entry.version
      above false o q = absurd (cc)
      above true None q = absurd (cc)
      above true (Some x) q = let v = ap (λ (z : Publication). z.entry.version) (sym (some_same _ p q)) in omega arith

  by_owner : (p : Publication) → publication_of c.base c.w id ≡ Some p → (owner_verdict f (notice c p) ≡ verdict.Begin) ⊎ (owner_verdict f (notice c p) ≡ verdict.Again)
  by_owner p e = subst (λ o. (unwrap_or o rest ≡ verdict.Begin) ⊎ (unwrap_or o rest ≡ verdict.Again)) (sym (heard f.owner (notice_stamp (notice c p)) (owner_hears p e))) (either (nat_lt (f.shown p.shard).version p.entry.version))
    where
      rest : Verdict
      rest = if nat_lt (f.shown p.shard).version p.entry.version then verdict.Begin else verdict.Again

      either : (b : Bool) → ((if b then verdict.Begin else verdict.Again) ≡ verdict.Begin) ⊎ ((if b then verdict.Begin else verdict.Again) ≡ verdict.Again)
      either true = inl refl
      either false = inr refl

  -- a publication that its stream has now answers itself
  answers_itself : (p : Publication) → publication_of c.base c.w id ≡ Some p → (is_answered_by p (publication_of c.base c.w p.stream) ≡ true) × (p.stream ≡ id)
  answers_itself p e =
      let s = stream (is_running c.w id) (publication_now c.w id) e in
      (ap (is_answered_by p) (ap (publication_of c.base c.w) s ∙ e) ∙ and_from (p.shard == p.shard) (p.entry.version == p.entry.version) (eq-eqb p.shard p.shard refl) (eq-eqb p.entry.version p.entry.version refl), s)
    where
      stream : (b : Bool) (o : Option (ℕ × Option ℕ)) → (if b then publication_for (controller f).base (controller f).w id o else None) ≡ Some p → p.stream ≡ id
      stream false o q = absurd (cc)
      stream true None q = absurd (cc)
      stream true (Some x) q = ap (λ (z : Publication). z.stream) (sym (some_same _ p q))

  with_publication : (p : Publication) → publication_of c.base c.w id ≡ Some p → HasMovedOn c.w id (comes n (Control (Step id))).1.w → GoesByPublication f id
  with_publication p e m =
      let a = answers_itself p e in
      let own : is_own c.w (Step p.stream) ≡ true = publisher_steps c.base c.w p a.0 in
      let step : (comes n (Control (Step id))).1.w ≡ (entry_recorded c (Stored p)).w =
      ap (λ i. (comes n (Control (Step i))).1.w) (sym a.1)
      ∙ (ap (λ b. (if b then controlled n (happens c.w (Step p.stream)) else (Quiet, n)).1.w) own
      ∙ sym (ap (λ b. (if b then goes_on c (Step p.stream) else c).w) a.0)) in
      record { notice = notice c p; present = ap (option_map (notice c)) e; heard = by_owner p e; answered = subst (λ (u : State). HasMovedOn c.w id u) step m }

  -- ---- steps

  -- a stream that moves by a step of the controller
  by_step : is_running c.w id ≡ true → HasMovedOn c.w id (comes n (Control (Step id))).1.w → FleetGoesOn f id
  by_step runs m = go (publication_now c.w id) refl
    where
      alone : is_none (publication_now (controller f).w id) ≡ true → (comes (shade_of f k).net (Control (Step id))).1.w ≡ (entry_recorded (controller f) (Made (Step id))).w
      alone e = by_own (is_own (controller f).w (Step id)) refl
        where
          and_true : (b : Bool) → (b && true) ≡ b
          and_true true = refl
          and_true false = refl

          by_own : (b : Bool) → is_own (controller f).w (Step id) ≡ b → (if b then controlled (shade_of f k).net (happens (controller f).w (Step id)) else (Quiet, (shade_of f k).net)).1.w ≡ (entry_recorded (controller f) (Made (Step id))).w
          by_own true q = sym (ap (λ b. (if b then goes_on (controller f) (Step id) else controller f).w) (ap (λ b. is_own (controller f).w (Step id) && b) e ∙ (and_true (is_own (controller f).w (Step id)) ∙ q)))
          by_own false q = sym (ap (λ b. (if b then goes_on (controller f) (Step id) else controller f).w) (ap (λ b. is_own (controller f).w (Step id) && b) e ∙ (and_true (is_own (controller f).w (Step id)) ∙ q)))

      go : (o : Option (ℕ × Option ℕ)) → publication_now (controller f).w id ≡ o → FleetGoesOn f id
      go None e = inl (subst (λ (u : State). HasMovedOn (controller f).w id u) (alone (ap is_none e)) m)
      go (Some x) e =
          let p : Publication = record { stream = id; shard = x.0; entry = record { server = x.1; version = (controller f).base + suc ((controller f).w.place.version x.0) } } in
          let current : publication_of (controller f).base (controller f).w id ≡ Some p =
          ap (λ b. if b then publication_for (controller f).base (controller f).w id (publication_now (controller f).w id) else None) runs ∙ ap (publication_for (controller f).base (controller f).w id) e in
          inr (inr (with_publication p current m))

-- some stream of an unfinished plan can go on
pub some_goes : (setup : Setup) (low : ℕ → ℕ → ℕ) (f : Fleet) (k : IsShadow setup low f) → AreNamedKnown f → AreOwnersReady f → (j : ℕ) → j < length (controller f).w.plans → is_unfinished (controller f).w j ≡ true →
    (i : ℕ) × (i < stream_count (controller f).w j) × (((controller f).w.progress j i).done ≡ false) × FleetGoesOn f (stream_id j i)
some_goes setup low f k named owners j l unfinished =
    let s = some_can_go_on setup (shade_of f k).net (net_of f k) j l unfinished in
    let id = stream_id j s.0 in
    let w = (controller f).w in
    let runs : is_running w id ≡ true = and_from (is_begun w id) (not (progress_of w id).done) (is_begun_true w id (record { plan = l; stream = s.1 })) (ap not s.2) in (
      s.0,
      s.1,
      s.2,
      elim s.3 [
        | inl m ↦ by_step setup low f k named owners id s.2 runs m
        | inr m ↦ inr (inl (by_trip setup low f k named owners id s.2 m))
      ],
    )

-- some stream of each unfinished plan can go on
pub some_fleet_can_go_on : EachFleet SomeFleetCanGoOn
some_fleet_can_go_on setup f r named j l unfinished = some_goes setup (λ s v. 0) f (fleet_shadow setup f r) named (owners_ready setup f r named) j l unfinished
