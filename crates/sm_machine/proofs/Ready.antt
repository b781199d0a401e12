-- The conditions of each kind of step are met, in a machine that keeps what every machine keeps.
use Rattle.std.proofs.Common.{◌≡◌, ℕ, ◌-◌, ◌^◌, ◌<◌, Bool, true, false, not, Option, Some, None, Result, Ok, Err, IsOk, refl, sym, ap, ◌∙◌, subst, arith}
use Rattle.std.specs.Prelude.{is_some}
use Rattle.std.proofs.lemmas.Bool.{and_from}
use Rattle.sm_reservation.specs.Hold.{minus, plus}
use Rattle.sm_reservation.specs.HoldOf.{hold_of}
use Rattle.sm_reservation.specs.Capacity.{HoldModel, HasCapacity}
use Rattle.sm_reservation.specs.Pool.{IsKnownHold, leads_of}
use Rattle.sm_reservation.specs.CanJoin.{CanJoin}
use Rattle.sm_reservation.specs.declared.stream_id.StreamId.{StreamId}
use Rattle.sm_plan_code.specs.declared.instruction.Instr.{Instr}
use Rattle.sm_plan_code.specs.declared.instruction.Instr.TheVariants.{Publish, Unlist, Signal, Wait}
use Rattle.sm_plan_code.specs.declared.call.ServerCall.{ServerCall}
use Rattle.sm_plan_code.specs.Instr.{IsOwn}
use Rattle.sm_plan_code.specs.Plan.{IsSmallStream}
use Rattle.sm_plan_code.specs.After.{to_list}
use Rattle.sm_plan_code.specs.Table.{gives_of, crown}
use Rattle.sm_verifier.specs.Step.{parcels_of}
use Rattle.sm_verifier.specs.Stream.{no_stream, stream_at}
use Rattle.sm_protocol.specs.State.{State, plan_at, stream_parts, progress_of, is_begun, is_running, hold_of_stream, signal_count, parcel_at}
use Rattle.sm_protocol.specs.State as state
use Rattle.sm_protocol.proofs.Invariant.{IsKept}
use Rattle.sm_protocol.proofs.Cases.{IsBefore, IsTry, answer_to}
use Rattle.sm_protocol.proofs.Keeping.{begun}
use Rattle.sm_protocol.proofs.Trials.{running}
use Rattle.sm_protocol.proofs.Courses.{not_posted, not_awaited}
use Rattle.sm_reservation.specs.Short.{first_short}
use Rattle.sm_protocol.proofs.LogRoom.{has_room}
use Rattle.sm_protocol.proofs.Safety.{is_safe}
use Rattle.sm_protocol.proofs.SmallNumbers.{numbers_stay_small}
use Rattle.sm_protocol.proofs.Tries.{call_is_own}
use Rattle.sm_machine.specs.Course.{hold_in, rights_in, HasCapacityIn, IsGrantInOrder}
use Rattle.sm_machine.specs.State.{Whole}
use Rattle.sm_machine.specs.Trade.{CanTrade, CanTradeUnless, IsTradedBy}
use Rattle.sm_machine.specs.Ready.{IsReadyToGo, IsReadyToCall, IsReadyToTrade, IsReadyToPublish, IsReadyToPost, IsReadyToTake, IsReadyToEnd}
use Rattle.sm_machine.specs.Working.{IsWorking, HasCapacityOn, IsUnsent}
use Rattle.sm_machine.proofs.ties.Before.{kept, hold_behind, can_reach}
use Rattle.sm_machine.proofs.ties.Exchanging.{can_exchange}
use Rattle.sm_machine.proofs.ties.Calling.{can_call}
use Rattle.sm_machine.proofs.ties.Freeing.{room_to_step}
use Rattle.sm_machine.proofs.ties.Publishing.{can_publish, can_unlist, publish_gives}
use Rattle.sm_machine.proofs.ties.Carrying.{can_send, can_take, can_give_back}

-- what is not refused is answered
answered : {A B : Type 0} (r : Result A B) → ((why : B) → r ≡ Err why → ⊥) → IsOk r
answered (Ok x) h = refl
answered (Err why) h = absurd (h why refl)

module _ (x : Whole) (g : IsWorking x) (id : StreamId) where
  abbrev w : State
  w = x.state

  abbrev grant : Option HoldModel
  grant = x.grants id.plan id.stream

  v : IsKept w
  v = kept x.setup w g.reached

  -- a stream that was begun and has not made its end is running
  pub runs : is_begun w id ≡ true → (progress_of w id).done ≡ false → is_running w id ≡ true
  runs b d = and_from (is_begun w id) (not (progress_of w id).done) b (ap not d)

  small_stream : is_begun w id ≡ true → IsSmallStream (stream_parts w id)
  small_stream b =
      let n = begun w id b in
      (v.plans id.plan n.plan).checked.parts.small.streams id.stream no_stream n.stream

  pub ready_to_go : (o : Option Instr) → IsBefore w id o → IsReadyToGo w id
  ready_to_go o b =
      let n = begun w id b.begun in
      let within = ((v.plans id.plan n.plan).streams id.stream n.stream).within in
      let small = (small_stream b.begun).code in
      record {
        begun = b.begun;
        running = b.running;
        at = omega arith;
        room = room_to_step x.setup w g.reached id (runs b.begun b.running);
      }

  pub fresh_signal : (q : ℕ) → IsBefore w id (Some (Signal q)) → (q < signal_count w id.plan) × ((w.marks id.plan q).posted ≡ false) × ((w.marks id.plan q).awaited ≡ false)
  fresh_signal q b =
      let n = begun w id b.begun in
      not_posted w.sizes w.place (plan_at w id.plan) (w.progress id.plan) (w.marks id.plan) (running w v id n) id.stream n.stream q b.next_is

  -- the signal that a stream waits for is one of its plan, and was not awaited before
  pub waited_signal : (q : ℕ) → IsBefore w id (Some (Wait q)) → (q < signal_count w id.plan) × ((w.marks id.plan q).awaited ≡ false)
  waited_signal q b =
      let n = begun w id b.begun in
      let once = not_awaited w.sizes w.place (plan_at w id.plan) (w.progress id.plan) (w.marks id.plan) (running w v id n) id.stream n.stream q b.next_is in
      (once.0, once.1)

  module _ (order : IsGrantInOrder grant) (there : is_some grant ≡ not (progress_of w id).done) where
    -- what a stream that hasn't made its end holds is a grant
    pub some_grant : (progress_of w id).done ≡ false → (k : HoldModel) × (grant ≡ Some k)
    some_grant d = go grant refl
      where
        go : (o : Option HoldModel) → grant ≡ o → (k : HoldModel) × (grant ≡ Some k)
        go (Some k) e = (k, e)
        go None e = absurd (let f = ap is_some e in let h = ap not d in cc)

    module _ (i : Instr) (b : IsBefore w id (Some i)) (own : IsOwn i) (here : (progress_of w id).ahead ≡ false) where
      -- the grant can make the trade of the next instruction, which leaves what the stream holds behind it
      pub can_trade : CanTrade w.sizes i grant × ((h : Option HoldModel) → IsTradedBy w.sizes i grant h → hold_in h ≡ hold_behind w id)
      can_trade =
          let s = some_grant b.running in
          subst (λ o. CanTrade w.sizes i o × ((h : Option HoldModel) → IsTradedBy w.sizes i o h → hold_in h ≡ hold_behind w id)) (sym s.1)
          (go s.0 (subst IsGrantInOrder s.1 order) (subst (λ o. hold_in o ≡ hold_of_stream w id.plan id.stream) s.1 (g.tied.grants id (runs b.begun b.running))) (subst (HasCapacityOn (stream_at w.sizes (plan_at w id.plan) id.stream)) s.1 (g.capacities id b.begun)))
        where
          go : (k : HoldModel) → IsGrantInOrder (Some k) → hold_of k.rights ≡ hold_of_stream w id.plan id.stream → HasCapacityOn (stream_at w.sizes (plan_at w id.plan) id.stream) (Some k) →
              CanTrade w.sizes i (Some k) × ((h : Option HoldModel) → IsTradedBy w.sizes i (Some k) h → hold_in h ≡ hold_behind w id)
          go k o e r =
              let c = can_exchange x.setup w g.reached id i b own here k e o.ordered o.positive r.0 r.1 r.2 in (
                record { signals = parcels_of (plan_at w id.plan).signals; made = subst IsOk (sym c.leaves) refl; joins = c.fits; capacity = c.capacity },
                λ h t. t.hold ∙ c.left,
              )

    -- all that the trade asks for is there, at an instruction that is no signal, no wait and not ahead
    pub ready_to_trade : (i : Instr) → IsBefore w id (Some i) → IsOwn i → (progress_of w id).ahead ≡ false → IsReadyToTrade x id i
    ready_to_trade i b own here =
        record { begun = b.begun; running = b.running; known = (can_reach w v id i b).shard; own = own; can = (can_trade i b own here).0 }

    trade_unless : (i : Instr) (b : IsBefore w id (Some i)) → IsOwn i → (t : Bool) → (progress_of w id).ahead ≡ t → CanTradeUnless t w.sizes i grant
    trade_unless i b own true e = tt
    trade_unless i b own false e = (can_trade i b own e).0

    -- all that a call asks for is there, where the stream tries it
    pub ready_to_call : (i : Instr) (c : ServerCall) → IsTry w id i c → (progress_of w id).tries < 2 ^ 64 - 1 → IsReadyToCall x id i c
    ready_to_call i c t few =
        let safe = is_safe w v (has_room x.setup w g.reached) in
        let small = numbers_stay_small x.setup w g.reached in
        let call = can_call w v id i t.before t.call c t.call_is in
        let budget = (small_stream t.before.begun).budget in
        let effects = safe.effects id t.before.begun in
        record {
          go = ready_to_go (Some i) t.before;
          known = (can_reach w v id i t.before).shard;
          own = call_is_own i t.call;
          can = trade_unless i t.before (call_is_own i t.call) (progress_of w id).ahead refl;
          call = record { shard = call.shard; server = call.server; party = call.party; number = call.number; served = answered (answer_to w id c) call.served };
          numbers = small.numbers;
          next = small.next_number;
          tries = few;
          effects = omega arith;
        }

    -- ---- publications

    -- all that a publish asks for is there, with the server that it lists under the shard's lead
    pub ready_to_publish : (s : ℕ) → IsBefore w id (Some (Publish s)) → IsReadyToPublish w id s (to_list (leads_of w.sizes w.place s))
    ready_to_publish s b =
        let c = can_publish x.setup w g.reached id s b in
        record { go = ready_to_go (Some (Publish s)) b; shard = c.shard; listed = c.known; version = c.version }

    -- all that an unlist asks for is there
    pub ready_to_unlist : (s : ℕ) → IsBefore w id (Some (Unlist s)) → IsReadyToPublish w id s None
    ready_to_unlist s b =
        let c = can_unlist x.setup w g.reached id s b in
        record { go = ready_to_go (Some (Unlist s)) b; shard = c.shard; listed = c.known; version = c.version }

    -- whom the change of a publish lists
    pub lists : (s : ℕ) → IsBefore w id (Some (Publish s)) → (gives_of w.sizes (Publish s) (hold_in grant)).crown ≡ crown s (leads_of w.sizes w.place s) (to_list (leads_of w.sizes w.place s))
    lists s b =
        let k = some_grant b.running in
        let e = g.tied.grants id (runs b.begun b.running) in
        let f = publish_gives x.setup w g.reached id s b k.0 (ap hold_in (sym k.1) ∙ e) in
        ap (λ o. (gives_of w.sizes (Publish s) (hold_in o)).crown) k.1 ∙ f

    -- ---- signals

    -- all that a signal asks for is there; it leaves what the stream holds behind it and the parcel under way
    pub ready_to_post : (q : ℕ) → IsBefore w id (Some (Signal q)) → IsReadyToPost x id q
        × ((h o : Option HoldModel) → hold_in h ≡ minus (hold_in grant) (parcel_at w id.plan q) → hold_in o ≡ plus (hold_in (x.parcels id.plan q)) (parcel_at w id.plan q) →
        (hold_in h ≡ hold_behind w id) × (hold_in o ≡ hold_of (parcel_at w id.plan q)))
    ready_to_post q b =
        let s = some_grant b.running in
        let n = begun w id b.begun in
        let once = fresh_signal q b in
        go s.0 s.1 (x.parcels id.plan q) refl (g.unsent id.plan q n.plan once.0 once.1)
      where
        go : (k : HoldModel) → grant ≡ Some k → (o : Option HoldModel) → x.parcels id.plan q ≡ o → IsUnsent (x.parcels id.plan q) (parcel_at w id.plan q) → IsReadyToPost x id q
            × ((h n : Option HoldModel) → hold_in h ≡ minus (hold_in grant) (parcel_at w id.plan q) → hold_in n ≡ plus (hold_in (x.parcels id.plan q)) (parcel_at w id.plan q) →
            (hold_in h ≡ hold_behind w id) × (hold_in n ≡ hold_of (parcel_at w id.plan q)))
        go k e None f u = absurd (subst (λ o. IsUnsent o (parcel_at w id.plan q)) f u)
        go k e (Some into) f u =
            let empty = subst (λ o. IsUnsent o (parcel_at w id.plan q)) f u in
            let tied = ap hold_in (sym e) ∙ g.tied.grants id (runs b.begun b.running) in
            let c = can_send x.setup w g.reached id q b k into tied empty.0 empty.1 in (
              record {
                go = ready_to_go (Some (Signal q)) b;
                signal = c.signal;
                there = c.awaited;
                held = ap (λ o. first_short (hold_in o) (parcel_at w id.plan q)) e ∙ c.enough;
                fits = subst (λ o. CanJoin (hold_in o) (hold_of (parcel_at w id.plan q))) (sym f) c.fits;
                capacity = subst (λ o. HasCapacityIn o (parcel_at w id.plan q)) (sym f) c.capacity;
              },
              λ h n i j. (i ∙ ap (λ o. minus (hold_in o) (parcel_at w id.plan q)) e ∙ c.left, j ∙ ap (λ o. plus (hold_in o) (parcel_at w id.plan q)) f ∙ c.sent),
            )

    -- all that a wait for a posted signal asks for is there; it leaves what the stream holds behind it
    pub ready_to_take : (q : ℕ) → IsBefore w id (Some (Wait q)) → (w.marks id.plan q).posted ≡ true → IsGrantInOrder (x.parcels id.plan q) →
        is_some (x.parcels id.plan q) ≡ not (w.marks id.plan q).awaited → IsReadyToTake x id q
        × ((h : Option HoldModel) → hold_in h ≡ plus (hold_in grant) (rights_in (x.parcels id.plan q)) → hold_in h ≡ hold_behind w id)
    ready_to_take q b posted parcel_order parcel_there =
        let s = some_grant b.running in
        go s.0 s.1 (x.parcels id.plan q) refl
      where
        once : (q < signal_count w id.plan) × ((w.marks id.plan q).awaited ≡ false)
        once = waited_signal q b

        go : (k : HoldModel) → grant ≡ Some k → (o : Option HoldModel) → x.parcels id.plan q ≡ o → IsReadyToTake x id q
            × ((h : Option HoldModel) → hold_in h ≡ plus (hold_in grant) (rights_in (x.parcels id.plan q)) → hold_in h ≡ hold_behind w id)
        go k e None f = absurd (let a = parcel_there ∙ ap not once.1 in let c = ap is_some f in cc)
        go k e (Some from) f =
            let n = begun w id b.begun in
            let room = subst (HasCapacityOn (stream_at w.sizes (plan_at w id.plan) id.stream)) e (g.capacities id b.begun) in
            let ordered = subst IsGrantInOrder e order in
            let sent_ordered = subst IsGrantInOrder f parcel_order in
            let tied = ap hold_in (sym e) ∙ g.tied.grants id (runs b.begun b.running) in
            let carries : hold_in (x.parcels id.plan q) ≡ hold_of (parcel_at w id.plan q) = g.tied.parcels id.plan q n.plan once.0 ∙ (rw (posted, once.1) refl) in
            let c = can_take x.setup w g.reached id q b posted k from tied ordered.ordered ordered.positive (ap hold_in (sym f) ∙ carries) sent_ordered.ordered room.0 room.1 room.2 in (
              record {
                go = ready_to_go (Some (Wait q)) b;
                signal = c.signal;
                there = c.awaited;
                fits = subst (λ o. CanJoin (hold_in o) (hold_in (x.parcels id.plan q))) (sym e) (subst (λ o. CanJoin (hold_of k.rights) (hold_in o)) (sym f) c.fits);
                capacity = subst (λ o. HasCapacityIn o (rights_in (x.parcels id.plan q))) (sym e) (subst (λ o. HasCapacity k (rights_in o)) (sym f) c.capacity);
              },
              λ h i. i ∙ ap (λ o. plus (hold_in o) (rights_in (x.parcels id.plan q))) e ∙ ap (λ o. plus (hold_of k.rights) (rights_in o)) f ∙ c.left,
            )

    -- ---- ends

    -- all that the end of a stream asks for is there
    pub ready_to_end : IsBefore w id None → IsReadyToEnd x id
    ready_to_end b =
        let n = begun w id b.begun in
        let tied = g.tied.grants id (runs b.begun b.running) in
        let c = can_give_back x.setup w g.reached id n b.running in
        let go = ready_to_go None b in
        record {
          begun = b.begun;
          running = b.running;
          below = subst (IsKnownHold w.sizes.shards w.sizes.servers) (sym tied) c.0;
          fits = subst (λ h. CanJoin h (hold_in grant)) (sym g.tied.pool) (subst (CanJoin (state.pool w)) (sym tied) c.1);
          room = go.room;
        }
