-- The needs and the results of the code of each kind of step.
use Rattle.std.proofs.Common.{◌≡◌, ℕ, ◌+◌, ◌-◌, ◌^◌, ◌<◌, ◌≤◌, Bool, true, false, not, Option, Some, None, Ok, refl, sym, ap, ◌∙◌, subst, arith}
use Rattle.std.specs.Prelude.{is_some, IfSome, ◌==◌}
use Rattle.sm_placement.specs.Sums.{put2}
use Rattle.sm_placement.specs.Place.{called_numbered}
use Rattle.sm_reservation.specs.Hold.{minus, plus, no_hold}
use Rattle.sm_reservation.specs.Capacity.{HoldModel}
use Rattle.sm_reservation.specs.Pool.{leads_of}
use Rattle.sm_reservation.specs.declared.stream_id.StreamId.{StreamId}
use Rattle.sm_plan_code.specs.declared.instruction.Instr.{Instr}
use Rattle.sm_plan_code.specs.declared.instruction.Instr.TheVariants.{Publish, Unlist, Signal, Wait}
use Rattle.sm_plan_code.specs.declared.call.ServerCall.{ServerCall}
use Rattle.sm_plan_code.specs.declared.limits.TheConstants.{MOST_PLACES}
use Rattle.sm_plan_code.specs.Instr.{is_call, shard_of}
use Rattle.sm_plan_code.specs.After.{to_list}
use Rattle.sm_plan_code.specs.Table.{exchange_of, crown}
use Rattle.sm_reservation.specs.declared.change.Change.{Change as Exchange}
use Rattle.sm_protocol.specs.declared.event.Passage.TheVariants.{Through, LostBefore, LostAfter}
use Rattle.sm_protocol.specs.declared.event.Passage.{Passage}
use Rattle.sm_protocol.specs.declared.event.Played.TheVariants as played
use Rattle.sm_protocol.specs.declared.event.Event.TheVariants as event
use Rattle.sm_protocol.specs.State.{State, progress_of, allowance, free_places, signal_count, parcel_at, numbers_end}
use Rattle.sm_protocol.specs.Steps.{call_to_make, call_number, served_try, behind_call, ahead_of_call, call_lost, entry_added, posted, ended, call_tried}
use Rattle.sm_protocol.proofs.Cases.{IsBefore, IsTry}
use Rattle.sm_protocol.proofs.LogRoom.{has_room}
use Rattle.sm_protocol.proofs.Reached.{of_opening}
use Rattle.sm_protocol.proofs.SmallNumbers.{numbers_stay_small}
use Rattle.sm_machine.specs.Course.{hold_in, rights_in, capacity_in, IsGrantInOrder}
use Rattle.sm_placement.specs.Setup.{Setup, sizes_of}
use Rattle.sm_placement.specs.Place.{Place}
use Rattle.sm_protocol.specs.Laws.{IsOpening}
use Rattle.sm_machine.specs.State.{Whole, with_state, opened_whole}
use Rattle.sm_machine.specs.Steps.{taken, ended_whole}
use Rattle.sm_machine.specs.Trade.{IsTradedBy, IsTradedUnless}
use Rattle.sm_machine.specs.Ready.{IsReadyToCall, IsReadyToTrade, IsReadyToPublish, IsReadyToPost, IsReadyToTake, IsReadyToEnd}
use Rattle.sm_machine.specs.Working.{IsWorking, IsAt, IsStepped}
use Rattle.sm_machine.proofs.Ready.{lists, ready_to_trade, ready_to_call, ready_to_publish, ready_to_unlist, ready_to_post, ready_to_take, ready_to_end, waited_signal}
use Rattle.sm_machine.proofs.Working.{before, stepped_idle, stepped_published, stepped_unlisted, stepped_lost, stepped_through, stepped_unanswered, stepped_posted, stepped_taken, stepped_ended}
use Rattle.sm_machine.proofs.ties.Before.{kept, can_reach}
use Rattle.sm_machine.proofs.ties.Carrying.{none_ahead}
use Rattle.sm_machine.proofs.ties.Reaching.{reached_halted, reached_opened, tied_opened}
use Rattle.sm_machine.proofs.ties.Counters.{counted_halted, counted_opened, counted_ended}
use Rattle.sm_machine.proofs.ties.Tying.{tied_halted}
use Rattle.sm_machine.proofs.ties.Making.{made_call}

-- the stream, at the instruction i
module _ (x : Whole) (id : StreamId) (i : Instr) (at : IsAt x id (Some i)) where
  abbrev w : State
  w = x.state

  here : IsBefore w id (Some i)
  here = before x id (Some i) at

  pub not_ahead : is_call i ≡ false → (progress_of w id).ahead ≡ false
  not_ahead e = none_ahead w (kept x.setup w at.working.reached) id i here e

  -- the instruction's shard, if it has one, is known
  pub shard_known : IfSome (shard_of i) (λ s. s < w.sizes.shards)
  shard_known = (can_reach w (kept x.setup w at.working.reached) id i here).shard

  -- each shard's highest handover number is below the numbers' end
  pub small_numbers : (s : ℕ) → w.numbers s < numbers_end
  small_numbers = (numbers_stay_small x.setup w at.working.reached).numbers

  -- a stream that hasn't spent its allowance has made fewer tries than a u64 counts
  pub few_tries : (n : ℕ) → allowance w id ≡ n → n < 2 ^ 64 → ((progress_of w id).tries ≡ n → ⊥) → (progress_of w id).tries < 2 ^ 64 - 1
  few_tries n e l unspent =
      let h = has_room x.setup w at.working.reached in
      let t : (progress_of w id).tries ≤ allowance w id = h.tries id.plan id.stream in
      omega arith

  -- a call with the allowance spent
  pub spent : (p : Passage) (c : ServerCall) → is_call i ≡ true → call_to_make w (progress_of w id) i ≡ Some c → ((progress_of w id).tries == allowance w id) ≡ true → IsStepped x id p played.Spent x
  spent p c e f s = stepped_idle x id (Some i) at p played.Spent (made_call w id p i e ∙ ap (call_tried w id p i) f ∙ (rw s refl))

  module _ (order : IsGrantInOrder (x.grants id.plan id.stream)) (there : is_some (x.grants id.plan id.stream) ≡ not (progress_of w id).done) where
    module _ (c : ServerCall) (call : is_call i ≡ true) (makes : call_to_make w (progress_of w id) i ≡ Some c) (unspent : ((progress_of w id).tries == allowance w id) ≡ false)
        (few : (progress_of w id).tries < 2 ^ 64 - 1) where
      try : IsTry w id i c
      try = record { before = here; call = call; unspent = unspent; call_is = makes }

      -- all that the call of a try asks for is there
      pub call_asks : IsReadyToCall x id i c
      call_asks = ready_to_call x at.working id order there i c try few

      -- a try that is served and answered is the stream's step, with Moved as its answer
      pub through_leaves : (y : Whole) (fresh : Bool) →
          called_numbered w.sizes w.place c.shard c.server c.call (call_number w (progress_of w id)) ≡ Ok (record { place = y.state.place; fresh = fresh }) →
          y ≡ record x { state = served_try w id i (record { place = y.state.place; fresh = fresh }) (behind_call (progress_of w id) fresh) (event.Step id) played.Moved; grants = put2 x.grants id.plan id.stream (y.grants id.plan id.stream) } →
          IsTradedUnless (progress_of w id).ahead w.sizes i (x.grants id.plan id.stream) (y.grants id.plan id.stream) → IsStepped x id Through played.Moved y
      through_leaves y fresh e f t =
          subst (IsStepped x id Through played.Moved) (sym f)
          (stepped_through x id (Some i) at order there i c try (record { place = y.state.place; fresh = fresh }) e (y.grants id.plan id.stream) t)

      -- a try that is served, and whose answer is lost, is the stream's step, with Lost as its answer
      pub unanswered_leaves : (y : Whole) (fresh : Bool) →
          called_numbered w.sizes w.place c.shard c.server c.call (call_number w (progress_of w id)) ≡ Ok (record { place = y.state.place; fresh = fresh }) →
          y ≡ record x { state = served_try w id i (record { place = y.state.place; fresh = fresh }) (ahead_of_call w (progress_of w id) fresh) (event.Lose id true) played.Lost; grants = put2 x.grants id.plan id.stream (y.grants id.plan id.stream) } →
          IsTradedUnless (progress_of w id).ahead w.sizes i (x.grants id.plan id.stream) (y.grants id.plan id.stream) → IsStepped x id LostAfter played.Lost y
      unanswered_leaves y fresh e f t =
          subst (IsStepped x id LostAfter played.Lost) (sym f)
          (stepped_unanswered x id (Some i) at order there i c try (record { place = y.state.place; fresh = fresh }) e (y.grants id.plan id.stream) t)

      -- a try that is lost before it comes to its server is the stream's step, with Lost as its answer
      pub lost_leaves : (y : Whole) → y ≡ with_state x (call_lost w id) → IsStepped x id LostBefore played.Lost y
      lost_leaves y f = subst (IsStepped x id LostBefore played.Lost) (sym f) (stepped_lost x id (Some i) at order there i c try)

-- ---- publications

module _ (x : Whole) (id : StreamId) (s : ℕ) where
  module _ (at : IsAt x id (Some (Publish s))) (order : IsGrantInOrder (x.grants id.plan id.stream)) (there : is_some (x.grants id.plan id.stream) ≡ not (progress_of x.state id).done) where
    -- all that the trade of a publish asks for is there
    pub publish_asks : IsReadyToTrade x id (Publish s)
    publish_asks = ready_to_trade x at.working id order there (Publish s) (before x id _ at) tt (not_ahead x id (Publish s) at refl)

    -- whom the change lists
    pub publish_lists : (change : Exchange) (listed : Option ℕ) → change ≡ exchange_of x.state.sizes (Publish s) (hold_in (x.grants id.plan id.stream)) → IfSome change.got.crown (λ c. listed ≡ c.listed) →
        listed ≡ to_list (leads_of x.state.sizes x.state.place s)
    publish_lists change listed e f =
        let g : change.got.crown ≡ crown s (leads_of x.state.sizes x.state.place s) (to_list (leads_of x.state.sizes x.state.place s)) =
        ap (λ z. z.got.crown) e ∙ lists x at.working id order there s (before x id _ at) in
        subst (λ o. IfSome o (λ c. listed ≡ c.listed)) g f

    -- where another grant stands for the stream, all that the publication asks for is there
    pub publish_ready : (y : Whole) (h : Option HoldModel) (listed : Option ℕ) → y ≡ record x { grants = put2 x.grants id.plan id.stream h } → listed ≡ to_list (leads_of x.state.sizes x.state.place s) →
        IsReadyToPublish y.state id s listed
    publish_ready y h listed e f =
        subst (λ v. IsReadyToPublish v id s listed) (sym (ap (λ v. v.state) e))
        (subst (IsReadyToPublish x.state id s) (sym f) (ready_to_publish x at.working id order there s (before x id _ at)))

    -- the trade and the new entry of a publish are the stream's step, with Moved as its answer
    pub publish_leaves : (y z : Whole) (h : Option HoldModel) (listed : Option ℕ) → y ≡ record x { grants = put2 x.grants id.plan id.stream h } → IsTradedBy x.state.sizes (Publish s) (x.grants id.plan id.stream) h →
        listed ≡ to_list (leads_of x.state.sizes x.state.place s) → z ≡ with_state y (entry_added y.state id s listed).1 → (p : Passage) → IsStepped x id p played.Moved z
    publish_leaves y z h listed e t f k p =
        subst (IsStepped x id p played.Moved) (sym (k ∙ ap (λ v. with_state v (entry_added v.state id s listed).1) e))
        (stepped_published x id (Some (Publish s)) at order there (Publish s) refl tt (not_ahead x id (Publish s) at refl) h t s listed refl f p)

  module _ (at : IsAt x id (Some (Unlist s))) (order : IsGrantInOrder (x.grants id.plan id.stream)) (there : is_some (x.grants id.plan id.stream) ≡ not (progress_of x.state id).done) where
    -- all that the trade of an unlist asks for is there
    pub unlist_asks : IsReadyToTrade x id (Unlist s)
    unlist_asks = ready_to_trade x at.working id order there (Unlist s) (before x id _ at) tt (not_ahead x id (Unlist s) at refl)

    -- where another grant stands for the stream, all that the publication of none asks for is there
    pub unlist_ready : (y : Whole) (h : Option HoldModel) → y ≡ record x { grants = put2 x.grants id.plan id.stream h } → IsReadyToPublish y.state id s None
    unlist_ready y h e = subst (λ v. IsReadyToPublish v id s None) (sym (ap (λ v. v.state) e)) (ready_to_unlist x at.working id order there s (before x id _ at))

    -- the trade and the new entry of an unlist are the stream's step, with Moved as its answer
    pub unlist_leaves : (y z : Whole) (h : Option HoldModel) → y ≡ record x { grants = put2 x.grants id.plan id.stream h } → IsTradedBy x.state.sizes (Unlist s) (x.grants id.plan id.stream) h →
        z ≡ with_state y (entry_added y.state id s None).1 → (p : Passage) → IsStepped x id p played.Moved z
    unlist_leaves y z h e t k p =
        subst (IsStepped x id p played.Moved) (sym (k ∙ ap (λ v. with_state v (entry_added v.state id s None).1) e))
        (stepped_unlisted x id (Some (Unlist s)) at order there (Unlist s) refl tt (not_ahead x id (Unlist s) at refl) h t s refl p)

-- ---- signals

module _ (x : Whole) (id : StreamId) (q : ℕ) where
  module _ (at : IsAt x id (Some (Signal q))) (order : IsGrantInOrder (x.grants id.plan id.stream)) (there : is_some (x.grants id.plan id.stream) ≡ not (progress_of x.state id).done) where
    -- all that a signal asks for is there
    pub signal_asks : IsReadyToPost x id q
    signal_asks = (ready_to_post x at.working id order there q (before x id _ at)).0

    -- the parcel that goes from the grant to the signal is the stream's step, with Moved as its answer
    pub signal_leaves : (y : Whole) →
        y ≡ record x { state = (posted x.state id q).1; grants = put2 x.grants id.plan id.stream (y.grants id.plan id.stream); parcels = put2 x.parcels id.plan q (y.parcels id.plan q) } →
        hold_in (y.parcels id.plan q) ≡ plus (hold_in (x.parcels id.plan q)) (parcel_at x.state id.plan q) →
        hold_in (y.grants id.plan id.stream) ≡ minus (hold_in (x.grants id.plan id.stream)) (parcel_at x.state id.plan q) →
        capacity_in (y.grants id.plan id.stream) ≡ capacity_in (x.grants id.plan id.stream) → (p : Passage) → IsStepped x id p played.Moved y
    signal_leaves y e sent left places p =
        let r = (ready_to_post x at.working id order there q (before x id _ at)).1 (y.grants id.plan id.stream) (y.parcels id.plan q) left sent in
        subst (IsStepped x id p played.Moved) (sym e) (stepped_posted x id (Some (Signal q)) at order there q refl (y.grants id.plan id.stream) (y.parcels id.plan q) r.0 r.1 places p)

  module _ (at : IsAt x id (Some (Wait q))) where
    -- the signal that a stream waits for is one of its plan
    pub wait_known : q < signal_count x.state id.plan
    wait_known = (waited_signal x at.working id q (before x id _ at)).0

    module _ (order : IsGrantInOrder (x.grants id.plan id.stream)) (there : is_some (x.grants id.plan id.stream) ≡ not (progress_of x.state id).done)
        (was : (x.state.marks id.plan q).posted ≡ true) (sent_order : IsGrantInOrder (x.parcels id.plan q)) (sent_there : is_some (x.parcels id.plan q) ≡ not (x.state.marks id.plan q).awaited) where
      -- all that a wait for a posted signal asks for is there
      pub wait_asks : IsReadyToTake x id q
      wait_asks = (ready_to_take x at.working id order there q (before x id _ at) was sent_order sent_there).0

      -- the parcel that goes from the signal to the grant is the stream's step, with Moved as its answer
      pub wait_leaves : (y : Whole) →
          y ≡ record x { state = taken x.state id q; grants = put2 x.grants id.plan id.stream (y.grants id.plan id.stream); parcels = put2 x.parcels id.plan q None } →
          hold_in (y.grants id.plan id.stream) ≡ plus (hold_in (x.grants id.plan id.stream)) (rights_in (x.parcels id.plan q)) →
          capacity_in (y.grants id.plan id.stream) ≡ capacity_in (x.grants id.plan id.stream) → (p : Passage) → IsStepped x id p played.Moved y
      wait_leaves y e hold places p =
          let r = (ready_to_take x at.working id order there q (before x id _ at) was sent_order sent_there).1 (y.grants id.plan id.stream) hold in
          subst (IsStepped x id p played.Moved) (sym e) (stepped_taken x id (Some (Wait q)) at order there q refl was (y.grants id.plan id.stream) r places p)

-- ---- ends

module _ (x : Whole) (id : StreamId) (at : IsAt x id None) (order : IsGrantInOrder (x.grants id.plan id.stream)) (there : is_some (x.grants id.plan id.stream) ≡ not (progress_of x.state id).done) where
  -- all that the end of a stream asks for is there
  pub end_asks : IsReadyToEnd x id
  end_asks = ready_to_end x at.working id order there (before x id None at)

  -- the free places and the tries left are few enough for a sum of them
  pub free_fits : x.free + (allowance x.state id - (progress_of x.state id).tries) < 2 ^ 64
  free_fits =
      let g = at.working in
      let c = (counted_ended x.setup x.state g.reached x.unfinished x.running x.free g.counted id (before x id None at)).2.places in
      let most : x.state.room ≤ MOST_PLACES = (of_opening x.setup x.state g.reached).is_opening.most in
      let few : free_places (ended x.state id).1 ≤ x.state.room = omega arith in
      omega arith

  -- an end, by which what it held is in the pool and its tries left are free, is the stream's step, with Done
  pub end_leaves : (y : Whole) (free : ℕ) → free ≡ x.free + (allowance x.state id - (progress_of x.state id).tries) → y ≡ ended_whole x id free → (p : Passage) → IsStepped x id p played.Done y
  end_leaves y free count e p = subst (IsStepped x id p played.Done) (sym e) (stepped_ended x id None at order there refl free count p)

-- ---- the halt flag

-- the flag is no part of what every machine keeps
pub flag_kept : (x : Whole) → IsWorking x → (flag : Bool) (y : Whole) → y ≡ with_state x (record x.state { halted = flag }) → IsWorking y
flag_kept x g flag y e = subst IsWorking (sym e) (record {
  reached = reached_halted x.setup x.state g.reached flag;
  tied = tied_halted x.setup x.state g.reached x.pool (λ k i. hold_in (x.grants k i)) (λ k q. hold_in (x.parcels k q)) g.tied flag;
  capacities = g.capacities;
  unsent = g.unsent;
  counted = counted_halted x.setup x.state g.reached x.unfinished x.running x.free g.counted flag;
})

-- ---- the opening

-- a machine that is opened has all that every machine keeps
pub opened_working : (x : Whole) (setup : Setup) (p : Place) (room : ℕ) → IsOpening setup p room → x ≡ opened_whole setup p room → IsWorking x
opened_working x setup p room o e = subst IsWorking (sym e) (record {
  reached = reached_opened setup p room o;
  tied = tied_opened (sizes_of setup) p room (λ k i. no_hold) (λ k q. no_hold);
  capacities = λ id b. tt;
  unsent = λ k q l s f. absurd (omega (arith, l));
  counted = counted_opened (sizes_of setup) p room (λ k. 0);
})
