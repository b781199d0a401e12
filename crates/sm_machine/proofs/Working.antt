-- The facts that every machine keeps are kept by each kind of step.
use Rattle.std.proofs.Common.{◌≡◌, ℕ, ◌+◌, ◌-◌, ◌<◌, ◌≤◌, Bool, true, false, not, Option, Some, None, Ok, refl, sym, ap, ◌∙◌, subst, inl, inr, length}
use Rattle.std.specs.Prelude.{is_some, ◌==◌, if◌then◌else◌}
use Rattle.std.proofs.Math.Path.{fun_ext}
use Rattle.std.proofs.lemmas.Bool.{cases_eq}
use Rattle.sm_placement.specs.Sums.{put, put2}
use Rattle.sm_placement.specs.Place.{CallEffect}
use Rattle.sm_placement.proofs.Sums.{put2-here, put2-row, put2-apart, put2-same}
use Rattle.sm_reservation.specs.Hold.{Hold, no_hold, plus}
use Rattle.sm_reservation.specs.HoldOf.{hold_of}
use Rattle.sm_reservation.specs.Capacity.{HoldModel}
use Rattle.sm_reservation.specs.declared.stream_id.StreamId.{StreamId}
use Rattle.sm_plan_code.specs.declared.instruction.Instr.{Instr}
use Rattle.sm_plan_code.specs.declared.instruction.Instr.TheVariants.{Publish, Unlist, Signal, Wait}
use Rattle.sm_plan_code.specs.declared.call.ServerCall.{ServerCall}
use Rattle.sm_plan_code.specs.Instr.{IsOwn}
use Rattle.sm_plan_code.specs.After.{to_list}
use Rattle.sm_reservation.specs.Pool.{leads_of}
use Rattle.sm_reservation.specs.Key.{IsOrdered}
use Rattle.sm_machine.specs.Steps.{ended_whole}
use Rattle.sm_verifier.specs.Stream.{stream_at}
use Rattle.sm_protocol.specs.declared.event.Passage.{Passage}
use Rattle.sm_protocol.specs.declared.event.Passage.TheVariants.{Through, LostBefore, LostAfter}
use Rattle.sm_protocol.specs.declared.event.Played.{Played}
use Rattle.sm_protocol.specs.declared.event.Played.TheVariants as played
use Rattle.sm_protocol.specs.declared.event.Event.TheVariants as event
use Rattle.sm_protocol.specs.State.{State, Mark, plan_at, progress_of, is_begun, allowance, signal_count, parcel_at}
use Rattle.sm_protocol.specs.Steps.{Answered, step, made, call_tried, tried, served_try, behind_call, ahead_of_call, call_lost, entry_added, posted, ended}
use Rattle.sm_protocol.specs.Happens.{Step, Lose}
use Rattle.sm_protocol.specs.Laws.{IsReached}
use Rattle.sm_protocol.proofs.Cases.{IsBefore, IsTry, answer_to, parcel_taken}
use Rattle.sm_protocol.proofs.Reached.{reached_next}
use Rattle.sm_protocol.proofs.Tries.{call_is_own}
use Rattle.sm_machine.specs.Course.{hold_in, rights_in, capacity_in, IsGrantInOrder}
use Rattle.sm_machine.specs.State.{Whole}
use Rattle.sm_machine.specs.Tied.{IsTied, HasCounters}
use Rattle.sm_machine.specs.Trade.{IsTradedBy, IsTradedUnless}
use Rattle.sm_machine.specs.Working.{IsWorking, IsAt, IsStepped, HasCapacityOn, IsUnsent}
use Rattle.sm_machine.proofs.Ready.{can_trade, some_grant, runs}
use Rattle.sm_machine.proofs.ties.Before.{hold_behind}
use Rattle.sm_machine.proofs.ties.Counters.{counted_through, counted_unanswered, counted_lost, counted_published, counted_posted, counted_taken, counted_ended}
use Rattle.sm_machine.proofs.ties.Tying.{tied_through, tied_unanswered, tied_again, tied_unanswered_again, tied_lost, tied_published, tied_unlisted, tied_posted, tied_taken, tied_ended}
use Rattle.sm_machine.proofs.ties.Making.{made_call}
use Rattle.sm_machine.proofs.ties.Stepping.{step_made}

-- the holds of grants, one of which is another
hold_put : (f : ℕ → ℕ → Option HoldModel) (k i : ℕ) (h : Option HoldModel) → put2 (λ a b. hold_in (f a b)) k i (hold_in h) ≡ (λ a b. hold_in (put2 f k i h a b))
hold_put f k i h = fun_ext (λ a. fun_ext (λ b. at a b))
  where
    at : (a b : ℕ) → put2 (λ a b. hold_in (f a b)) k i (hold_in h) a b ≡ hold_in (put2 f k i h a b)
    at a b = elim (cases_eq a k) [
      | inl d ↦ elim (cases_eq b i) [
        | inl e ↦ rw (d, e) (put2-here (λ a b. hold_in (f a b)) k i (hold_in h) ∙ ap hold_in (sym (put2-here f k i h)))
        | inr e ↦ rw d (put2-row (λ a b. hold_in (f a b)) k i (hold_in h) b e ∙ ap hold_in (sym (put2-row f k i h b e)))
      ]
      | inr d ↦ put2-apart (λ a b. hold_in (f a b)) k i (hold_in h) a b d ∙ ap hold_in (sym (put2-apart f k i h a b d))
    ]

-- ---- capacity for what is held

same_capacity : (s : _) (k : HoldModel) (h : Option HoldModel) → HasCapacityOn s (Some k) → capacity_in h ≡ k.capacity → HasCapacityOn s h
same_capacity s k None r e = tt
same_capacity s k (Some m) r e = (r.0, r.1, subst (λ n. r.0 ≤ n) (sym e) r.2)

module _ (x : Whole) (id : StreamId) (o : Option Instr) (at : IsAt x id o) where
  abbrev w : State
  w = x.state

  abbrev g : IsWorking x
  g = at.working

  -- the protocol says too that the stream stands before this instruction, or its end
  pub before : IsBefore w id o
  before = record { begun = at.begun; running = at.running; next_is = at.next_is }

  reached_step : (p : Passage) → IsReached x.setup (step w id p).1
  reached_step Through = reached_next x.setup w (Step id) g.reached tt
  reached_step LostBefore = reached_next x.setup w (Lose id false) g.reached tt
  reached_step LostAfter = reached_next x.setup w (Lose id true) g.reached tt

  -- what has to be shown of a step
  stepped : (p : Passage) (a : Played) (y : Whole) → step w id p ≡ (Answered a, y.state) → IsTied y.state y.pool (λ k i. hold_in (y.grants k i)) (λ k q. hold_in (y.parcels k q)) →
      ((j : StreamId) → is_begun y.state j ≡ true → HasCapacityOn (stream_at y.state.sizes (plan_at y.state j.plan) j.stream) (y.grants j.plan j.stream)) →
      ((k q : ℕ) → k < length y.state.plans → q < signal_count y.state k → (y.state.marks k q).posted ≡ false → IsUnsent (y.parcels k q) (parcel_at y.state k q)) →
      HasCounters y.state y.unfinished y.running y.free → y.setup ≡ x.setup → IsStepped x id p a y
  stepped p a y e tied capacities unsent counted setup = record {
    step = e;
    setup = setup;
    working = record { reached = subst (λ s. IsReached s y.state) (sym setup) (subst (IsReached x.setup) (ap (λ z. z.1) e) (reached_step p)); tied = tied; capacities = capacities; unsent = unsent; counted = counted };
  }

  abbrev grant : Option HoldModel
  grant = x.grants id.plan id.stream

  -- an answer that changes nothing
  pub stepped_idle : (p : Passage) (a : Played) → made w id p o ≡ (Answered a, w) → IsStepped x id p a x
  stepped_idle p a e = record { step = step_made w id p at.awake o before ∙ e; setup = refl; working = g }

  module _ (order : IsGrantInOrder grant) (there : is_some grant ≡ not (progress_of w id).done) where
    capacities_put : (h : Option HoldModel) → HasCapacityOn (stream_at w.sizes (plan_at w id.plan) id.stream) h →
        (j : StreamId) → is_begun w j ≡ true → HasCapacityOn (stream_at w.sizes (plan_at w j.plan) j.stream) (put2 x.grants id.plan id.stream h j.plan j.stream)
    capacities_put h after j b =
        elim (cases_eq j.plan id.plan) [
          | inl d ↦ elim (cases_eq j.stream id.stream) [
            | inl f ↦ subst (HasCapacityOn (stream_at w.sizes (plan_at w j.plan) j.stream)) (sym (ap (λ k. put2 x.grants id.plan id.stream h k j.stream) d ∙ ap (λ i. put2 x.grants id.plan id.stream h id.plan i) f ∙ put2-here x.grants id.plan id.stream h))
                (subst (λ k. HasCapacityOn (stream_at w.sizes (plan_at w k) j.stream) h) (sym d) (subst (λ i. HasCapacityOn (stream_at w.sizes (plan_at w id.plan) i) h) (sym f) after))
            | inr f ↦ subst (HasCapacityOn (stream_at w.sizes (plan_at w j.plan) j.stream)) (sym (ap (λ k. put2 x.grants id.plan id.stream h k j.stream) d ∙ put2-row x.grants id.plan id.stream h j.stream f ∙ ap (λ k. x.grants k j.stream) (sym d))) (g.capacities j b)
          ]
          | inr d ↦ subst (HasCapacityOn (stream_at w.sizes (plan_at w j.plan) j.stream)) (sym (put2-apart x.grants id.plan id.stream h j.plan j.stream d)) (g.capacities j b)
        ]

    rooms_after : (h : Option HoldModel) → capacity_in h ≡ capacity_in grant →
        (j : StreamId) → is_begun w j ≡ true → HasCapacityOn (stream_at w.sizes (plan_at w j.plan) j.stream) (put2 x.grants id.plan id.stream h j.plan j.stream)
    rooms_after h e =
        let s = some_grant x g id order there at.running in
        let here = subst (HasCapacityOn (stream_at w.sizes (plan_at w id.plan) id.stream)) s.1 (g.capacities id at.begun) in
        capacities_put h (same_capacity (stream_at w.sizes (plan_at w id.plan) id.stream) s.0 h here (e ∙ ap capacity_in s.1))

    -- the tie of grants, one of which is another
    tied_put : (new : State) (p : Hold) (h : Option HoldModel) (c : ℕ → ℕ → Hold) (m : Hold) → hold_in h ≡ m →
        IsTied new p (put2 (λ k i. hold_in (x.grants k i)) id.plan id.stream m) c → IsTied new p (λ k i. hold_in (put2 x.grants id.plan id.stream h k i)) c
    tied_put new p h c m e t =
        subst (λ f. IsTied new p f c) (hold_put x.grants id.plan id.stream h)
        (subst (λ z. IsTied new p (put2 (λ k i. hold_in (x.grants k i)) id.plan id.stream z) c) (sym e) t)

    -- ---- publications

    module _ (i : Instr) (is : o ≡ Some i) (own : IsOwn i) (here : (progress_of w id).ahead ≡ false) (h : Option HoldModel) (t : IsTradedBy w.sizes i grant h) where
      at_i : IsBefore w id (Some i)
      at_i = record { begun = at.begun; running = at.running; next_is = at.next_is ∙ is }

      behind_is : hold_in h ≡ hold_behind w id
      behind_is = (can_trade x g id order there i at_i own here).1 h t

      -- a publish is a step: the stream has made its trade, and the map lists the server of the shard's lead
      pub stepped_published : (s : ℕ) (server : Option ℕ) → i ≡ Publish s → server ≡ to_list (leads_of w.sizes w.place s) → (p : Passage) →
          IsStepped x id p played.Moved (record x { state = (entry_added w id s server).1; grants = put2 x.grants id.plan id.stream h })
      stepped_published s server e f p =
          let b = subst (λ z. IsBefore w id (Some z)) e at_i in
          let tie = tied_published x.setup w g.reached x.pool (λ k i. hold_in (x.grants k i)) (λ k q. hold_in (x.parcels k q)) g.tied id s b in
          stepped p played.Moved (record x { state = (entry_added w id s server).1; grants = put2 x.grants id.plan id.stream h })
          (step_made w id p at.awake (Some (Publish s)) b ∙ ap (entry_added w id s) (sym f))
          (tied_put (entry_added w id s server).1 x.pool h (λ k q. hold_in (x.parcels k q)) (hold_behind w id) behind_is
          (subst (λ v. IsTied (entry_added w id s v).1 x.pool (put2 (λ k i. hold_in (x.grants k i)) id.plan id.stream (hold_behind w id)) (λ k q. hold_in (x.parcels k q))) (sym f) tie))
          (rooms_after h t.capacity) g.unsent (counted_published x.setup w g.reached x.unfinished x.running x.free g.counted id (Publish s) s server b refl) refl

      -- an unlist is a step: the stream has made its trade, and the map lists no server
      pub stepped_unlisted : (s : ℕ) → i ≡ Unlist s → (p : Passage) →
          IsStepped x id p played.Moved (record x { state = (entry_added w id s None).1; grants = put2 x.grants id.plan id.stream h })
      stepped_unlisted s e p =
          let b = subst (λ z. IsBefore w id (Some z)) e at_i in
          stepped p played.Moved (record x { state = (entry_added w id s None).1; grants = put2 x.grants id.plan id.stream h })
          (step_made w id p at.awake (Some (Unlist s)) b)
          (tied_put (entry_added w id s None).1 x.pool h (λ k q. hold_in (x.parcels k q)) (hold_behind w id) behind_is
          (tied_unlisted x.setup w g.reached x.pool (λ k i. hold_in (x.grants k i)) (λ k q. hold_in (x.parcels k q)) g.tied id s b))
          (rooms_after h t.capacity) g.unsent (counted_published x.setup w g.reached x.unfinished x.running x.free g.counted id (Unlist s) s None b refl) refl

    -- ---- calls

    module _ (i : Instr) (c : ServerCall) (t : IsTry w id i c) where
      step_tried : (p : Passage) → step w id p ≡ tried w id i p (answer_to w id c)
      step_tried p =
          step_made w id p at.awake (Some i) t.before ∙ made_call w id p i t.call ∙ ap (call_tried w id p i) t.call_is
          ∙ (rw t.unspent refl)

      -- a try that is lost before it comes to its server is a step, and the grants stay
      pub stepped_lost : IsStepped x id LostBefore played.Lost (record x { state = call_lost w id })
      stepped_lost =
          stepped LostBefore played.Lost (record x { state = call_lost w id }) (step_tried LostBefore)
          (tied_lost x.setup w g.reached x.pool (λ k i. hold_in (x.grants k i)) (λ k q. hold_in (x.parcels k q)) g.tied id i c t) g.capacities g.unsent
          (counted_lost x.setup w g.reached x.unfinished x.running x.free g.counted id i c t) refl

      places_unless : (b : Bool) (h : Option HoldModel) → IsTradedUnless b w.sizes i grant h → capacity_in h ≡ capacity_in grant
      places_unless true h u = ap capacity_in u
      places_unless false h u = u.capacity

      tied_unless : (b : Bool) → (progress_of w id).ahead ≡ b → (new : State) (h : Option HoldModel) → IsTradedUnless b w.sizes i grant h →
          ((progress_of w id).ahead ≡ false → IsTied new x.pool (put2 (λ k i. hold_in (x.grants k i)) id.plan id.stream (hold_behind w id)) (λ k q. hold_in (x.parcels k q))) →
          ((progress_of w id).ahead ≡ true → IsTied new x.pool (λ k i. hold_in (x.grants k i)) (λ k q. hold_in (x.parcels k q))) →
          IsTied new x.pool (λ k i. hold_in (put2 x.grants id.plan id.stream h k i)) (λ k q. hold_in (x.parcels k q))
      tied_unless false e new h u first again =
          tied_put new x.pool h (λ k q. hold_in (x.parcels k q)) (hold_behind w id) ((can_trade x g id order there i t.before (call_is_own i t.call) e).1 h u) (first e)
      tied_unless true e new h u first again =
          tied_put new x.pool h (λ k q. hold_in (x.parcels k q)) (hold_in grant) (ap hold_in u)
          (subst (λ f. IsTied new x.pool f (λ k q. hold_in (x.parcels k q))) (sym (put2-same (λ k i. hold_in (x.grants k i)) id.plan id.stream _ refl)) (again e))

      -- a try that is served and answered is a step: the stream has made its trade, unless the call was ahead
      pub stepped_through : (effect : CallEffect) → answer_to w id c ≡ Ok effect → (h : Option HoldModel) → IsTradedUnless (progress_of w id).ahead w.sizes i grant h →
          IsStepped x id Through played.Moved (record x { state = served_try w id i effect (behind_call (progress_of w id) effect.fresh) (event.Step id) played.Moved; grants = put2 x.grants id.plan id.stream h })
      stepped_through effect e h u =
          let new = served_try w id i effect (behind_call (progress_of w id) effect.fresh) (event.Step id) played.Moved in
          stepped Through played.Moved (record x { state = new; grants = put2 x.grants id.plan id.stream h })
          (step_tried Through ∙ ap (tried w id i Through) e)
          (tied_unless (progress_of w id).ahead refl new h u
          (λ a. tied_through x.setup w g.reached x.pool (λ k i. hold_in (x.grants k i)) (λ k q. hold_in (x.parcels k q)) g.tied id i c t a effect e)
          (λ a. tied_again x.setup w g.reached x.pool (λ k i. hold_in (x.grants k i)) (λ k q. hold_in (x.parcels k q)) g.tied id i c t a effect e))
          (rooms_after h (places_unless (progress_of w id).ahead h u)) g.unsent
          (counted_through x.setup w g.reached x.unfinished x.running x.free g.counted id i c t effect e) refl

      -- the same of a try that is served, and whose answer is lost
      pub stepped_unanswered : (effect : CallEffect) → answer_to w id c ≡ Ok effect → (h : Option HoldModel) → IsTradedUnless (progress_of w id).ahead w.sizes i grant h →
          IsStepped x id LostAfter played.Lost (record x { state = served_try w id i effect (ahead_of_call w (progress_of w id) effect.fresh) (event.Lose id true) played.Lost; grants = put2 x.grants id.plan id.stream h })
      stepped_unanswered effect e h u =
          let new = served_try w id i effect (ahead_of_call w (progress_of w id) effect.fresh) (event.Lose id true) played.Lost in
          stepped LostAfter played.Lost (record x { state = new; grants = put2 x.grants id.plan id.stream h })
          (step_tried LostAfter ∙ ap (tried w id i LostAfter) e)
          (tied_unless (progress_of w id).ahead refl new h u
          (λ a. tied_unanswered x.setup w g.reached x.pool (λ k i. hold_in (x.grants k i)) (λ k q. hold_in (x.parcels k q)) g.tied id i c t a effect e)
          (λ a. tied_unanswered_again x.setup w g.reached x.pool (λ k i. hold_in (x.grants k i)) (λ k q. hold_in (x.parcels k q)) g.tied id i c t a effect e))
          (rooms_after h (places_unless (progress_of w id).ahead h u)) g.unsent
          (counted_unanswered x.setup w g.reached x.unfinished x.running x.free g.counted id i c t effect e) refl

    -- ---- signals

    unsent_after : (q : ℕ) (m : Mark) (n : Option HoldModel) → m.posted ≡ true → (k r : ℕ) → k < length w.plans → r < signal_count w k → (put2 w.marks id.plan q m k r).posted ≡ false →
        IsUnsent (put2 x.parcels id.plan q n k r) (parcel_at w k r)
    unsent_after q m n posted k r l s f = elim (cases_eq k id.plan) [
      | inl d ↦ elim (cases_eq r q) [
        | inl e ↦ absurd (let a = ap (λ z. z.posted) (ap (λ z. put2 w.marks id.plan q m z r) d ∙ ap (λ z. put2 w.marks id.plan q m id.plan z) e ∙ put2-here w.marks id.plan q m) in cc)
        | inr e ↦
            let a = ap (λ z. put2 w.marks id.plan q m z r) d ∙ put2-row w.marks id.plan q m r e ∙ ap (λ z. w.marks z r) (sym d) in
            let b = ap (λ z. put2 x.parcels id.plan q n z r) d ∙ put2-row x.parcels id.plan q n r e ∙ ap (λ z. x.parcels z r) (sym d) in
            subst (λ z. IsUnsent z (parcel_at w k r)) (sym b) (g.unsent k r l s (ap (λ z. z.posted) (sym a) ∙ f))
      ]
      | inr d ↦ subst (λ z. IsUnsent z (parcel_at w k r)) (sym (put2-apart x.parcels id.plan q n k r d)) (g.unsent k r l s (ap (λ z. z.posted) (sym (put2-apart w.marks id.plan q m k r d)) ∙ f))
    ]

    tied_both : (new : State) (q : ℕ) (h n : Option HoldModel) (m u : Hold) → hold_in h ≡ m → hold_in n ≡ u →
        IsTied new x.pool (put2 (λ k i. hold_in (x.grants k i)) id.plan id.stream m) (put2 (λ k q. hold_in (x.parcels k q)) id.plan q u) →
        IsTied new x.pool (λ k i. hold_in (put2 x.grants id.plan id.stream h k i)) (λ k r. hold_in (put2 x.parcels id.plan q n k r))
    tied_both new q h n m u e f t =
        tied_put new x.pool h (λ k r. hold_in (put2 x.parcels id.plan q n k r)) m e
        (subst (λ c. IsTied new x.pool (put2 (λ k i. hold_in (x.grants k i)) id.plan id.stream m) c) (hold_put x.parcels id.plan q n)
        (subst (λ z. IsTied new x.pool (put2 (λ k i. hold_in (x.grants k i)) id.plan id.stream m) (put2 (λ k q. hold_in (x.parcels k q)) id.plan q z)) (sym f) t))

    -- the post of a signal is a step: the stream has given up the parcel, and the signal carries it
    pub stepped_posted : (q : ℕ) → o ≡ Some (Signal q) → (h n : Option HoldModel) → hold_in h ≡ hold_behind w id → hold_in n ≡ hold_of (parcel_at w id.plan q) → capacity_in h ≡ capacity_in grant → (p : Passage) →
        IsStepped x id p played.Moved (record x { state = (posted w id q).1; grants = put2 x.grants id.plan id.stream h; parcels = put2 x.parcels id.plan q n })
    stepped_posted q is h n e f capacity p =
        let b = subst (IsBefore w id) is before in
        stepped p played.Moved (record x { state = (posted w id q).1; grants = put2 x.grants id.plan id.stream h; parcels = put2 x.parcels id.plan q n })
        (step_made w id p at.awake (Some (Signal q)) b)
        (tied_both (posted w id q).1 q h n (hold_behind w id) (hold_of (parcel_at w id.plan q)) e f
        (tied_posted x.setup w g.reached x.pool (λ k i. hold_in (x.grants k i)) (λ k q. hold_in (x.parcels k q)) g.tied id q b))
        (rooms_after h capacity) (unsent_after q (record (w.marks id.plan q) { posted = true }) n refl)
        (counted_posted x.setup w g.reached x.unfinished x.running x.free g.counted id q b) refl

    -- a wait for a posted signal is a step: the stream has the parcel, and the signal carries nothing
    pub stepped_taken : (q : ℕ) → o ≡ Some (Wait q) → (w.marks id.plan q).posted ≡ true → (h : Option HoldModel) → hold_in h ≡ hold_behind w id → capacity_in h ≡ capacity_in grant → (p : Passage) →
        IsStepped x id p played.Moved (record x { state = parcel_taken w id q; grants = put2 x.grants id.plan id.stream h; parcels = put2 x.parcels id.plan q None })
    stepped_taken q is was h e capacity p =
        let b = subst (IsBefore w id) is before in
        stepped p played.Moved (record x { state = parcel_taken w id q; grants = put2 x.grants id.plan id.stream h; parcels = put2 x.parcels id.plan q None })
        (step_made w id p at.awake (Some (Wait q)) b ∙ (rw was refl))
        (tied_both (parcel_taken w id q) q h None (hold_behind w id) no_hold e refl
        (tied_taken x.setup w g.reached x.pool (λ k i. hold_in (x.grants k i)) (λ k q. hold_in (x.parcels k q)) g.tied id q b was))
        (rooms_after h capacity) (unsent_after q (record (w.marks id.plan q) { awaited = true }) None was)
        (counted_taken x.setup w g.reached x.unfinished x.running x.free g.counted id q b) refl

    -- ---- ends

    -- a stream's end is a step: what it held is in the pool, and the tries that it had left are free places
    pub stepped_ended : o ≡ None → (free : ℕ) → free ≡ x.free + (allowance w id - (progress_of w id).tries) → (p : Passage) → IsStepped x id p played.Done (ended_whole x id free)
    stepped_ended is free count p =
        let b = subst (IsBefore w id) is before in
        let s = some_grant x g id order there at.running in
        let run = runs x g id at.begun at.running in
        let ordered : IsOrdered (rights_in grant) = subst (λ z. IsOrdered (rights_in z)) (sym s.1) (let k = subst IsGrantInOrder s.1 order in k.ordered) in
        let same : hold_of (rights_in grant) ≡ hold_in grant = ap (λ z. hold_of (rights_in z)) s.1 ∙ ap hold_in (sym s.1) in
        stepped p played.Done (ended_whole x id free)
        (step_made w id p at.awake None b)
        (tied_put (ended w id).1 (plus x.pool (rights_in grant)) None (λ k q. hold_in (x.parcels k q)) no_hold refl
        (tied_ended x.setup w g.reached x.pool (λ k i. hold_in (x.grants k i)) (λ k q. hold_in (x.parcels k q)) g.tied id b (rights_in grant) ordered (same ∙ g.tied.grants id run) no_hold))
        (capacities_put None tt) g.unsent
        (subst (HasCounters (ended w id).1 (put x.unfinished id.plan (x.unfinished id.plan - 1)) (if x.unfinished id.plan == 1 then x.running - 1 else x.running)) (sym count) (counted_ended x.setup w g.reached x.unfinished x.running x.free g.counted id b).2) refl
