-- The needs of the grants if a stream posts a signal, waits for one, or finishes.
use Rattle.std.proofs.Common.{◌≡◌, ◌≤◌, ◌<◌, ◌+◌, ℕ, true, false, refl, sym, ap, ◌∙◌, arith, subst, Some, None, length}
use Rattle.std.proofs.lemmas.List.Elements.{All-get_or}
use Rattle.std.proofs.lemmas.Option.{slice_get_within}
use Rattle.sm_placement.specs.Setup.{Setup}
use Rattle.sm_placement.proofs.Sums.{part_of_sum}
use Rattle.sm_reservation.specs.declared.stream_id.StreamId.{StreamId}
use Rattle.sm_reservation.specs.Rights.{Rights, no_rights}
use Rattle.sm_reservation.specs.Hold.{Hold, no_hold, minus, plus}
use Rattle.sm_reservation.specs.HoldOf.{hold_of}
use Rattle.sm_reservation.specs.Amounts.{Right, OfCell, OfCrown, OfRoom, OfSpare, count, stock}
use Rattle.sm_reservation.specs.CanJoin.{CanJoin}
use Rattle.sm_reservation.specs.Key.{IsOrdered, IsPositive}
use Rattle.sm_reservation.specs.Capacity.{HoldModel, HasCapacity, most_keys}
use Rattle.sm_reservation.specs.Short.{first_short}
use Rattle.sm_reservation.specs.Pool.{IsKnownHold}
use Rattle.sm_reservation.proofs.Joins.{joins_in_placement}
use Rattle.sm_reservation.proofs.ParcelSums.{joined, no_cell, plus_is, plus_none}
use Rattle.sm_reservation.proofs.FitLemmas.{none_of}
use Rattle.sm_reservation.proofs.HoldSizes.{capacity_to_put}
use Rattle.sm_plan_code.specs.declared.instruction.Instr.{Instr}
use Rattle.sm_plan_code.specs.declared.instruction.Instr.TheVariants.{Signal, Wait}
use Rattle.sm_plan_code.specs.Instr.{is_call}
use Rattle.sm_plan_code.specs.Plan.{IsOrderedParcel}
use Rattle.sm_plan_code.specs.After.{signal_line, wait_line}
use Rattle.sm_plan_code.proofs.Lines.{passes}
use Rattle.sm_plan_code.proofs.Parcels.{signal_counts}
use Rattle.sm_verifier.specs.Peak.{IsPeak}
use Rattle.sm_protocol.specs.State.{State, plan_at, stream_count, signal_count, progress_of, hold_of_stream, parcel_at, held_by, held, pool}
use Rattle.sm_protocol.specs.Laws.{IsReached}
use Rattle.sm_protocol.proofs.Invariant.{IsRunning, IsKept}
use Rattle.sm_protocol.proofs.Holds.{part, carried, share, load, share_held}
use Rattle.sm_protocol.proofs.Pools.{pool_within}
use Rattle.sm_protocol.proofs.Courses.{not_ahead, not_posted, not_awaited}
use Rattle.sm_protocol.proofs.Trials.{IsBegun, running, share_is}
use Rattle.sm_protocol.proofs.Cases.{IsBefore}
use Rattle.sm_machine.proofs.ties.Before.{course_at, hold_behind, kept, is_setup, same_sizes, hold_known, known, own_scene}
use Rattle.sm_machine.proofs.ties.Exchanging.{leaves_behind}

-- ---- parcels

-- nothing has nothing of any right
pub none_counted : (r : Right) → count no_hold r ≡ 0
none_counted (OfCell s v state) = no_cell state
none_counted (OfCrown s lead listed) = refl
none_counted (OfRoom v) = refl
none_counted (OfSpare s) = refl

-- no rights are a hold of nothing
pub no_rights_hold : hold_of no_rights ≡ no_hold
unfolding hold_of
no_rights_hold = refl

-- two lists of rights that are one hold add the same to a hold
pub same_plus : (h : Hold) (p q : Rights) → IsOrdered p → IsOrdered q → hold_of p ≡ hold_of q → plus h p ≡ plus h q
same_plus h p q a b e = plus_is h p a ∙ ap (joined h) e ∙ sym (plus_is h q b)

-- a signal's parcel is in order
pub parcel_ordered : (w : State) (v : IsKept w) (k q : ℕ) → k < length w.plans → q < signal_count w k → IsOrderedParcel (parcel_at w k q)
parcel_ordered w v k q l m = All-get_or IsOrderedParcel (plan_at w k).signals q no_rights m (v.plans k l).checked.parts.parcels.signals

-- ---- signals

-- The grant g is that of a stream that posts the signal q, and the other one is empty: g has the signal's parcel, which the
-- other one can take, and what is left is the hold h.
pub record CanSend (w : State) (k q : ℕ) (g into : HoldModel) (h : Hold) : Type 0 where
  pub signal : q < signal_count w k
  pub posted : (w.marks k q).posted ≡ false
  pub awaited : (w.marks k q).awaited ≡ false
  pub enough : first_short (hold_of g.rights) (parcel_at w k q) ≡ None
  pub fits : CanJoin (hold_of into.rights) (hold_of (parcel_at w k q))
  pub capacity : HasCapacity into (parcel_at w k q)
  pub left : minus (hold_of g.rights) (parcel_at w k q) ≡ h
  pub sent : plus (hold_of into.rights) (parcel_at w k q) ≡ hold_of (parcel_at w k q)

module _ (w : State) (v : IsKept w) (id : StreamId) (i : Instr) (b : IsBefore w id (Some i)) where
  -- where no call stands, none is ahead
  pub none_ahead : is_call i ≡ false → (progress_of w id).ahead ≡ false
  none_ahead other =
      let k = known w v id _ b in
      not_ahead w.sizes w.place (plan_at w id.plan) (w.progress id.plan) (w.marks id.plan) (running w v id k) id.stream k.stream i b.next_is other

module _ (setup : Setup) (w : State) (reached : IsReached setup w) (id : StreamId) where
  abbrev v : IsKept w
  v = kept setup w reached

  -- holds that have together no more of each right than there is can be put together
  pub joins_here : (h k : Hold) → ((r : Right) → count h r + count k r ≤ stock w.sizes w.place v.leads r) → CanJoin h k
  joins_here h k both = joins_in_placement setup w.place v.leads h k (is_setup setup w reached)
      (λ r. subst (λ c. count h r + count k r ≤ stock c w.place v.leads r) (same_sizes setup w reached) (both r))

  -- where the other grant holds nothing
  pub can_send_into : (q : ℕ) → IsBefore w id (Some (Signal q)) → (g into : HoldModel) → hold_of g.rights ≡ hold_of_stream w id.plan id.stream →
      hold_of into.rights ≡ no_hold → IsOrdered into.rights → IsPositive into.rights →
      most_keys (parcel_at w id.plan q) ≤ into.capacity → CanSend w id.plan q g into (hold_behind w id)
  can_send_into q b g into is nothing ordered positive enough =
      let n = known w v id _ b in
      let run : IsRunning w.sizes w.place (plan_at w id.plan) (w.progress id.plan) (w.marks id.plan) = running w v id n in
      let once = not_posted w.sizes w.place (plan_at w id.plan) (w.progress id.plan) (w.marks id.plan) run id.stream n.stream q b.next_is in
      let o = parcel_ordered w v id.plan q n.plan once.0 in
      let p = parcel_at w id.plan q in
      let leaves = leaves_behind w v id (Signal q) b (none_ahead w v id (Signal q) b refl) in
      let ok = passes (signal_line p (hold_of_stream w id.plan id.stream)) (hold_behind w id) leaves in
      let sent : plus (hold_of into.rights) p ≡ hold_of p = ap (λ h. plus h p) nothing ∙ plus_none p o.ordered in
      let fits = joins_here no_hold (hold_of p) (λ r.
      let c = signal_counts (hold_of_stream w id.plan id.stream) (hold_behind w id) p o.ordered leaves r in
      let t = (own_scene w v id _ b).truth.rights r in
      let z = none_counted r in
      omega arith) in
      record {
        signal = once.0;
        posted = once.1;
        awaited = once.2;
        enough = ap (λ h. first_short h p) is ∙ none_of (first_short (hold_of_stream w id.plan id.stream) p) ok.0.0;
        fits = subst (λ h. CanJoin h (hold_of p)) (sym nothing) fits;
        capacity = capacity_to_put into p p ordered positive
            o.ordered o.ordered o.positive (sym sent) enough;
        left = ap (λ h. minus h p) is ∙ ok.1;
        sent = sent;
      }

  -- a stream before a signal can give its parcel to a grant that is empty and has the capacity for it
  pub can_send : (q : ℕ) → IsBefore w id (Some (Signal q)) → (g into : HoldModel) → hold_of g.rights ≡ hold_of_stream w id.plan id.stream → into.rights ≡ no_rights →
      most_keys (parcel_at w id.plan q) ≤ into.capacity → CanSend w id.plan q g into (hold_behind w id)
  can_send q b g into is empty enough = can_send_into q b g into is (ap hold_of empty ∙ no_rights_hold) (subst IsOrdered (sym empty) (record { cells = tt; crowns = tt; room = tt; spare = tt }))
      (subst IsPositive (sym empty) (record { room = tt; spare = tt })) enough

-- ---- waits

-- The grant g is that of a stream that waits for the signal q, and the other one is its parcel: g can take it, which leads
-- to the hold h.
pub record CanTake (w : State) (k q : ℕ) (g from : HoldModel) (h : Hold) : Type 0 where
  pub signal : q < signal_count w k
  pub awaited : (w.marks k q).awaited ≡ false
  pub fits : CanJoin (hold_of g.rights) (hold_of from.rights)
  pub capacity : HasCapacity g from.rights
  pub left : plus (hold_of g.rights) from.rights ≡ h

-- what a stream holds and what a parcel of its plan carries are together part of what is held
share_and_load : (w : State) (id : StreamId) (r : Right) (q : ℕ) → id.plan < length w.plans → id.stream < stream_count w id.plan → q < signal_count w id.plan →
    share w id r (progress_of w id) + load w id.plan r q (w.marks id.plan q) ≤ held w r
share_and_load w id r q l i m =
    let a = part_of_sum (length w.plans) (held_by w r) id.plan l in
    let b = part_of_sum (stream_count w id.plan) (λ j. part w.sizes (plan_at w id.plan) r j (w.progress id.plan j)) id.stream i in
    let c = part_of_sum (signal_count w id.plan) (λ j. carried (plan_at w id.plan) r j (w.marks id.plan j)) q m in
    omega arith

module _ (setup : Setup) (w : State) (reached : IsReached setup w) (id : StreamId) where
  -- a stream before a wait for a posted signal can take the parcel into a grant with capacity for its peak
  pub can_take : (q : ℕ) → IsBefore w id (Some (Wait q)) → (w.marks id.plan q).posted ≡ true → (g from : HoldModel) →
      hold_of g.rights ≡ hold_of_stream w id.plan id.stream → IsOrdered g.rights → IsPositive g.rights →
      hold_of from.rights ≡ hold_of (parcel_at w id.plan q) → IsOrdered from.rights →
      (n : ℕ) → IsPeak (course_at w id) n → n ≤ g.capacity → CanTake w id.plan q g from (hold_behind w id)
  can_take q b posted g from is ordered positive carries in_order n peak enough =
      let v = kept setup w reached in
      let k = known w v id _ b in
      let run : IsRunning w.sizes w.place (plan_at w id.plan) (w.progress id.plan) (w.marks id.plan) = running w v id k in
      let once = not_awaited w.sizes w.place (plan_at w id.plan) (w.progress id.plan) (w.marks id.plan) run id.stream k.stream q b.next_is in
      let p = parcel_at w id.plan q in
      let h = hold_of_stream w id.plan id.stream in
      let o = parcel_ordered w v id.plan q k.plan once.0 in
      let leaves = leaves_behind w v id (Wait q) b (none_ahead w v id (Wait q) b refl) in
      let ok = passes (wait_line p h) (hold_behind w id) leaves in
      let left : plus (hold_of g.rights) from.rights ≡ hold_behind w id = ap (λ x. plus x from.rights) is ∙ same_plus h from.rights p in_order o.ordered carries ∙ ok.1 in
      let fits : CanJoin h (hold_of p) = joins_here setup w reached id h (hold_of p) (λ r.
      let s = share_is w v id r b.running in
      let l : load w id.plan r q (w.marks id.plan q) ≡ count (hold_of p) r = rw (posted, once.1) refl in
      let a = share_and_load w id r q k.plan k.stream once.0 in
      let f = v.fits r in
      omega arith) in
      let listed = peak.bound ((progress_of w id).at + 1) (let l = slice_get_within (course_at w id).code (progress_of w id).at (Wait q) b.next_is in omega arith) in
      record {
        signal = once.0;
        awaited = once.1;
        fits = subst (λ x. CanJoin x (hold_of from.rights)) (sym is) (subst (λ x. CanJoin h x) (sym carries) fits);
        capacity = capacity_to_put g from.rights listed.0 ordered positive in_order listed.1.ordered listed.1.positive (listed.1.hold ∙ sym left) (let m = listed.2 in omega arith);
        left = left;
      }

  -- ---- ends

  -- what a stream holds that has not made its end can be given back to the pool
  pub can_give_back : IsBegun w id → (progress_of w id).done ≡ false → IsKnownHold w.sizes.shards w.sizes.servers (hold_of_stream w id.plan id.stream) × CanJoin (pool w) (hold_of_stream w id.plan id.stream)
  can_give_back k running =
      let v = kept setup w reached in (
        hold_known w v id k _,
        joins_here setup w reached id (pool w) (hold_of_stream w id.plan id.stream) (λ r.
            let s = share_is w v id r running in
            let a = share_held w id r k.plan k.stream in
            let f = pool_within w v r in
            omega arith),
      )
