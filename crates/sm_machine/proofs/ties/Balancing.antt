-- The pool stays as it is while streams go on; what a stream holds at its end comes into it.
use Rattle.std.proofs.Common.{◌≡◌, ℕ, ◌+◌, ◌-◌, true, false, refl, sym, ap, ◌∙◌, arith, subst, Option, Some, None, Ok, List}
use Rattle.std.specs.Prelude.{◌==◌, unwrap_or, if◌then◌else◌}
use Rattle.sm_placement.specs.declared.lead.Lead.TheVariants.{Gone}
use Rattle.sm_placement.specs.declared.lead.Lead.{Lead}
use Rattle.sm_reservation.specs.declared.right.PlainCell.{PlainCell}
use Rattle.sm_placement.specs.Sums.{put2}
use Rattle.sm_placement.specs.Place.{Place, CallEffect as CallEffect, publish, set_last, with_lasts}
use Rattle.sm_placement.proofs.LeadOf.{lead_of_is}
use Rattle.sm_reservation.specs.declared.stream_id.StreamId.{StreamId}
use Rattle.sm_reservation.specs.Rights.{Rights}
use Rattle.sm_reservation.specs.Hold.{Hold, plus}
use Rattle.sm_reservation.specs.HoldOf.{hold_of}
use Rattle.sm_reservation.specs.Amounts.{Right, OfCell, OfCrown, OfRoom, OfSpare, count, stock, bound}
use Rattle.sm_reservation.specs.CanJoin.{CanJoin}
use Rattle.sm_reservation.specs.Key.{IsOrdered}
use Rattle.sm_reservation.specs.Pool.{leads_of, true_rights, IsKnownHold, IsKnownRight}
use Rattle.sm_reservation.proofs.Below.{below_plus}
use Rattle.sm_reservation.proofs.ParcelSums.{apart_of, plus_count}
use Rattle.sm_plan_code.specs.declared.call.ServerCall.{ServerCall}
use Rattle.sm_plan_code.specs.declared.instruction.Instr.{Instr}
use Rattle.sm_plan_code.specs.declared.instruction.Instr.TheVariants.{Publish, Unlist, Signal, Wait}
use Rattle.sm_plan_code.specs.After.{to_list}
use Rattle.sm_plan_code.specs.Acts.{acts, publishes}
use Rattle.sm_plan_code.specs.Effects.{Effect, SameRights}
use Rattle.sm_plan_code.proofs.Lasts.{lasts_are_unseen}
use Rattle.sm_plan_code.proofs.Parcels.{signal_counts, wait_counts}
use Rattle.sm_verifier.specs.Stream.{hold_before}
use Rattle.sm_protocol.specs.declared.event.Event.{Event}
use Rattle.sm_protocol.specs.declared.event.Logged.{Logged}
use Rattle.sm_protocol.specs.declared.event.Played.{Played}
use Rattle.sm_protocol.specs.State.{State, Progress, Mark, plan_at, progress_of, set_progress, reach, hold_of_stream, parcel_at, held, pool, free_cell, free_crown}
use Rattle.sm_protocol.specs.Steps.{served_try, call_number, call_to_make, entry_added, posted, ended}
use Rattle.sm_protocol.proofs.Invariant.{IsRunning, IsKept}
use Rattle.sm_protocol.proofs.Holds.{share, load, held_moves, held_moves_signal}
use Rattle.sm_protocol.proofs.Courses.{not_posted, not_awaited, some_same}
use Rattle.sm_protocol.proofs.Keeping.{share_now, share_none}
use Rattle.sm_protocol.proofs.Steps.{lead_is, leads_are, one_on}
use Rattle.sm_protocol.proofs.Trials.{IsBegun, call_at, running}
use Rattle.sm_protocol.proofs.Tries.{effect_now}
use Rattle.sm_protocol.proofs.Cases.{IsBefore, IsTry, answer_to, parcel_taken}
use Rattle.sm_protocol.proofs.LogRoom.{ok_is}
use Rattle.sm_reservation.proofs.ParcelSums.{same_hold}
use Rattle.sm_machine.proofs.ties.Before.{course_at, hold_here, hold_behind, known, turn, hold_known}
use Rattle.sm_machine.proofs.ties.Exchanging.{effect_here}
use Rattle.sm_machine.proofs.ties.Carrying.{none_ahead, parcel_ordered}
use Rattle.sm_machine.proofs.ties.Wholes.{there, same_stock, pool_whole, pool_known, is_pool}

-- of each right, what there is beside what is bound has moved as what is held of it has
abbrev pub IsBalanced : State → State → Type 0
IsBalanced w new = (r : Right) → there new r + bound w.sizes w.place r + held w r ≡ there w r + bound new.sizes new.place r + held new r

-- where as much of each right is held of the same placement, the pool is the same
same_pool : (w : State) (f : ℕ → ℕ → Progress) (log : List Logged) → ((r : Right) → held (record w { progress = f }) r ≡ held w r) → pool (record w { progress = f; log = log }) ≡ pool w
same_pool w f log same = same_hold (pool (record w { progress = f; log = log })) (pool w)
    (λ s u. cell s u ((true_rights w.sizes w.place).cells s u))
    (λ s. crown s ((true_rights w.sizes w.place).crowns s))
    (λ u. ap (λ n. (true_rights w.sizes w.place).room u - n) (same (OfRoom u)))
    (λ s. ap (λ n. (true_rights w.sizes w.place).spare s - n) (same (OfSpare s)))
  where
    new : State
    new = record w { progress = f; log = log }

    cell : (s u : ℕ) (o : Option PlainCell) → free_cell (held new) s u o ≡ free_cell (held w) s u o
    cell s u None = refl
    cell s u (Some state) = ap (λ n. if n == 0 then Some state else None) (same (OfCell s u state))

    crown : (s : ℕ) (o : Option (Lead × Option ℕ)) → free_crown (held new) s o ≡ free_crown (held w) s o
    crown s None = refl
    crown s (Some x) = ap (λ n. if n == 0 then Some x else None) (same (OfCrown s x.0 x.1))

-- where all is balanced, the pool stays
pub pool_stays : (w new : State) → IsKept w → IsKept new → new.sizes ≡ w.sizes → IsBalanced w new → pool new ≡ pool w
pool_stays w new v k e balanced =
    sym (is_pool new k (pool w) (subst (λ c. IsKnownHold c.shards c.servers (pool w)) (sym e) (pool_known w v)) (λ r l.
    let a = pool_whole w v r (subst (λ c. IsKnownRight c r) e l) in
    let b = balanced r in
    omega arith))

-- ---- what has an effect

module _ (w : State) (v : IsKept w) (id : StreamId) (i : Instr) (b : IsBefore w id (Some i)) (a : (progress_of w id).ahead ≡ false)
    (e : Effect w.sizes w.place v.leads w.numbers (hold_here w id) (hold_behind w id) i) (last : ℕ → ℕ → ℕ) where
  abbrev after : Place
  after = with_lasts last e.next_place

  leads_after : (s : ℕ) → leads_of w.sizes after s ≡ e.next_leads s
  leads_after s = ap (λ o. unwrap_or o Gone) (lead_of_is (e.next_leads s) (e.next_numbers s) (e.next_place.cells s) w.sizes.servers (e.scene.described s) (λ u l. e.scene.placement.no_server s u l))

  balanced : (y : Progress) → y.done ≡ false → reach y.at y.ahead ≡ (progress_of w id).at + 1 → (r : Right) →
      stock w.sizes after (leads_of w.sizes after) r + bound w.sizes w.place r + held w r ≡ there w r + bound w.sizes after r + held (record w { progress = set_progress w id y }) r
  balanced y d at r =
      let k = known w v id _ b in
      let same : SameRights w.sizes e.next_place after = lasts_are_unseen w.sizes e.next_place last in
      let s : stock w.sizes after (leads_of w.sizes after) r ≡ stock w.sizes after e.next_leads r = same_stock (record w { place = after }) e.next_leads leads_after r in
      let t : stock w.sizes after e.next_leads r ≡ stock w.sizes e.next_place e.next_leads r = same.stock e.next_leads r in
      let o : bound w.sizes after r ≡ bound w.sizes e.next_place r = same.bound r in
      let z : there w r ≡ stock w.sizes w.place v.leads r = same_stock w v.leads (λ s. leads_are w v s) r in
      let u = e.exchanged r in
      let h = held_moves w id y k.plan k.stream r in
      let was : share w id r (progress_of w id) ≡ count (hold_here w id) r = share_now w id r (progress_of w id) b.running ∙ ap (λ q. count (hold_before (course_at w id) (reach (progress_of w id).at q)) r) a in
      let is : share w id r y ≡ count (hold_behind w id) r = share_now w id r y d ∙ ap (λ q. count (hold_before (course_at w id) q) r) at in
      omega arith

module _ (w : State) (v : IsKept w) (id : StreamId) where
  -- ---- calls

  -- the pool after a call that has its effect now
  pub pool_of_call : (i : Instr) (x : ServerCall) → IsTry w id i x → (progress_of w id).ahead ≡ false → (effect : CallEffect) → answer_to w id x ≡ Ok effect →
      (y : Progress) → y.done ≡ false → reach y.at y.ahead ≡ (progress_of w id).at + 1 → (event : Event) (answer : Played) → IsKept (served_try w id i effect y event answer) → pool (served_try w id i effect y event answer) ≡ pool w
  pool_of_call i x t a effect e y d at event answer k =
      let c = call_at w.numbers i t.call in
      let makes : call_to_make w (progress_of w id) i ≡ Some c.call = rw a c.next in
      let same : c.call ≡ x = some_same c.call x (sym makes ∙ t.call_is) in
      let n = effect_now w v id (known w v id _ t.before) i t.before.next_is t.call c.call c.next c.touches c.mentions a in
      let is : CallEffect = record { place = set_last n.effect.next_place c.call.shard c.call.server (call_number w (progress_of w id)); fresh = true } in
      let answered : answer_to w id x ≡ Ok is = subst (λ z. answer_to w id z ≡ Ok is) same n.answered in
      let f : is ≡ effect = ok_is is effect (sym answered ∙ e) in
      pool_stays w (served_try w id i effect y event answer) v k refl
      (subst (λ z. IsBalanced w (served_try w id i z y event answer)) f (balanced w v id i t.before a n.effect (put2 n.effect.next_place.last c.call.shard c.call.server (call_number w (progress_of w id))) y d at))

  -- where neither the placement nor what the stream holds is another, the pool stays
  pub pool_of_same : (o : Option Instr) → IsBefore w id o → (y : Progress) → y.done ≡ false → reach y.at y.ahead ≡ reach (progress_of w id).at (progress_of w id).ahead →
      (numbers : ℕ → ℕ) (next : ℕ) (log : List Logged) → let new : State = record w { numbers = numbers; next_number = next; progress = set_progress w id y; log = log } in
      IsKept new → pool new ≡ pool w
  pool_of_same o b y d at numbers next log k =
      let n = known w v id _ b in
      pool_stays w (record w { numbers = numbers; next_number = next; progress = set_progress w id y; log = log }) v k refl (λ r.
      let h = held_moves w id y n.plan n.stream r in
      let was : share w id r (progress_of w id) ≡ count (hold_of_stream w id.plan id.stream) r = share_now w id r (progress_of w id) b.running in
      let is : share w id r y ≡ count (hold_of_stream w id.plan id.stream) r = share_now w id r y d ∙ ap (λ q. count (hold_before (course_at w id) q) r) at in
      omega arith)

  -- ---- publications

  -- a publish leaves the pool as it is
  pub pool_of_publish : (s : ℕ) → IsBefore w id (Some (Publish s)) → let new = (entry_added w id s (to_list (leads_of w.sizes w.place s))).1 in IsKept new → pool new ≡ pool w
  pool_of_publish s b k =
      let a = none_ahead w v id _ b refl in
      let e = effect_here w v id _ b a tt in
      let is_made : acts w.sizes w.place w.numbers (Publish s) ≡ Some (publish w.place s (to_list (leads_of w.sizes w.place s)), w.numbers) =
      ap (λ o. publishes w.place s o w.numbers) (lead_is w v s) ∙ ap (λ l. Some (publish w.place s (to_list l), w.numbers)) (sym (leads_are w v s)) in
      let f = same_place e is_made in
      pool_stays w (entry_added w id s (to_list (leads_of w.sizes w.place s))).1 v k refl (λ r.
      subst (λ p. stock w.sizes p (leads_of w.sizes p) r + bound w.sizes w.place r + held w r ≡ there w r + bound w.sizes p r + held (record w { progress = set_progress w id (one_on (progress_of w id)) }) r) f
      (balanced w v id _ b a e e.next_place.last (one_on (progress_of w id)) b.running (ap (reach ((progress_of w id).at + 1)) a) r))
    where
      same_place : {h h' : Hold} (e : Effect w.sizes w.place v.leads w.numbers h h' (Publish s)) → acts w.sizes w.place w.numbers (Publish s) ≡ Some (publish w.place s (to_list (leads_of w.sizes w.place s)), w.numbers) → e.next_place ≡ publish w.place s (to_list (leads_of w.sizes w.place s))
      same_place e m = ap (λ (z : Place × (ℕ → ℕ)). z.0) (some_same {T = Place × (ℕ → ℕ)} (e.next_place, e.next_numbers) (publish w.place s (to_list (leads_of w.sizes w.place s)), w.numbers) (sym e.made ∙ m))

  -- so does an unlist
  pub pool_of_unlist : (s : ℕ) → IsBefore w id (Some (Unlist s)) → IsKept (entry_added w id s None).1 → pool (entry_added w id s None).1 ≡ pool w
  pool_of_unlist s b k =
      let a = none_ahead w v id _ b refl in
      let e = effect_here w v id _ b a tt in
      let f : e.next_place ≡ publish w.place s None = ap (λ (z : Place × (ℕ → ℕ)). z.0) (some_same {T = Place × (ℕ → ℕ)} (e.next_place, e.next_numbers) (publish w.place s None, w.numbers) (sym e.made)) in
      pool_stays w (entry_added w id s None).1 v k refl (λ r.
      subst (λ p. stock w.sizes p (leads_of w.sizes p) r + bound w.sizes w.place r + held w r ≡ there w r + bound w.sizes p r + held (record w { progress = set_progress w id (one_on (progress_of w id)) }) r) f
      (balanced w v id _ b a e e.next_place.last (one_on (progress_of w id)) b.running (ap (reach ((progress_of w id).at + 1)) a) r))

  -- ---- signals

  -- what the stream holds before an instruction that is no call, and behind it
  was : (i : Instr) (b : IsBefore w id (Some i)) (a : (progress_of w id).ahead ≡ false) (r : Right) → share w id r (progress_of w id) ≡ count (hold_here w id) r
  was i b a r = share_now w id r (progress_of w id) b.running ∙ ap (λ q. count (hold_before (course_at w id) (reach (progress_of w id).at q)) r) a

  is : (i : Instr) (b : IsBefore w id (Some i)) (a : (progress_of w id).ahead ≡ false) (r : Right) → share w id r (one_on (progress_of w id)) ≡ count (hold_behind w id) r
  is i b a r = share_now w id r (one_on (progress_of w id)) b.running ∙ ap (λ q. count (hold_before (course_at w id) (reach ((progress_of w id).at + 1) q)) r) a

  -- the post of a signal leaves the pool as it is
  pub pool_of_post : (q : ℕ) → IsBefore w id (Some (Signal q)) → IsKept (posted w id q).1 → pool (posted w id q).1 ≡ pool w
  pool_of_post q b k =
      let n = known w v id _ b in
      let run : IsRunning w.sizes w.place (plan_at w id.plan) (w.progress id.plan) (w.marks id.plan) = running w v id n in
      let once = not_posted w.sizes w.place (plan_at w id.plan) (w.progress id.plan) (w.marks id.plan) run id.stream n.stream q b.next_is in
      let a = none_ahead w v id _ b refl in
      let p = parcel_at w id.plan q in
      let z : Mark = record (w.marks id.plan q) { posted = true } in
      pool_stays w (posted w id q).1 v k refl (λ r.
      let h = held_moves_signal w id (one_on (progress_of w id)) n.plan n.stream r q z once.0 in
      let x = was _ b a r in
      let y = is _ b a r in
      let g = signal_counts (hold_here w id) (hold_behind w id) p (parcel_ordered w v id.plan q n.plan once.0).ordered (turn w v id _ b).leaves r in
      let old : load w id.plan r q (w.marks id.plan q) ≡ 0 = rw (once.1) refl in
      let new : load w id.plan r q z ≡ count (hold_of p) r = rw (once.2) refl in
      omega arith)

  -- so does a wait for a posted signal
  pub pool_of_take : (q : ℕ) → IsBefore w id (Some (Wait q)) → (w.marks id.plan q).posted ≡ true → IsKept (parcel_taken w id q) → pool (parcel_taken w id q) ≡ pool w
  pool_of_take q b posted k =
      let n = known w v id _ b in
      let run : IsRunning w.sizes w.place (plan_at w id.plan) (w.progress id.plan) (w.marks id.plan) = running w v id n in
      let once = not_awaited w.sizes w.place (plan_at w id.plan) (w.progress id.plan) (w.marks id.plan) run id.stream n.stream q b.next_is in
      let a = none_ahead w v id _ b refl in
      let p = parcel_at w id.plan q in
      let z : Mark = record (w.marks id.plan q) { awaited = true } in
      pool_stays w (parcel_taken w id q) v k refl (λ r.
      let h = held_moves_signal w id (one_on (progress_of w id)) n.plan n.stream r q z once.0 in
      let x = was _ b a r in
      let y = is _ b a r in
      let g = wait_counts (hold_here w id) (hold_behind w id) p (parcel_ordered w v id.plan q n.plan once.0).ordered (turn w v id _ b).leaves r in
      let old : load w id.plan r q (w.marks id.plan q) ≡ count (hold_of p) r = rw (posted, once.1) refl in
      let new : load w id.plan r q z ≡ 0 = rw posted refl in
      omega arith)

  -- ---- ends

  -- what the stream holds comes into the pool
  pub pool_of_end : IsBefore w id None → IsKept (ended w id).1 → (p : Rights) → IsOrdered p → hold_of p ≡ hold_of_stream w id.plan id.stream → CanJoin (pool w) (hold_of p) →
      plus (pool w) p ≡ pool (ended w id).1
  pool_of_end b k p ordered holds joins =
      let n = known w v id _ b in
      let y : Progress = record (progress_of w id) { done = true } in
      let below : IsKnownHold w.sizes.shards w.sizes.servers (hold_of p) = subst (IsKnownHold w.sizes.shards w.sizes.servers) (sym holds) (hold_known w v id n _) in
      is_pool (ended w id).1 k (plus (pool w) p) (below_plus w.sizes.shards w.sizes.servers (pool w) p ordered (pool_known w v) below) (λ r l.
      let h = held_moves w id y n.plan n.stream r in
      let x : share w id r (progress_of w id) ≡ count (hold_of_stream w id.plan id.stream) r = share_now w id r (progress_of w id) b.running in
      let z = share_none w id r y refl in
      let c = plus_count (pool w) p ordered (apart_of (pool w) (hold_of p) joins) r in
      let s : count (hold_of p) r ≡ count (hold_of_stream w id.plan id.stream) r = ap (λ h. count h r) holds in
      let a = pool_whole w v r l in
      omega arith)

  -- ---- refills

  -- a refill leaves the pool as it is
  pub pool_of_refill : IsBegun w id → (more : ℕ) (log : List Logged) →
      pool (record w { progress = set_progress w id (record (progress_of w id) { refills = (progress_of w id).refills + more }); log = log }) ≡ pool w
  pool_of_refill n more log = same_pool w (set_progress w id (record (progress_of w id) { refills = (progress_of w id).refills + more })) log (λ r.
      let h = held_moves w id (record (progress_of w id) { refills = (progress_of w id).refills + more }) n.plan n.stream r in omega arith)
