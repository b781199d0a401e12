-- Wherever events lead: nothing is refused, the real placement is safe, and where nothing is outstanding it is the recorded one.
use Rattle.std.proofs.Common.{◌≡◌, ℕ, zero, suc, ◌<◌, refl, sym, ap, ◌∙◌, inl, inr, subst, arith, not, Bool, true, false, List, [], ◌∷◌}
use Rattle.std.proofs.lemmas.Bool.{cases_Bool, cases_eq}
use Rattle.sm_placement.specs.Setup.{Setup}
use Rattle.sm_placement.specs.Sums.{any_below}
use Rattle.sm_reservation.specs.declared.stream_id.StreamId.{StreamId}
use Rattle.sm_protocol.specs.State.{progress_of, stream_count}
use Rattle.sm_protocol.specs.Laws.{AreDone}
use Rattle.sm_protocol.proofs.EndsReached.{ends_are_reached}
use Rattle.sm_protocol.proofs.LogRoom.{begun_parts}
use Rattle.sm_protocol.proofs.Whole.{reached_keeps}
use Rattle.laws_network.proofs.Traced.{Answer, Ask, Control, Deliver, Net, NetEvent, Order, Pass, Played, Replied, Send, Ticket, comes, passed, real}
use Rattle.sm_protocol.specs.declared.event.Played.TheVariants as played
use Rattle.sm_protocol.proofs.Courses.{some_same}
use Rattle.sm_placement.specs.SafePlace.{IsServing}
use Rattle.std.specs.Prelude.{Option, Some, None, option_map, slice_get}
use Rattle.laws_network.proofs.Lists.{all_at, all_map}
use Rattle.laws_network.proofs.TracedLaws.{EachNet, ExecutesWhereServing, shard_asked, NoneIsRefused, RealIsAtEnds, RealIsRecorded, RealIsSafe, RecordIsReached}
use Rattle.laws_network.proofs.Overlay.{IsIn, over_numbers, overlay}
use Rattle.laws_network.proofs.Ahead.{real_safe}
use Rattle.laws_network.proofs.Calm.{ready}
use Rattle.laws_network.proofs.Sound.{IsAnswer, IsKnown, IsPassable, IsSound, handed}
use Rattle.laws_network.proofs.Numbered.{numbers_logged}
use Rattle.laws_network.proofs.Apart.{IsAtCall}
use Rattle.std.specs.List.{AllByRecursion}
use Rattle.sm_plan_code.specs.declared.instruction.Instr.{Instr}
use Rattle.sm_plan_code.specs.declared.call.ServerCall.{ServerCall}
use Rattle.std.proofs.Common.{◌≤◌, ◌+◌, length}
use Rattle.laws_network.proofs.Events.{comes_good, executes, net_sound}

-- the record is a state of the protocol that events lead to
pub record_is_reached : EachNet RecordIsReached
record_is_reached setup n r = (net_sound setup n r).reached

-- no order and no recorded event is refused
pub none_is_refused : EachNet NoneIsRefused
none_is_refused setup n r e fits = let g = comes_good setup n (net_sound setup n r) e fits in (g.served, g.made)

-- the real placement is safe
pub real_is_safe : EachNet RealIsSafe
real_is_safe setup n r =
    let sound = net_sound setup n r in
    let v = (reached_keeps setup n.w sound.reached).0 in
    real_safe setup n.w n.had sound.reached sound.calm.halted (λ id h. let t = sound.at_calls id h in (t.0, t.1, ready v sound.calm t.2)) sound.once n.cells sound.cells n.last

recorded : (setup : Setup) (n : Net) → IsSound setup n → n.had ≡ [] → (s v : ℕ) → n.cells s v ≡ n.w.place.cells s v
recorded setup n sound e s v = ap (λ f. f s v) sound.cells ∙ ap (λ l. overlay n.w l n.w.place.cells s v) e

-- if no answer is outstanding, the servers have what is recorded
pub real_is_recorded : EachNet RealIsRecorded
real_is_recorded setup n r = recorded setup n (net_sound setup n r)

-- where none below n passes, none does
none_below : (n : ℕ) (t : ℕ → Bool) → any_below n t ≡ false → (i : ℕ) → i < n → t i ≡ false
none_below zero t e i l = absurd (omega arith)
none_below (suc n) t e i l = elim (cases_Bool (t n)) [
  | inl h ↦ absurd (let z = rw h at e in cc)
  | inr h ↦ elim (cases_eq i n) [
    | inl q ↦ ap t q ∙ h
    | inr q ↦ none_below n t (rw h at e) i (omega arith)
  ]
]

-- where all plans are done, no stream stands before a call
no_call : (n : Net) → AreDone n.w → (a : StreamId) (i : Instr) (x : ServerCall) → IsAtCall n.w a i x → ⊥
no_call n done a i x t =
    let b = begun_parts n.w a t.before.begun in
    let u = none_below (stream_count n.w a.plan) (λ i. not (n.w.progress a.plan i).done) (done a.plan b.0) a.stream b.1 in
    let z : not (progress_of n.w a).done ≡ true = ap not t.before.running in
    absurd (cc)

none_had : (setup : Setup) (n : Net) → IsSound setup n → AreDone n.w → (l : List StreamId) → n.had ≡ l → n.had ≡ []
none_had setup n sound done [] e = e
none_had setup n sound done (a ∷ ids) e = let t = sound.at_calls a (subst (λ l. IsIn l a) (sym e) (inl refl)) in absurd (no_call n done a t.0 t.1 t.2)

-- then all orders are old
pub over : (setup : Setup) (n : Net) → IsSound setup n → AreDone n.w →
    AllByRecursion (λ o. o.number ≤ n.last o.call.shard o.call.server) n.sent × AllByRecursion (λ o. o.number ≤ n.last o.call.shard o.call.server) n.answers
    × ((s v : ℕ) → n.last s v ≤ n.base + length n.w.log)
over setup n sound done = (
  all_map (IsKnown n) (λ o. o.number ≤ n.last o.call.shard o.call.server) n.sent is_old sound.sent,
  all_map (IsAnswer n) (λ o. o.number ≤ n.last o.call.shard o.call.server) n.answers (λ o a. a.1) sound.answers,
  λ s v. elim (sound.lasts s v) [ inl l ↦ l | inr h ↦ absurd (no_call n done h.stream h.instr h.call h.at_call) ],
)
  where
    is_old : (o : Order) → IsKnown n o → o.number ≤ n.last o.call.shard o.call.server
    is_old o (inl c) = absurd (no_call n done o.stream c.instr o.call c.at_call)
    is_old o (inr p) = p.last

-- and no request was passed on under a higher number than the log's length
pub low : (setup : Setup) (n : Net) → IsSound setup n → AreDone n.w → AllByRecursion (λ t. t.number ≤ length n.w.log) n.passes
low setup n sound done = all_map (IsPassable n) (λ t. t.number ≤ length n.w.log) n.passes (λ t h.
    let m = h.most in
    let e : handed n t.shard ≡ n.w.numbers t.shard = ap (λ ids. over_numbers n.w ids n.w.numbers t.shard) (none_had setup n sound done n.had refl) in
    let l = numbers_logged setup n.w sound.reached t.shard in
    omega arith) sound.passes

-- where all plans are done, the servers have the end of the plans
pub real_is_at_ends : EachNet RealIsAtEnds
real_is_at_ends setup n r done s v =
    let sound = net_sound setup n r in
    recorded setup n sound (none_had setup n sound done n.had refl) s v ∙ ((ends_are_reached setup n.w sound.reached done).1).cells s v

-- who executes a request is the one server that serves its shard
pub executes_where_serving : EachNet ExecutesWhereServing
executes_where_serving setup n r e s v = by_event e
  where
    sound : IsSound setup n
    sound = net_sound setup n r

    same : (a b : Played) → Replied a ≡ Replied b → a ≡ b
    same a b q = cc

    by_pass : (k : ℕ) (o : Option Ticket) → slice_get n.passes k ≡ o → option_map (λ t. t.shard) o ≡ Some s → (passed n o).0 ≡ Replied (played.Executed v) →
        IsServing (real n) s v × ((u : ℕ) → IsServing (real n) s u → u ≡ v)
    by_pass k None f a q = absurd (cc)
    by_pass k (Some t) f a q =
        let is : t.shard ≡ s = some_same t.shard s a in
        let known = all_at (IsPassable n) n.passes k t sound.passes f in
        subst (λ z. IsServing (real n) z v × ((u : ℕ) → IsServing (real n) z u → u ≡ v)) is
        (executes setup n sound t.shard t.target (Some t) (λ y g. let z = some_same t y g in (ap (λ (x : Ticket). x.shard) (sym z), subst (IsPassable n) z known)) v (same _ _ q))

    by_event : (e : NetEvent) → shard_asked n e ≡ Some s → (comes n e).0 ≡ Replied (played.Executed v) → IsServing (real n) s v × ((u : ℕ) → IsServing (real n) s u → u ≡ v)
    by_event (Ask r u) a q = subst (λ z. IsServing (real n) z v × ((x : ℕ) → IsServing (real n) z x → x ≡ v)) (some_same r s a)
        (executes setup n sound r u None (λ t g. absurd (cc)) v (same _ _ q))
    by_event (Pass k) a q = by_pass k (slice_get n.passes k) refl a q
    by_event (Control e) a q = absurd (cc)
    by_event (Send id) a q = absurd (cc)
    by_event (Deliver k) a q = absurd (cc)
    by_event (Answer k) a q = absurd (cc)
