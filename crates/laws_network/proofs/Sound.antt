-- Facts that hold wherever events lead: what the servers have is what is recorded, with the calls made whose answers are outstanding;
-- and numbers keep old orders from having an effect.
use Rattle.std.proofs.Common.{◌≡◌, ◌≢◌, ℕ, ◌+◌, ◌≤◌, ◌⊎◌, refl, sym, ap, ◌∙◌, inl, inr, subst, arith, true, List, length}
use Rattle.std.specs.List.{AllByRecursion}
use Rattle.std.proofs.lemmas.Bool.{and_parts, cases_Bool, eq-eqb, eqb-true}
use Rattle.sm_placement.specs.Setup.{Setup}
use Rattle.sm_reservation.specs.declared.stream_id.StreamId.{StreamId}
use Rattle.sm_plan_code.specs.declared.instruction.Instr.{Instr}
use Rattle.sm_plan_code.specs.declared.call.ServerCall.{ServerCall}
use Rattle.sm_protocol.specs.State.{State, is_begun, progress_of}
use Rattle.sm_protocol.specs.Laws.{IsReached}
use Rattle.sm_protocol.proofs.Invariant.{IsKept}
use Rattle.sm_protocol.proofs.Whole.{reached_keeps}
use Rattle.laws_network.proofs.Traced.{Net, Order, Ticket, since_after, stands_still}
use Rattle.sm_plan_code.proofs.Passings.{CanBePassed}
use Rattle.laws_network.proofs.Overlay.{AreOnce, IsIn, over_numbers, overlay}
use Rattle.laws_network.proofs.Apart.{IsAtCall, calls_apart}
use Rattle.laws_network.proofs.Calm.{IsCalm}
use Rattle.laws_network.proofs.Lists.{all_map, is_in}

-- the order is the one that its stream has now
pub record IsCurrent (n : Net) (o : Order) : Type 0 where
  pub instr : Instr
  pub at_call : IsAtCall n.w o.stream instr o.call
  pub position : o.at ≡ (progress_of n.w o.stream).at
  pub number : o.number ≡ n.since o.stream + 1

-- the order is an old one: neither its stream nor its server looks at it any more
pub record IsPast (n : Net) (o : Order) : Type 0 where
  pub since : o.number ≤ n.since o.stream
  pub last : o.number ≤ n.last o.call.shard o.call.server

-- an order is the present one of its stream, or it is past
abbrev pub IsKnown : Net → Order → Type 0
IsKnown n o = IsCurrent n o ⊎ IsPast n o

-- of an answer it is known too that its order has had its effect
abbrev pub IsAnswer : Net → Order → Type 0
IsAnswer n o = IsKnown n o × (o.number ≤ n.last o.call.shard o.call.server)

-- the highest handover numbers that the servers have seen
abbrev pub handed : Net → ℕ → ℕ
handed n = over_numbers n.w n.had n.w.numbers

-- a request may have been passed on under the number of this pass
abbrev pub IsPassable : Net → Ticket → Type 0
IsPassable n t = CanBePassed (n.cells t.shard) (handed n t.shard) t.number

-- a call for this cell has had its effect, and its answer is outstanding
pub record IsHadAt (n : Net) (s u : ℕ) : Type 0 where
  pub stream : StreamId
  pub instr : Instr
  pub call : ServerCall
  pub had : IsIn n.had stream
  pub at_call : IsAtCall n.w stream instr call
  pub shard : call.shard ≡ s
  pub server : call.server ≡ u

pub record IsSound (setup : Setup) (n : Net) : Type 0 where
  pub reached : IsReached setup n.w
  pub calm : IsCalm n.w
  pub at_calls : (id : StreamId) → IsIn n.had id → (i : Instr) × (x : ServerCall) × IsAtCall n.w id i x
  pub once : AreOnce n.had
  pub cells : n.cells ≡ overlay n.w n.had n.w.place.cells
  -- the last number of a cell whose call has had its effect is that of its order; that of any other cell is no higher than the log's length above the base
  pub had_last : (id : StreamId) (i : Instr) (x : ServerCall) → IsIn n.had id → IsAtCall n.w id i x → n.last x.shard x.server ≡ n.since id + 1
  pub lasts : (s u : ℕ) → (n.last s u ≤ n.base + length n.w.log) ⊎ IsHadAt n s u
  -- and where a stream's call has not had its effect, its number is higher than the last one of its cell
  pub fresh : (id : StreamId) (i : Instr) (x : ServerCall) → (IsIn n.had id → ⊥) → IsAtCall n.w id i x → n.last x.shard x.server ≤ n.since id
  pub sinces : (id : StreamId) → n.since id ≤ n.base + length n.w.log
  pub sent : AllByRecursion (IsKnown n) n.sent
  pub answers : AllByRecursion (IsAnswer n) n.answers
  pub passes : AllByRecursion (IsPassable n) n.passes

-- the last number of the cell of a call that has had its effect
pub last_had : {setup : Setup} {n : Net} → IsSound setup n → (s u : ℕ) (h : IsHadAt n s u) → n.last s u ≡ n.since h.stream + 1
last_had {setup} {n} sound s u h = subst (λ a. n.last a u ≡ n.since h.stream + 1) h.shard (subst (λ a. n.last h.call.shard a ≡ n.since h.stream + 1) h.server (sound.had_last h.stream h.instr h.call h.had h.at_call))

-- ---- the controller goes on

-- The proof obligations if the controller goes on from one state to another, while some of the streams whose answers were
-- outstanding, if any, have moved on with them.
pub record GoesOn (n : Net) (new : State) (had : List StreamId) (Moves : StreamId → Type 0) : Type 0 where
  pub log : length n.w.log ≤ length new.log
  pub decided : (id : StreamId) → Moves id ⊎ (Moves id → ⊥)
  pub longer : (id : StreamId) → Moves id → length n.w.log + 1 ≤ length new.log
  pub moved : (id : StreamId) → Moves id → IsIn n.had id
  pub elsewhere : (id : StreamId) → Moves id → (progress_of new id).at ≢ (progress_of n.w id).at
  pub had_before : (id : StreamId) → IsIn had id → IsIn n.had id × (Moves id → ⊥)
  pub had_still : (id : StreamId) → IsIn n.had id → (Moves id → ⊥) → IsIn had id
  pub once : AreOnce had
  pub cells : n.cells ≡ overlay new had new.place.cells
  pub numbers : over_numbers new had new.numbers ≡ handed n
  pub forward : (id : StreamId) (i : Instr) (x : ServerCall) → (Moves id → ⊥) → IsAtCall n.w id i x → IsAtCall new id i x × ((progress_of new id).at ≡ (progress_of n.w id).at)
  pub backward : (id : StreamId) (i : Instr) (x : ServerCall) → is_begun n.w id ≡ true → (progress_of new id).at ≡ (progress_of n.w id).at → IsAtCall new id i x → IsAtCall n.w id i x

module _ (setup : Setup) (n : Net) (sound : IsSound setup n) (new : State) (had : List StreamId) (Moves : StreamId → Type 0) (on : GoesOn n new had Moves)
    (reached : IsReached setup new) (calm : IsCalm new) where
  abbrev next : Net
  next = record n { w = new; since = since_after n new; had = had }

  v : IsKept new
  v = (reached_keeps setup new reached).0

  -- a stream that was begun and stands where it stood came there when it did
  since_same : (id : StreamId) → is_begun n.w id ≡ true → (progress_of new id).at ≡ (progress_of n.w id).at → since_after n new id ≡ n.since id
  since_same id b e = rw (b, eq-eqb (progress_of new id).at (progress_of n.w id).at e) refl

  since_cases : (id : StreamId) → ((is_begun n.w id ≡ true) × ((progress_of new id).at ≡ (progress_of n.w id).at) × (since_after n new id ≡ n.since id)) ⊎ (since_after n new id ≡ n.base + length new.log)
  since_cases id = elim (cases_Bool (stands_still n.w new id)) [
    | inl e ↦ let p = and_parts _ _ e in inl (p.0, eqb-true _ _ p.1, rw e refl)
    | inr e ↦ inr (rw e refl)
  ]

  since_moved : (id : StreamId) → Moves id → since_after n new id ≡ n.base + length new.log
  since_moved id m = elim (since_cases id) [ inl s ↦ absurd (on.elsewhere id m s.1) | inr s ↦ s ]

  -- it is never earlier
  since_grows : (id : StreamId) → n.since id ≤ since_after n new id
  since_grows id = let l = sound.sinces id in let g = on.log in elim (since_cases id) [ inl s ↦ (let e = s.2 in omega arith) | inr s ↦ omega arith ]

  goes_sinces : (id : StreamId) → since_after n new id ≤ n.base + length new.log
  goes_sinces id = let l = sound.sinces id in let g = on.log in elim (since_cases id) [ inl s ↦ (let e = s.2 in omega arith) | inr s ↦ omega arith ]

  goes_had_last : (id : StreamId) (i : Instr) (x : ServerCall) → IsIn had id → IsAtCall new id i x → n.last x.shard x.server ≡ since_after n new id + 1
  goes_had_last id i x h t =
      let b = on.had_before id h in
      let o = sound.at_calls id b.0 in
      let f = on.forward id o.0 o.1 b.1 o.2 in
      let back = on.backward id i x o.2.before.begun f.1 t in
      let l = sound.had_last id i x b.0 back in
      let s = since_same id o.2.before.begun f.1 in
      omega arith

  goes_lasts : (s u : ℕ) → (n.last s u ≤ n.base + length new.log) ⊎ IsHadAt next s u
  goes_lasts s u = elim (sound.lasts s u) [
    | inl l ↦ inl (let g = on.log in omega arith)
    | inr h ↦ elim (on.decided h.stream) [
      | inl m ↦ inl (let l = last_had sound s u h in let k = sound.sinces h.stream in let g = on.longer h.stream m in omega arith)
      | inr m ↦ inr (record {
        stream = h.stream;
        instr = h.instr;
        call = h.call;
        had = on.had_still h.stream h.had m;
        at_call = (on.forward h.stream h.instr h.call m h.at_call).0;
        shard = h.shard;
        server = h.server;
      })
    ]
  ]

  goes_fresh : (id : StreamId) (i : Instr) (x : ServerCall) → (IsIn had id → ⊥) → IsAtCall new id i x → n.last x.shard x.server ≤ since_after n new id
  goes_fresh id i x out t = elim (since_cases id) [
    | inl s ↦
        let back = on.backward id i x s.0 s.1 t in
        elim (is_in n.had id) [
          | inl h ↦ elim (on.decided id) [
            | inl m ↦ absurd (on.elsewhere id m s.1)
            | inr m ↦ absurd (out (on.had_still id h m))
          ]
          | inr h ↦ let l = sound.fresh id i x h back in let e = s.2 in omega arith
        ]
    | inr s ↦ elim (goes_lasts x.shard x.server) [
      | inl l ↦ omega arith
      | inr h ↦ absurd (calls_apart new v h.stream id h.instr i h.call x (λ e. out (subst (IsIn had) e h.had)) h.at_call t (calm.unmade h.stream) (calm.unmade id) (h.shard, h.server))
    ]
  ]

  goes_known : (o : Order) → IsKnown n o → IsKnown next o
  goes_known o (inl c) = elim (on.decided o.stream) [
    | inl m ↦ inr (
        let s = since_moved o.stream m in
        let l = sound.had_last o.stream c.instr o.call (on.moved o.stream m) c.at_call in
        let k = sound.sinces o.stream in
        let g = on.longer o.stream m in
        let e = c.number in
        record { since = omega arith; last = omega arith }
        )
    | inr m ↦ inl (
        let f = on.forward o.stream c.instr o.call m c.at_call in
        record { instr = c.instr; at_call = f.0; position = c.position ∙ sym f.1; number = c.number ∙ ap (λ k. k + 1) (sym (since_same o.stream c.at_call.before.begun f.1)) }
        )
  ]
  goes_known o (inr p) = inr (record { since = (let a = p.since in let g = since_grows o.stream in omega arith); last = p.last })

  -- what holds still does
  pub goes_sound : IsSound setup next
  goes_sound = record {
    reached = reached;
    calm = calm;
    at_calls = λ id h. let b = on.had_before id h in let o = sound.at_calls id b.0 in (o.0, o.1, (on.forward id o.0 o.1 b.1 o.2).0);
    once = on.once;
    cells = on.cells;
    had_last = goes_had_last;
    lasts = goes_lasts;
    fresh = goes_fresh;
    sinces = goes_sinces;
    sent = all_map (IsKnown n) (IsKnown next) n.sent goes_known sound.sent;
    answers = all_map (IsAnswer n) (IsAnswer next) n.answers (λ o a. (goes_known o a.0, a.1)) sound.answers;
    passes = all_map (IsPassable n) (IsPassable next) n.passes (λ t h. subst (λ f. CanBePassed (n.cells t.shard) (f t.shard) t.number) (sym on.numbers) h) sound.passes;
  }
