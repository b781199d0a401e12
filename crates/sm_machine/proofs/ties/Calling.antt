-- The needs of a numbered call and its answer, if a stream tries the call at which it stands.
use Rattle.std.proofs.Common.{◌≡◌, ◌≤◌, ◌<◌, ◌+◌, ℕ, Bool, true, false, refl, sym, ap, ◌∙◌, arith, inl, inr, subst, Option, Some, Ok, Err}
use Rattle.std.specs.Prelude.{if◌then◌else◌}
use Rattle.std.proofs.lemmas.Bool.{cases_eq, cases_Bool, eq-eqb, ne_eqb}
use Rattle.sm_server.specs.declared.call.Refusal.{Refusal}
use Rattle.sm_placement.specs.Rows.{IsKnownCall}
use Rattle.sm_placement.specs.Setup.{Sizes}
use Rattle.sm_placement.specs.Place.{Place, CallEffect, set_last}
use Rattle.sm_reservation.specs.declared.stream_id.StreamId.{StreamId}
use Rattle.sm_plan_code.specs.declared.call.ServerCall.{ServerCall}
use Rattle.sm_plan_code.specs.declared.instruction.Instr.{Instr}
use Rattle.sm_plan_code.specs.declared.instruction.Instr.TheVariants.{PrepareAdd, PrepareDrop, Add, Drop, Change, Publish, Unlist, Signal, Wait}
use Rattle.sm_plan_code.specs.Instr.{is_call, shard_of}
use Rattle.sm_plan_code.specs.Acts.{call_of, number_after, next_call}
use Rattle.sm_plan_code.specs.Effects.{IsReachable}
use Rattle.sm_protocol.specs.State.{State, Progress, progress_of}
use Rattle.sm_protocol.specs.Steps.{call_number, call_again, call_to_make}
use Rattle.sm_protocol.proofs.Invariant.{IsKept}
use Rattle.sm_protocol.proofs.Courses.{some_same}
use Rattle.sm_protocol.proofs.Trials.{call_at}
use Rattle.sm_protocol.proofs.Tries.{again_at, effect_now, answer_again}
use Rattle.sm_protocol.proofs.Cases.{IsBefore, answer_to}
use Rattle.sm_protocol.proofs.LogRoom.{ok_is}
use Rattle.sm_machine.proofs.ties.Before.{known, can_reach}

-- ---- the call of an instruction

abbrev IsKnown : Sizes → ServerCall → Type 0
IsKnown c x = (x.shard < c.shards) × (x.server < c.servers) × IsKnownCall c.servers x.call

-- a call of a reachable instruction is of a known shard, at a known server, and so is the other server that it names
known_call : (c : Sizes) (p : Place) (i : Instr) (m : ℕ) (x : ServerCall) → call_of i m ≡ Some x → IsReachable c p i → IsKnown c x
known_call c p (PrepareAdd s v u) m x e r = subst (IsKnown c) (some_same _ x e) (r.shard, r.known v (inl refl), r.known u (inr refl))
known_call c p (PrepareDrop s u v) m x e r = subst (IsKnown c) (some_same _ x e) (r.shard, r.known u (inl refl), r.known v (inr refl))
known_call c p (Add s v role) m x e r = subst (IsKnown c) (some_same _ x e) (r.shard, r.known v (inl refl), tt)
known_call c p (Drop s v) m x e r = subst (IsKnown c) (some_same _ x e) (r.shard, r.known v (inl refl), tt)
known_call c p (Change s v to) m x e r = subst (IsKnown c) (some_same _ x e) (r.shard, r.known v (inl refl), tt)
known_call c p (Publish s) m x e r = cc
known_call c p (Unlist s) m x e r = cc
known_call c p (Signal k) m x e r = cc
known_call c p (Wait k) m x e r = cc

-- the call of a try, by the shard's highest handover number
abbrev call_by : (ℕ → ℕ) → Instr → Bool → Option ServerCall
call_by numbers i t = if t then call_again numbers i (shard_of i) else next_call numbers i

-- the handover number that a try's call carries
abbrev pub handover_number : (ℕ → ℕ) → Instr → ℕ → Bool → ℕ
handover_number numbers i s t = if t then numbers s else number_after i (numbers s)

call_by_number : (numbers : ℕ → ℕ) (i : Instr) (s : ℕ) (t : Bool) → shard_of i ≡ Some s → call_by numbers i t ≡ call_of i (handover_number numbers i s t)
call_by_number numbers (PrepareAdd a v u) s true e = ap (λ z. call_of (PrepareAdd a v u) (numbers z)) (some_same a s e)
call_by_number numbers (PrepareAdd a v u) s false e = ap (λ z. call_of (PrepareAdd a v u) (numbers z + 1)) (some_same a s e)
call_by_number numbers (PrepareDrop a u v) s true e = ap (λ z. call_of (PrepareDrop a u v) (numbers z)) (some_same a s e)
call_by_number numbers (PrepareDrop a u v) s false e = ap (λ z. call_of (PrepareDrop a u v) (numbers z)) (some_same a s e)
call_by_number numbers (Add a v role) s true e = refl
call_by_number numbers (Add a v role) s false e = refl
call_by_number numbers (Drop a v) s true e = refl
call_by_number numbers (Drop a v) s false e = refl
call_by_number numbers (Change a v to) s true e = refl
call_by_number numbers (Change a v to) s false e = refl
call_by_number numbers (Publish a) s true e = refl
call_by_number numbers (Publish a) s false e = refl
call_by_number numbers (Unlist a) s true e = refl
call_by_number numbers (Unlist a) s false e = refl
call_by_number numbers (Signal k) s t e = cc
call_by_number numbers (Wait k) s t e = cc

-- the call of a stream's next try is the instruction's, under this handover number
pub call_is : (w : State) (x : Progress) (i : Instr) (s : ℕ) → shard_of i ≡ Some s → call_to_make w x i ≡ call_of i (handover_number w.numbers i s x.ahead)
call_is w x i s e = call_by_number w.numbers i s x.ahead e

-- an instruction that is a call has a shard
pub call_shard : (i : Instr) → is_call i ≡ true → (s : ℕ) × (shard_of i ≡ Some s)
call_shard (PrepareAdd s v u) e = (s, refl)
call_shard (PrepareDrop s u v) e = (s, refl)
call_shard (Add s v role) e = (s, refl)
call_shard (Drop s v) e = (s, refl)
call_shard (Change s v to) e = (s, refl)
call_shard (Publish s) e = cc
call_shard (Unlist s) e = cc
call_shard (Signal k) e = cc
call_shard (Wait k) e = cc

-- ---- a try

-- The needs of a try's call, and its answer: it is served; its effect is now where the call was not ahead, and was
-- before where it was.
pub record CanCall (w : State) (id : StreamId) (x : ServerCall) : Type 0 where
  pub shard : x.shard < w.sizes.shards
  pub server : x.server < w.sizes.servers
  pub party : IsKnownCall w.sizes.servers x.call
  pub number : 1 ≤ call_number w (progress_of w id)
  pub served : (why : Refusal) → answer_to w id x ≡ Err why → ⊥
  pub first : (progress_of w id).ahead ≡ false → (effect : CallEffect) → answer_to w id x ≡ Ok effect → effect.fresh ≡ true
  pub again : (progress_of w id).ahead ≡ true → (effect : CallEffect) → answer_to w id x ≡ Ok effect → effect ≡ record { place = w.place; fresh = false }

module _ (w : State) (v : IsKept w) (id : StreamId) (i : Instr) (b : IsBefore w id (Some i)) (is : is_call i ≡ true) (x : ServerCall) (makes : call_to_make w (progress_of w id) i ≡ Some x) where
  abbrev now : Progress
  now = progress_of w id

  positive : 1 ≤ call_number w now
  positive = elim (cases_eq now.pending 0) [
    | inl z ↦ let e : call_number w now ≡ w.next_number = rw (eq-eqb now.pending 0 z) refl in let p = v.numbered.positive in omega arith
    | inr z ↦ let e : call_number w now ≡ now.pending = rw (ne_eqb now.pending 0 z) refl in elim (Rattle.std.proofs.lemmas.Bool.cases_lt 0 now.pending) [ inl l ↦ omega arith | inr l ↦ absurd (z (omega arith)) ]
  ]

  -- the answer where the call has not had its effect
  pub answered_first : now.ahead ≡ false → (effect : CallEffect) × (answer_to w id x ≡ Ok effect) × (effect.fresh ≡ true)
  answered_first a =
      let c = call_at w.numbers i is in
      let e : call_to_make w now i ≡ Some c.call = rw a c.next in
      let same : c.call ≡ x = some_same c.call x (sym e ∙ makes) in
      let n = effect_now w v id (known w v id (Some i) b) i b.next_is is c.call c.next c.touches c.mentions a in
      let made : CallEffect = record { place = set_last n.effect.next_place c.call.shard c.call.server (call_number w now); fresh = true } in
      (made, subst (λ z. answer_to w id z ≡ Ok made) same n.answered, refl)

  -- and where it has
  pub answered_again : now.ahead ≡ true → answer_to w id x ≡ Ok (record { place = w.place; fresh = false })
  answered_again a =
      let c = call_at w.numbers i is in
      let g = again_at w.numbers i c.call c.next in
      let e : call_to_make w now i ≡ Some g.0 = rw a g.1 in
      let same : g.0 ≡ x = some_same g.0 x (sym e ∙ makes) in
      subst (λ z. answer_to w id z ≡ Ok (record { place = w.place; fresh = false })) same
      (answer_again w v id (known w v id (Some i) b) i b.next_is is c.call c.next c.touches c.mentions a g.0 g.2 g.3)

  is_served : (why : Refusal) → answer_to w id x ≡ Err why → ⊥
  is_served why e = elim (cases_Bool now.ahead) [
    | inl a ↦ let g = answered_again a in cc
    | inr a ↦ let g = answered_first a in let h = g.1 in cc
  ]

  -- the call of a try names known ids and is served; its effect is now, unless it was ahead
  pub can_call : CanCall w id x
  can_call =
      let s = call_shard i is in
      let k = known_call w.sizes w.place i (handover_number w.numbers i s.0 now.ahead) x (sym (call_is w now i s.0 s.1) ∙ makes) (can_reach w v id i b) in
      record {
        shard = k.0;
        server = k.1;
        party = k.2;
        number = positive;
        served = is_served;
        first = λ a effect e. let g = answered_first a in ap (λ (z : CallEffect). z.fresh) (ok_is effect g.0 (sym e ∙ g.1)) ∙ g.2;
        again = λ a effect e. ok_is effect _ (sym e ∙ answered_again a);
      }
