-- A stream before its next instruction: what it holds is true, its call reaches a cell that no other call under way has
-- reached, and what its server answers.
use Rattle.sm_protocol.proofs.Below.{◌≡◌, ◌≢◌, ℕ, ◌+◌, ◌<◌, ◌≤◌, true, false, Some, refl, sym, ap, arith, inl, inr, subst, length, slice_get, cases_eq, part_of_sum, StreamId, Right, count, Instr, Publish, Unlist, Signal, Wait, ServerCall, is_call, names_of, next_call, IsScene, touched, IsWithinReach, parcels_of, stream_at, hold_before, exclusive, within_reach, two_of_sum}
use Rattle.sm_protocol.proofs.Words.{State, plan_at, stream_count, progress_of, reach, hold_of_stream, held_by, held}
use Rattle.sm_protocol.proofs.Invariant.{IsRunning, IsKept, code_of}
use Rattle.sm_protocol.proofs.Holds.{part, share, share_held}
use Rattle.sm_protocol.proofs.Courses.{good, next_turn}
use Rattle.sm_protocol.proofs.Numbers.{same_stream}

-- what two streams hold is part of what is held
pub two_shares : (w : State) (a b : StreamId) (r : Right) → a.plan < length w.plans → a.stream < stream_count w a.plan → b.plan < length w.plans → b.stream < stream_count w b.plan → a ≢ b →
    share w a r (progress_of w a) + share w b r (progress_of w b) ≤ held w r
two_shares w a b r l i m j apart = elim (cases_eq a.plan b.plan) [
  | inr e ↦
      let x = part_of_sum (stream_count w a.plan) (λ n. part w.sizes (plan_at w a.plan) r n (w.progress a.plan n)) a.stream i in
      let y = part_of_sum (stream_count w b.plan) (λ n. part w.sizes (plan_at w b.plan) r n (w.progress b.plan n)) b.stream j in
      let z = two_of_sum (length w.plans) (held_by w r) a.plan b.plan l m e in
      omega arith
  | inl e ↦
      let k = b.plan in
      let i' : a.stream < stream_count w k = subst (λ n. a.stream < stream_count w n) e i in
      let x : share w a r (progress_of w a) ≡ part w.sizes (plan_at w k) r a.stream (w.progress k a.stream) = ap (λ n. part w.sizes (plan_at w n) r a.stream (w.progress n a.stream)) e in
      let y = two_of_sum (stream_count w k) (λ n. part w.sizes (plan_at w k) r n (w.progress k n)) a.stream b.stream i' j (λ h. apart (same_stream a b e h)) in
      let z = part_of_sum (length w.plans) (held_by w r) k m in
      omega arith
]

-- a call has a shard and a server, where it touches the cell
pub record IsCallAt (numbers : ℕ → ℕ) (x : Instr) : Type 0 where
  pub call : ServerCall
  pub next : next_call numbers x ≡ Some call
  pub touches : touched x ≡ Some (call.shard, call.server)
  pub mentions : (names_of x).first ≡ Some call.server

-- so it is of each instruction that is a call
pub call_at : (numbers : ℕ → ℕ) (x : Instr) → is_call x ≡ true → IsCallAt numbers x
call_at numbers (Publish s) e = cc
call_at numbers (Unlist s) e = cc
call_at numbers (Signal k) e = cc
call_at numbers (Wait k) e = cc
call_at numbers _ e = record { call = _; next = refl; touches = refl; mentions = refl }

-- a stream that was begun
pub record IsBegun (w : State) (id : StreamId) : Type 0 where
  pub plan : id.plan < length w.plans
  pub stream : id.stream < stream_count w id.plan

module _ (w : State) (v : IsKept w) where
  -- the plan of a stream that was begun runs
  pub running : (id : StreamId) → IsBegun w id → IsRunning w.sizes w.place (plan_at w id.plan) (w.progress id.plan) (w.marks id.plan)
  running id b = v.plans id.plan b.plan

  -- the hold of a stream that hasn't made its end
  pub share_is : (id : StreamId) (r : Right) → (progress_of w id).done ≡ false → share w id r (progress_of w id) ≡ count (hold_of_stream w id.plan id.stream) r
  share_is id r d = rw d refl

  -- what it holds is true of the placement
  pub scene : (id : StreamId) → IsBegun w id → (progress_of w id).done ≡ false → IsScene w.sizes w.place v.leads w.numbers (hold_of_stream w id.plan id.stream)
  scene id b d = record {
    placement = v.stage.placement;
    described = v.stage.described;
    truth = record { rights = λ r. let e = share_is id r d in let h = share_held w id r b.plan b.stream in let f = v.fits r in omega arith };
  }

  -- two streams reach no cell together
  pub apart : (a b : StreamId) → IsBegun w a → IsBegun w b → (progress_of w a).done ≡ false → (progress_of w b).done ≡ false → a ≢ b → (s u : ℕ) →
      IsWithinReach (hold_of_stream w a.plan a.stream) s u → IsWithinReach (hold_of_stream w b.plan b.stream) s u → ⊥
  apart a b x y d e n = exclusive w.sizes w.place v.leads w.numbers (hold_of_stream w a.plan a.stream) (hold_of_stream w b.plan b.stream) v.stage.described
      (λ r. let g = share_is a r d in let h = share_is b r e in let t = two_shares w a b r x.plan x.stream y.plan y.stream n in let f = v.fits r in omega arith)

  -- a call under way that has had its effect is within reach of its stream
  pub ahead_reaches : (id : StreamId) (instr : Instr) → IsBegun w id → (progress_of w id).ahead ≡ true → slice_get (code_of w id) (progress_of w id).at ≡ Some instr → (s u : ℕ) → touched instr ≡ Some (s, u) →
      IsWithinReach (hold_of_stream w id.plan id.stream) s u
  ahead_reaches id instr b a here s u t =
      let n = next_turn w.sizes (plan_at w id.plan) id.stream (progress_of w id).at instr (good w.sizes w.place (plan_at w id.plan) (w.progress id.plan) (w.marks id.plan) (running id b) id.stream b.stream) here in
      let r = within_reach w.sizes (parcels_of (plan_at w id.plan).signals) _ _ instr n.leaves s u t in
      subst (λ q. IsWithinReach (hold_before (stream_at w.sizes (plan_at w id.plan) id.stream) (reach (progress_of w id).at q)) s u) (sym a) r.1
