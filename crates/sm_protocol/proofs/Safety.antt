-- The states that events lead to are safe: who serves, loads, floors, the map, who is down, and tries.
use Rattle.sm_protocol.proofs.Below.{◌≡◌, ◌≤◌, ℕ, ◌⊎◌, true, Some, refl, sym, ap, ◌∙◌, inl, inr, subst, arith, count_by, sum_by-take-le, Cell, Forwarding, Lead, Gone, At, Ready, Handing, Handed, serves, Describes, OfSpare, StreamId, is_call, IsListable, Course, stream_at, calls_before, IsGood, leader_serves, one_serves}
use Rattle.sm_protocol.proofs.Words.{State, plan_at, stream_parts, progress_of, is_begun, reach, IsSafePlace, IsSafe}
use Rattle.sm_protocol.proofs.Invariant.{IsRunning, IsKept}
use Rattle.sm_protocol.proofs.Courses.{good}
use Rattle.sm_protocol.proofs.Trials.{running}
use Rattle.sm_protocol.proofs.Keeping.{begun}
use Rattle.sm_protocol.proofs.LogRoom.{HasRoom, plan_tries}

-- the server serves the shard of the row, or forwards to one that does
abbrev ServesOrForwards : (ℕ → Cell) → ℕ → Type 0
ServesOrForwards row u = (serves row u ≡ true) ⊎ ((v number : ℕ) × (row u ≡ Forwarding v number) × (serves row v ≡ true))

-- whom the map may list under a lead serves, or forwards to the server that does
listed_serves : (lead : Lead) (n : ℕ) (row : ℕ → Cell) → Describes lead n row → (u : ℕ) → IsListable lead (Some u) → ServesOrForwards row u
listed_serves Gone n row d u l = absurd l
listed_serves (At x) n row d u l = inl (leader_serves (At x) n row d u (ap Some (sym l))).0
listed_serves (Ready x y) n row d u l = inl (leader_serves (Ready x y) n row d u (ap Some (sym l))).0
listed_serves (Handing x y) n row d u l = inr (y, n, ap row l ∙ d.1, (leader_serves (Handing x y) n row d y refl).0)
listed_serves (Handed x y) n row d u (inl l) = inr (y, n, ap row l ∙ d.1, (leader_serves (Handed x y) n row d y refl).0)
listed_serves (Handed x y) n row d u (inr l) = inl (leader_serves (Handed x y) n row d u (ap Some (sym l))).0

-- the placement of a state that keeps the invariant is safe
pub place_safe : (w : State) → IsKept w → IsSafePlace w.sizes w.place
place_safe w v = record {
  serving = λ s a b p q. one_serves (v.leads s) (w.numbers s) (w.place.cells s) (v.stage.described s) a b p q;
  rooms = v.stage.placement.rooms;
  floors = λ s l. let f = v.fits (OfSpare s) in omega arith;
  listed = λ s u e. listed_serves (v.leads s) (w.numbers s) (w.place.cells s) (v.stage.described s) u (subst (IsListable (v.leads s)) e (v.stage.listing s));
}

-- no more calls stand before a position than the budget has
pub calls_within : (s : Course) (p : ℕ) → IsGood s → calls_before s p ≤ s.budget
calls_within s p good =
    let most : calls_before s p ≤ count_by is_call s.code = sum_by-take-le _ s.code p in
    let budget = good.within in
    omega arith

effects_within : (w : State) → IsKept w → (id : StreamId) → is_begun w id ≡ true → (progress_of w id).effects ≤ (stream_parts w id).budget
effects_within w v id e =
    let b = begun w id e in
    let r : IsRunning w.sizes w.place (plan_at w id.plan) (w.progress id.plan) (w.marks id.plan) = running w v id b in
    let g : IsGood (stream_at w.sizes (plan_at w id.plan) id.stream) = good w.sizes w.place (plan_at w id.plan) (w.progress id.plan) (w.marks id.plan) r id.stream b.stream in
    let now = progress_of w id in
    let l = calls_within (stream_at w.sizes (plan_at w id.plan) id.stream) (reach now.at now.ahead) g in
    let o = (r.streams id.stream b.stream).effects in
    omega arith

-- a state that keeps the invariant and the room of its log is safe
pub is_safe : (w : State) → IsKept w → HasRoom w → IsSafe w
is_safe w v h = record {
  place = place_safe w v;
  cap = h.cap;
  tries = λ id e. h.tries id.plan id.stream;
  effects = effects_within w v;
  plan_tries = plan_tries w h;
}
