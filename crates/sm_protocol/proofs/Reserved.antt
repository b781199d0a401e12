-- The facts that the pool keeps, and restarts that keep what is reserved.
use Rattle.sm_protocol.proofs.Below.{◌≡◌, ℕ, zero, suc, ◌+◌, ◌<◌, ◌≤◌, Bool, true, false, Option, Some, None, refl, ap, arith, inl, inr, length, slice_index_or, list_any, ◌==◌, ◌&&◌, not, ne_eqb, and_right, cases_lt, get_or_past, first_from, no_stream, StreamModel, is_live_at, live_at, StreamId, OfSpare, Denied, denial, first_without_spare, IsGranted, granted, not_denied}
use Rattle.sm_protocol.proofs.Words.{State, Start, no_start, plan_at, stream_id, stream_count, stream_parts, progress_of, is_mentioned, held, pool, free_places, Answered, engages, engaged, approved, Approve, happens, IsApproved, EachReached, IsConserved, ApprovedWhereReserved}
use Rattle.sm_protocol.specs.declared.event.Played.TheVariants as played
use Rattle.sm_protocol.proofs.Invariant.{IsKept}
use Rattle.sm_protocol.proofs.Pools.{room_conserved, spare_conserved}
use Rattle.sm_protocol.proofs.Restarts.{free_streams, spare_free}
use Rattle.sm_protocol.proofs.Whole.{reached_keeps}

-- ---- what is conserved

-- what is free, what is held or under way and what nobody may use are together what there is
pub room_is_conserved : EachReached IsConserved
room_is_conserved setup w reached = let v = (reached_keeps setup w reached).0 in record { room = room_conserved w v; spare = spare_conserved w v }

-- ---- searches

-- nothing is found where there is no answer
nothing_found : {A : Type 0} (f : ℕ → Option A) (a n : ℕ) → ((k : ℕ) → a ≤ k → k < a + n → f k ≡ None) → first_from a n f ≡ None
nothing_found f a zero none = refl
nothing_found f a (suc n) none = rw (none a (omega arith) (omega arith)) (nothing_found f (a + 1) n (λ k l m. none k (omega arith) (omega arith)))

-- ---- who is engaged

module _ (w : State) (u : ℕ) where
  -- where no stream engages the server, nobody is engaged
  nobody_engaged : ((id : StreamId) → engages w u id ≡ false) → engaged w u ≡ None
  nobody_engaged free = nothing_found _ 0 (length w.plans) (λ k a l. nothing_found _ 0 (stream_count w k) (λ i b m. let e = free (stream_id k i) in rw e refl))

  -- and where nobody is, no stream does: one that was not begun has no code
  nobody_engages : engaged w u ≡ None → (id : StreamId) → engages w u id ≡ false
  nobody_engages none id = elim (cases_lt id.plan (length w.plans)) [
    | inr past ↦ without_code (ap (λ (x : Start). slice_index_or x.plan.streams id.stream no_stream) (get_or_past w.plans id.plan no_start past))
    | inl plan ↦ elim (cases_lt id.stream (stream_count w id.plan)) [
      | inr past ↦ without_code (get_or_past (plan_at w id.plan).streams id.stream no_stream past)
      | inl stream ↦ free_streams w u none id (record { plan = plan; stream = stream })
    ]
  ]
    where
      without_code : stream_parts w id ≡ no_stream → engages w u id ≡ false
      without_code e = and_right (not (progress_of w id).done) _ (ap (λ (x : StreamModel). list_any (is_mentioned u) x.code) e)

-- ---- spare replicas

module _ (w : State) (v : IsKept w) (u : ℕ) where
  -- where each shard that is live at the server keeps its floor and what is reserved, no shard is short of a spare replica
  free_spare : ((s : ℕ) → s < w.sizes.shards → is_live_at w.place s u ≡ true → w.sizes.floor s + held w (OfSpare s) + 1 ≤ live_at w.sizes w.place s) → first_without_spare w.sizes w.place (pool w) u ≡ None
  free_spare enough = nothing_found _ 0 w.sizes.shards (λ s a l. let e = go s (omega arith) (is_live_at w.place s u) refl in rw e refl)
    where
      go : (s : ℕ) → s < w.sizes.shards → (t : Bool) → is_live_at w.place s u ≡ t → (is_live_at w.place s u && ((pool w).spare s == 0)) ≡ false
      go s known false e = rw e refl
      go s known true e =
          let c = spare_conserved w v s known in
          let l = enough s known e in
          rw (e, ne_eqb ((pool w).spare s) 0 (λ z. absurd (omega arith))) refl

  -- ---- restarts

  abbrev is_granted : Type 0
  is_granted = IsGranted w.sizes w.place (pool w) (engaged w u) (free_places w) u

  granted_approved : is_granted → IsApproved w u
  granted_approved g = record { up = g.up; free = nobody_engages w u g.free; cap = g.cap; spare = spare_free w v u g.spare; places = g.places }

  approved_granted : IsApproved w u → is_granted
  approved_granted a = record { up = a.up; free = nobody_engaged w u a.free; cap = a.cap; spare = free_spare a.spare; places = a.places }

  approved_reserves : (happens w (Approve u)).0 ≡ Answered played.Approved → IsApproved w u
  approved_reserves e = go (denial w.sizes w.place (pool w) (engaged w u) (free_places w) u) refl e
    where
      go : (o : Option Denied) → denial w.sizes w.place (pool w) (engaged w u) (free_places w) u ≡ o → (approved w u o).0 ≡ Answered played.Approved → IsApproved w u
      go (Some why) f g = cc
      go None f g = granted_approved (granted w.sizes w.place (pool w) (engaged w u) (free_places w) u f)

  reserved_approves : IsApproved w u → (happens w (Approve u)).0 ≡ Answered played.Approved
  reserved_approves a = ap (λ o. (approved w u o).0) (not_denied w.sizes w.place (pool w) (engaged w u) (free_places w) u (approved_granted a))

-- a restart is approved exactly where shards keep floors and what is reserved, and the caps allow it
pub approved_where_reserved : ApprovedWhereReserved
approved_where_reserved setup w u reached known = let v = (reached_keeps setup w reached).0 in (approved_reserves w v u, reserved_approves w v u)
