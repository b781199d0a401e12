-- A server goes down or comes up: a spare replica of each shard that is live at it leaves the pool or comes into it.
use Rattle.std.proofs.Common.{◌≡◌, ◌≢◌, ◌≤◌, ◌<◌, ◌+◌, ◌-◌, ◌^◌, ℕ, zero, suc, Bool, true, false, refl, sym, ap, ◌∙◌, arith, inl, inr, Some, None, List, length}
use Rattle.std.specs.Prelude.{◌==◌, ◌&&◌, nat_lt, if◌then◌else◌}
use Rattle.std.proofs.lemmas.Bool.{cases_eq, cases_lt, eq-eqb, lt-ltb, le-ltb}
use Rattle.sm_placement.specs.Sums.{put, bit}
use Rattle.sm_placement.specs.Setup.{Setup}
use Rattle.sm_placement.specs.Place.{set_down, is_live_at, live_at}
use Rattle.sm_placement.proofs.Lives.{live_moves}
use Rattle.sm_placement.proofs.Searches.{first_from_none}
use Rattle.sm_placement.proofs.Sums.{put-here, put-apart, count-le}
use Rattle.sm_reservation.specs.Hold.{Hold, pay_spare, get_spare}
use Rattle.sm_reservation.specs.Amounts.{OfSpare}
use Rattle.sm_task_controller.specs.Decision.{denial}
use Rattle.sm_task_controller.proofs.Denials.{granted}
use Rattle.sm_protocol.specs.declared.event.Logged.{Logged}
use Rattle.sm_protocol.specs.State.{State, held, pool, free_places}
use Rattle.sm_protocol.specs.Happens.{engaged}
use Rattle.sm_protocol.specs.Laws.{IsReached}
use Rattle.sm_protocol.proofs.Invariant.{IsKept}
use Rattle.sm_protocol.proofs.Pools.{spare_conserved}
use Rattle.sm_machine.specs.Tied.{IsTied, pay_live, get_live}
use Rattle.sm_machine.proofs.ties.Before.{kept, is_setup, same_sizes}
use Rattle.sm_reservation.proofs.ParcelSums.{same_hold}

-- ---- spare replicas of the live shards

same_test : (s n : ℕ) → s ≢ n → nat_lt s (suc n) ≡ nat_lt s n
same_test s n e = elim (cases_lt s n) [
  | inl l ↦ lt-ltb s (suc n) (omega arith) ∙ sym (lt-ltb s n l)
  | inr l ↦ le-ltb s (suc n) (omega arith) ∙ sym (le-ltb s n l)
]

module _ (h : Hold) (live : ℕ → Bool) where
  none_before : (n s : ℕ) → n ≤ s → bit (nat_lt s n && live s) ≡ 0
  none_before n s l = rw (le-ltb s n l) refl

  one_there : (n s : ℕ) → s < n → live s ≡ true → bit (nat_lt s n && live s) ≡ 1
  one_there n s l e = rw (lt-ltb s n l, e) refl

  -- the spare replicas that are left
  pub spare_paid : (n s : ℕ) → (pay_live h live n).spare s ≡ h.spare s - bit (nat_lt s n && live s)
  spare_paid zero s = let z = none_before 0 s (omega arith) in omega arith
  spare_paid (suc n) s = go (λ k. spare_paid n k) (live n) refl
    where
      x : Hold
      x = pay_live h live n

      go : ((k : ℕ) → x.spare k ≡ h.spare k - bit (nat_lt k n && live k)) → (t : Bool) → live n ≡ t → (if t then pay_spare x n 1 else x).spare s ≡ h.spare s - bit (nat_lt s (suc n) && live s)
      go was true e = elim (cases_eq s n) [
        | inl q ↦
            let a : put x.spare n (x.spare n - 1) s ≡ x.spare n - 1 = put-here x.spare n (x.spare n - 1) s q in
            let b : x.spare n ≡ h.spare n - bit (nat_lt n n && live n) = was n in
            let z = none_before n n (omega arith) in
            let o = one_there (suc n) s (omega arith) (ap live q ∙ e) in
            let d : h.spare s ≡ h.spare n = ap h.spare q in
            omega arith
        | inr q ↦
            let a : put x.spare n (x.spare n - 1) s ≡ x.spare s = put-apart x.spare n (x.spare n - 1) s q in
            let b : x.spare s ≡ h.spare s - bit (nat_lt s n && live s) = was s in
            let c : bit (nat_lt s (suc n) && live s) ≡ bit (nat_lt s n && live s) = ap (λ t. bit (t && live s)) (same_test s n q) in
            omega arith
      ]
      go was false e = elim (cases_eq s n) [
        | inl q ↦
            let b : x.spare s ≡ h.spare s - bit (nat_lt s n && live s) = was s in
            let z = none_before n s (omega arith) in
            let o : bit (nat_lt s (suc n) && live s) ≡ 0 = rw (lt-ltb s (suc n) (omega arith), ap live q ∙ e) refl in
            omega arith
        | inr q ↦
            let b : x.spare s ≡ h.spare s - bit (nat_lt s n && live s) = was s in
            let c : bit (nat_lt s (suc n) && live s) ≡ bit (nat_lt s n && live s) = ap (λ t. bit (t && live s)) (same_test s n q) in
            omega arith
      ]

  -- and all else stays
  pub else_paid : (n : ℕ) → pay_live h live n ≡ record h { spare = (pay_live h live n).spare }
  else_paid zero = refl
  else_paid (suc n) = go (else_paid n) (live n)
    where
      go : pay_live h live n ≡ record h { spare = (pay_live h live n).spare } → (t : Bool) → (if t then pay_spare (pay_live h live n) n 1 else pay_live h live n) ≡ record h { spare = (if t then pay_spare (pay_live h live n) n 1 else pay_live h live n).spare }
      go was true = ap (λ (k : Hold). record k { spare = (pay_spare (pay_live h live n) n 1).spare }) was
      go was false = was

  -- the spare replicas that there are then
  pub spare_got : (n s : ℕ) → (get_live h live n).spare s ≡ h.spare s + bit (nat_lt s n && live s)
  spare_got zero s = let z = none_before 0 s (omega arith) in omega arith
  spare_got (suc n) s = go (λ k. spare_got n k) (live n) refl
    where
      x : Hold
      x = get_live h live n

      go : ((k : ℕ) → x.spare k ≡ h.spare k + bit (nat_lt k n && live k)) → (t : Bool) → live n ≡ t → (if t then get_spare x n 1 else x).spare s ≡ h.spare s + bit (nat_lt s (suc n) && live s)
      go was true e = elim (cases_eq s n) [
        | inl q ↦
            let a : put x.spare n (x.spare n + 1) s ≡ x.spare n + 1 = put-here x.spare n (x.spare n + 1) s q in
            let b : x.spare n ≡ h.spare n + bit (nat_lt n n && live n) = was n in
            let z = none_before n n (omega arith) in
            let o = one_there (suc n) s (omega arith) (ap live q ∙ e) in
            let d : h.spare s ≡ h.spare n = ap h.spare q in
            omega arith
        | inr q ↦
            let a : put x.spare n (x.spare n + 1) s ≡ x.spare s = put-apart x.spare n (x.spare n + 1) s q in
            let b : x.spare s ≡ h.spare s + bit (nat_lt s n && live s) = was s in
            let c : bit (nat_lt s (suc n) && live s) ≡ bit (nat_lt s n && live s) = ap (λ t. bit (t && live s)) (same_test s n q) in
            omega arith
      ]
      go was false e = elim (cases_eq s n) [
        | inl q ↦
            let b : x.spare s ≡ h.spare s + bit (nat_lt s n && live s) = was s in
            let z = none_before n s (omega arith) in
            let o : bit (nat_lt s (suc n) && live s) ≡ 0 = rw (lt-ltb s (suc n) (omega arith), ap live q ∙ e) refl in
            omega arith
        | inr q ↦
            let b : x.spare s ≡ h.spare s + bit (nat_lt s n && live s) = was s in
            let c : bit (nat_lt s (suc n) && live s) ≡ bit (nat_lt s n && live s) = ap (λ t. bit (t && live s)) (same_test s n q) in
            omega arith
      ]

  pub else_got : (n : ℕ) → get_live h live n ≡ record h { spare = (get_live h live n).spare }
  else_got zero = refl
  else_got (suc n) = go (else_got n) (live n)
    where
      go : get_live h live n ≡ record h { spare = (get_live h live n).spare } → (t : Bool) → (if t then get_spare (get_live h live n) n 1 else get_live h live n) ≡ record h { spare = (if t then get_spare (get_live h live n) n 1 else get_live h live n).spare }
      go was true = ap (λ (k : Hold). record k { spare = (get_spare (get_live h live n) n 1).spare }) was
      go was false = was

  -- what is taken and what is given at one shard is as what there was there
  pub spare_next : (n : ℕ) → (pay_live h live n).spare n ≡ h.spare n
  spare_next n = let a = spare_paid n n in let z = none_before n n (omega arith) in omega arith

  pub spare_next_got : (n : ℕ) → (get_live h live n).spare n ≡ h.spare n
  spare_next_got n = let a = spare_got n n in let z = none_before n n (omega arith) in omega arith

-- ---- restarts

module _ (setup : Setup) (w : State) (reached : IsReached setup w) (u : ℕ) (known : u < w.sizes.servers) where
  abbrev v : IsKept w
  v = kept setup w reached

  -- the shards that are live at the server
  abbrev pub live_now : ℕ → Bool
  live_now s = is_live_at w.place s u

  -- the shards that are live at it once it is up
  abbrev pub live_then : ℕ → Bool
  live_then s = is_live_at (set_down w.place u false) s u

  pool_by : (down : Bool) (log : List Logged) (h : Hold) → h ≡ record (pool w) { spare = h.spare } →
      ((s : ℕ) → s < w.sizes.shards → h.spare s ≡ (live_at w.sizes (set_down w.place u down) s - w.sizes.floor s) - held w (OfSpare s)) →
      ((s : ℕ) → w.sizes.shards ≤ s → h.spare s ≡ (pool w).spare s) →
      h ≡ pool (record w { place = set_down w.place u down; log = log })
  pool_by down log h is inside outside = is ∙ same_hold (record (pool w) { spare = h.spare }) (pool new) (λ s x. refl) (λ s. refl) (λ x. refl) (λ s. elim (cases_lt s w.sizes.shards) [
    | inl l ↦ inside s l ∙ sym (let e : (pool new).spare s ≡ (live_at w.sizes (set_down w.place u down) s - w.sizes.floor s) - held w (OfSpare s) = rw (lt-ltb s w.sizes.shards l) refl in e)
    | inr l ↦
        let a : (pool w).spare s ≡ 0 - held w (OfSpare s) = rw (le-ltb s w.sizes.shards l) refl in
        let b : (pool new).spare s ≡ 0 - held w (OfSpare s) = rw (le-ltb s w.sizes.shards l) refl in
        outside s l ∙ a ∙ sym b
  ])
    where
      new : State
      new = record w { place = set_down w.place u down; log = log }

  -- ---- a server goes down

  -- a shard that is live at a server that may go down has a spare replica in the pool
  pub spare_there : denial w.sizes w.place (pool w) (engaged w u) (free_places w) u ≡ None → (s : ℕ) → s < w.sizes.shards → live_now s ≡ true → 1 ≤ (pool w).spare s
  spare_there e s l live =
      let g = granted w.sizes w.place (pool w) (engaged w u) (free_places w) u e in
      let row = first_from_none _ 0 w.sizes.shards g.spare s (omega arith) (omega arith) in
      let free = test (is_live_at w.place s u) ((pool w).spare s == 0) row live in
      elim (cases_eq ((pool w).spare s) 0) [
        | inl z ↦ absurd (let t = eq-eqb ((pool w).spare s) 0 z in cc)
        | inr z ↦ elim (cases_lt 0 ((pool w).spare s)) [ inl m ↦ omega arith | inr m ↦ absurd (z (omega arith)) ]
      ]
    where
      test : (t d : Bool) → (if t && d then Some s else None) ≡ None → t ≡ true → d ≡ false
      test true true e f = cc
      test true false e f = refl
      test false d e f = cc

  -- the pool's less may be called at each live shard in turn
  pub can_pay : denial w.sizes w.place (pool w) (engaged w u) (free_places w) u ≡ None → (n : ℕ) → n < w.sizes.shards → live_now n ≡ true → 1 ≤ (pay_live (pool w) live_now n).spare n
  can_pay e n l live = let a = spare_next (pool w) live_now n in let b = spare_there e n l live in omega arith

  pub pool_of_approval : denial w.sizes w.place (pool w) (engaged w u) (free_places w) u ≡ None → (log : List Logged) →
      pay_live (pool w) live_now w.sizes.shards ≡ pool (record w { place = set_down w.place u true; log = log })
  pool_of_approval e log = pool_by true log (pay_live (pool w) live_now w.sizes.shards) (else_paid (pool w) live_now w.sizes.shards)
      (λ s l.
      let a = spare_paid (pool w) live_now w.sizes.shards s in
      let b : bit (nat_lt s w.sizes.shards && live_now s) ≡ bit (live_now s) = rw (lt-ltb s w.sizes.shards l) refl in
      let c : (pool w).spare s ≡ (live_at w.sizes w.place s - w.sizes.floor s) - held w (OfSpare s) = rw (lt-ltb s w.sizes.shards l) refl in
      let m : live_at w.sizes (set_down w.place u true) s + bit (live_now s) ≡ live_at w.sizes w.place s = Rattle.sm_placement.proofs.Lives.live_after_down w.sizes w.place s u known in
      omega arith)
      (λ s l.
      let a = spare_paid (pool w) live_now w.sizes.shards s in
      let b : bit (nat_lt s w.sizes.shards && live_now s) ≡ 0 = rw (le-ltb s w.sizes.shards l) refl in
      omega arith)

  -- all stays tied where a server goes down, and a spare replica of each shard live there leaves the pool
  pub tied_approved : denial w.sizes w.place (pool w) (engaged w u) (free_places w) u ≡ None → (log : List Logged) (p : Hold) (g c : ℕ → ℕ → Hold) → IsTied w p g c →
      IsTied (record w { place = set_down w.place u true; log = log }) (pay_live p live_now w.sizes.shards) g c
  tied_approved e log p g c t = record {
    pool = ap (λ h. pay_live h live_now w.sizes.shards) t.pool ∙ pool_of_approval e log;
    grants = t.grants;
    parcels = t.parcels;
  }

  -- ---- a server comes up

  live_risen : w.place.down u ≡ true → (s : ℕ) → live_at w.sizes (set_down w.place u false) s ≡ live_at w.sizes w.place s + bit (live_then s)
  live_risen e s =
      let moves : live_at w.sizes (set_down w.place u false) s + bit (is_live_at w.place s u) ≡ live_at w.sizes w.place s + bit (live_then s) = live_moves w.sizes w.place s u false known in
      let before : bit (is_live_at w.place s u) ≡ 0 = rw e refl in
      omega arith

  -- the pool's more may be called at each live shard in turn
  pub can_get : w.place.down u ≡ true → (n : ℕ) → n < w.sizes.shards → live_then n ≡ true → (get_live (pool w) live_then n).spare n + 1 < 2 ^ 64
  can_get e n l live =
      let a = spare_next_got (pool w) live_then n in
      let c = spare_conserved w v n l in
      let few = (is_setup setup w reached).servers in
      let servers : w.sizes.servers ≡ length setup.servers = ap (λ z. z.servers) (same_sizes setup w reached) in
      let m : live_at w.sizes w.place n ≤ w.sizes.servers = count-le w.sizes.servers _ in
      omega arith

  pub pool_of_restart : w.place.down u ≡ true → (log : List Logged) → get_live (pool w) live_then w.sizes.shards ≡ pool (record w { place = set_down w.place u false; log = log })
  pool_of_restart e log = pool_by false log (get_live (pool w) live_then w.sizes.shards) (else_got (pool w) live_then w.sizes.shards)
      (λ s l.
      let a = spare_got (pool w) live_then w.sizes.shards s in
      let b : bit (nat_lt s w.sizes.shards && live_then s) ≡ bit (live_then s) = rw (lt-ltb s w.sizes.shards l) refl in
      let c = spare_conserved w v s l in
      let m = live_risen e s in
      omega arith)
      (λ s l.
      let a = spare_got (pool w) live_then w.sizes.shards s in
      let b : bit (nat_lt s w.sizes.shards && live_then s) ≡ 0 = rw (le-ltb s w.sizes.shards l) refl in
      omega arith)

  -- all stays tied where a server comes up, and one of each shard live there then comes into the pool
  pub tied_restarted : w.place.down u ≡ true → (log : List Logged) (p : Hold) (g c : ℕ → ℕ → Hold) → IsTied w p g c →
      IsTied (record w { place = set_down w.place u false; log = log }) (get_live p live_then w.sizes.shards) g c
  tied_restarted e log p g c t = record {
    pool = ap (λ h. get_live h live_then w.sizes.shards) t.pool ∙ pool_of_restart e log;
    grants = t.grants;
    parcels = t.parcels;
  }
