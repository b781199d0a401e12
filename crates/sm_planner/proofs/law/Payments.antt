-- The payments of placed moves: each its whole load, where each fitted when it was placed; and nobody pays more than it has.
use Rattle.std.proofs.Common.{◌≡◌, ◌≢◌, ℕ, zero, suc, ◌+◌, ◌<◌, ◌≤◌, cond, List, length, take, refl, sym, ap, ◌∙◌, arith, inl, inr}
use Rattle.std.specs.Prelude.{◌==◌, sum_by}
use Rattle.std.proofs.lemmas.Bool.{cases_eq, cases_lt, eq-eqb, ne_eqb, lt-ltb, le-ltb}
use Rattle.std.proofs.lemmas.List.Sums.{sum_by_more}
use Rattle.sm_placement.specs.Sums.{sum_below}
use Rattle.sm_plan_code.specs.declared.moves.Move.{Move}
use Rattle.sm_planner.specs.Basis.{Basis, move_at, move_load, no_move}
use Rattle.sm_planner.specs.Placing.{taken_by, freed_by}
use Rattle.sm_planner.specs.Payment.{overlap, takes_from, frees_from, from_pool, from_move}

-- ---- stretches

beside_right : (a n x y : ℕ) → overlap a n 0 x + overlap a n x y ≡ overlap a n 0 (x + y)
beside_right a n x y = omega arith

beside_left : (t n c d : ℕ) → overlap 0 t c d + overlap t n c d ≡ overlap 0 (t + n) c d
beside_left t n c d = omega arith

longer : (t n c d : ℕ) → overlap 0 t c d ≤ overlap 0 (t + n) c d
longer t n c d = omega arith

within_second : (t c d : ℕ) → overlap 0 t c d ≤ d
within_second t c d = omega arith

whole : (a n x : ℕ) → a + n ≤ x → overlap a n 0 x ≡ n
whole a n x l = omega arith

module _ (b : Basis) (order : List Move) where
  -- the load of the k-th placed move
  abbrev pub load : ℕ → ℕ
  load k = move_load b.setup (move_at order k)

  -- the server to which it goes
  abbrev pub to : ℕ → ℕ
  to k = (move_at order k).to

  -- the server that it leaves
  abbrev pub from : ℕ → ℕ
  from k = (move_at order k).from

  -- what the first n placed moves take of a server's room
  abbrev pub taken : ℕ → ℕ → ℕ
  taken v n = sum_by (taken_by b.setup v) (take n order)

  -- what they free there
  abbrev pub freed : ℕ → ℕ → ℕ
  freed v n = sum_by (freed_by b.setup v) (take n order)

  next : (k : ℕ) → suc k ≡ k + 1
  next k = omega arith

  taken_own : (v k : ℕ) → k < length order → to k ≡ v → taken v (suc k) ≡ taken v k + load k
  taken_own v k l own = ap (taken v) (next k) ∙ sum_by_more (taken_by b.setup v) order k no_move l ∙ rw (eq-eqb (to k) v own) refl

  taken_other : (v k : ℕ) → k < length order → to k ≢ v → taken v (suc k) ≡ taken v k
  taken_other v k l other = ap (taken v) (next k) ∙ sum_by_more (taken_by b.setup v) order k no_move l ∙ rw (ne_eqb (to k) v other) (omega arith)

  freed_own : (v k : ℕ) → k < length order → from k ≡ v → freed v (suc k) ≡ freed v k + load k
  freed_own v k l own = ap (freed v) (next k) ∙ sum_by_more (freed_by b.setup v) order k no_move l ∙ rw (eq-eqb (from k) v own) refl

  freed_other : (v k : ℕ) → k < length order → from k ≢ v → freed v (suc k) ≡ freed v k
  freed_other v k l other = ap (freed v) (next k) ∙ sum_by_more (freed_by b.setup v) order k no_move l ∙ rw (ne_eqb (from k) v other) (omega arith)

  -- each move fitted when it was placed
  pub record IsAffordable : Type 0 where
    pub fits : (k : ℕ) → k < length order → takes_from b order k + load k ≤ b.pool.room (to k) + freed (to k) k

  -- ---- a move pays its load

  abbrev stretch : ℕ → ℕ → ℕ
  stretch k x = overlap (takes_from b order k) (load k) 0 x

  from_move_own : (k j : ℕ) → j < k → from j ≡ to k → from_move b order k j ≡ overlap (takes_from b order k) (load k) (b.pool.room (to k) + freed (to k) j) (load j)
  from_move_own k j l own =
      let e : b.pool.room (from j) + freed (from j) j ≡ b.pool.room (to k) + freed (to k) j = ap (λ v. b.pool.room v + freed v j) own in
      rw (lt-ltb j k l, eq-eqb (from j) (to k) own) (ap (λ c. overlap (takes_from b order k) (load k) c (load j)) e)

  -- a move pays nothing with room that is freed at another server than the one to which it goes
  pub from_move_other : (k j : ℕ) → from j ≢ to k → from_move b order k j ≡ 0
  from_move_other k j other = elim (cases_lt j k) [
    | inl less ↦ rw (lt-ltb j k less, ne_eqb (from j) (to k) other) refl
    | inr more ↦ rw (le-ltb j k more) refl
  ]

  -- a move pays nothing with the room of one that is not placed before it
  pub from_move_early : (k j : ℕ) → k ≤ j → from_move b order k j ≡ 0
  from_move_early k j l = rw (le-ltb j k l) refl

  paid_so_far : (k m : ℕ) → k < length order → m ≤ k → from_pool b order k + sum_below m (from_move b order k) ≡ stretch k (b.pool.room (to k) + freed (to k) m)
  paid_so_far k zero l h = omega arith
  paid_so_far k (suc m) l h =
      let low : from_pool b order k + sum_below m (from_move b order k) ≡ stretch k (b.pool.room (to k) + freed (to k) m) = paid_so_far k m l (omega arith) in
      elim (cases_eq (from m) (to k)) [
        | inl own ↦
            let one = from_move_own k m (omega arith) own in
            let more = freed_own (to k) m (omega arith) own in
            let both = beside_right (takes_from b order k) (load k) (b.pool.room (to k) + freed (to k) m) (load m) in
            let same : b.pool.room (to k) + freed (to k) m + load m ≡ b.pool.room (to k) + freed (to k) (suc m) = omega arith in
            let there = ap (stretch k) same in
            omega arith
        | inr other ↦
            let none = from_move_other k m other in
            let same = freed_other (to k) m (omega arith) other in
            let there = ap (λ n. stretch k (b.pool.room (to k) + n)) same in
            omega arith
      ]

  -- where each move fitted, what it pays from the pool and with the room of earlier ones is its whole load
  pub pays_its_load : IsAffordable → (k : ℕ) → k < length order → from_pool b order k + sum_below k (from_move b order k) ≡ load k
  pays_its_load fits k l =
      let all = paid_so_far k k l (omega arith) in
      let is = whole (takes_from b order k) (load k) (b.pool.room (to k) + freed (to k) k) (fits.fits k l) in
      all ∙ is

  -- ---- nobody pays more than it has

  handed_so_far : (j m : ℕ) → m ≤ length order → sum_below m (λ k. from_move b order k j) ≤ overlap 0 (taken (from j) m) (frees_from b order j) (load j)
  handed_so_far j zero l = omega arith
  handed_so_far j (suc m) l =
      let low : sum_below m (λ k. from_move b order k j) ≤ overlap 0 (taken (from j) m) (frees_from b order j) (load j) = handed_so_far j m (omega arith) in
      elim (cases_eq (to m) (from j)) [
        | inl own ↦
            let more = taken_own (from j) m (omega arith) own in
            let grown = ap (λ t. overlap 0 t (frees_from b order j) (load j)) more in
            let both = beside_left (taken (from j) m) (load m) (frees_from b order j) (load j) in
            let long = longer (taken (from j) m) (load m) (frees_from b order j) (load j) in
            elim (cases_lt j m) [
              | inl less ↦
                  let one : from_move b order m j ≡ overlap (taken (from j) m) (load m) (frees_from b order j) (load j) =
                  (rw (lt-ltb j m less, eq-eqb (from j) (to m) (sym own)) (ap (λ v. overlap (taken v m) (load m) (frees_from b order j) (load j)) own)) in
                  omega arith
              | inr late ↦ let none = from_move_early m j late in omega arith
            ]
        | inr other ↦
            let none = from_move_other m j (λ e. other (sym e)) in
            let same = taken_other (from j) m (omega arith) other in
            let grown = ap (λ t. overlap 0 t (frees_from b order j) (load j)) same in
            omega arith
      ]

  -- all moves together pay no more with the room of one than it freed
  pub hands_what_it_freed : (j : ℕ) → sum_below (length order) (λ k. from_move b order k j) ≤ load j
  hands_what_it_freed j =
      let all = handed_so_far j (length order) (omega arith) in
      let most = within_second (taken (from j) (length order)) (frees_from b order j) (load j) in
      omega arith

  -- what moves to a server pay from the pool
  abbrev pub pool_paid : ℕ → ℕ → ℕ
  pool_paid v k = cond (to k == v) (from_pool b order k) 0

  pool_so_far : (v m : ℕ) → m ≤ length order → sum_below m (pool_paid v) ≤ overlap 0 (taken v m) 0 (b.pool.room v)
  pool_so_far v zero l = omega arith
  pool_so_far v (suc m) l =
      let low : sum_below m (pool_paid v) ≤ overlap 0 (taken v m) 0 (b.pool.room v) = pool_so_far v m (omega arith) in
      elim (cases_eq (to m) v) [
        | inl own ↦
            let more = taken_own v m (omega arith) own in
            let grown = ap (λ t. overlap 0 t 0 (b.pool.room v)) more in
            let both = beside_left (taken v m) (load m) 0 (b.pool.room v) in
            let one : pool_paid v m ≡ overlap (taken v m) (load m) 0 (b.pool.room v) = rw (eq-eqb (to m) v own) (ap (λ w. overlap (taken w m) (load m) 0 (b.pool.room w)) own) in
            omega arith
        | inr other ↦
            let none : pool_paid v m ≡ 0 = rw (ne_eqb (to m) v other) refl in
            let same = taken_other v m (omega arith) other in
            let grown = ap (λ t. overlap 0 t 0 (b.pool.room v)) same in
            omega arith
      ]

  -- all moves together pay no more from the pool at a server than the pool has there
  pub pool_pays_what_it_has : (v : ℕ) → sum_below (length order) (pool_paid v) ≤ b.pool.room v
  pool_pays_what_it_has v =
      let all = pool_so_far v (length order) (omega arith) in
      let most = within_second (taken v (length order)) 0 (b.pool.room v) in
      omega arith
