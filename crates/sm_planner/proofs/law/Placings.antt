-- Moves that are placed as the rule says: each once, each where its load fits, and none left.
use Rattle.std.proofs.Common.{◌≡◌, ◌≢◌, ℕ, zero, suc, ◌+◌, ◌-◌, ◌<◌, ◌≤◌, true, false, None, List, [], ◌∷◌, length, get_or, take, refl, sym, ap, ◌∙◌, arith, inl, inr, subst}
use Rattle.std.specs.Prelude.{◌==◌, not, sum_by, map}
use Rattle.std.proofs.lemmas.Bool.{cases_Bool, cases_eq, cases_lt, eq-eqb, ne_eqb, eqb-true, not-false, both_ways}
use Rattle.std.proofs.lemmas.List.{length-map, get_or-map, take-map, get_or-take, length-take-le}
use Rattle.std.proofs.lemmas.List.Sums.{sum_by-cons, sum_by_more}
use Rattle.std.proofs.lemmas.List.Folds.{list_any_at}
use Rattle.sm_placement.proofs.Searches.{first_none}
use Rattle.sm_plan_code.specs.declared.moves.Move.{Move}
use Rattle.sm_planner.specs.Basis.{Basis, move_at, move_load, no_move}
use Rattle.sm_planner.specs.Placing.{taken_by, freed_by, room_left, is_placed, first_left}
use Rattle.sm_planner.specs.Refusal.{in_placed_order}
use Rattle.sm_planner.proofs.law.Payments.{IsAffordable, load, to, taken, freed}
use Rattle.sm_planner.proofs.Accounting.{IsGreedy, fits_in}

-- ---- numbers in a list

-- a number that stands at a place among the placed ones is placed
pub any_there : (i : ℕ) (xs : List ℕ) (k : ℕ) → k < length xs → get_or xs k 0 ≡ i → is_placed xs i ≡ true
any_there i xs k l e = list_any_at (λ x. x == i) xs k 0 l (eq-eqb (get_or xs k 0) i e)

there_any : (i : ℕ) (xs : List ℕ) → is_placed xs i ≡ true → (k : ℕ) × (k < length xs) × (get_or xs k 0 ≡ i)
there_any i [] e = absurd cc
there_any i (x ∷ xs) e = elim (cases_Bool (x == i)) [
  | inl here ↦ (0, omega arith, eqb-true x i here)
  | inr apart ↦ (let more = there_any i xs (rw apart at e) in let l = more.1 in (suc more.0, omega arith, more.2))
]

-- the sum over a mapped list is the sum of the images
pub sum_of_map : {X Y : Type 0} (f : Y → ℕ) (g : X → Y) (xs : List X) → sum_by f (map g xs) ≡ sum_by (λ x. f (g x)) xs
sum_of_map f g [] = refl
sum_of_map f g (x ∷ xs) =
    let a = sum_by-cons f (g x) (map g xs) in
    let b = sum_by-cons (λ x. f (g x)) x xs in
    let low = sum_of_map f g xs in
    omega arith

module _ (b : Basis) (moves : List Move) (placed : List ℕ) (greedy : IsGreedy b moves placed) where
  abbrev order : List Move
  order = in_placed_order moves placed

  abbrev place_of : ℕ → ℕ
  place_of k = get_or placed k 0

  -- the order has as many moves as are placed
  pub count_is : length order ≡ length placed
  count_is = length-map placed (move_at moves)

  -- the k-th move of the order is the one that is placed k-th
  pub move_is : (k : ℕ) → k < length placed → move_at order k ≡ move_at moves (place_of k)
  move_is k l = get_or-map (move_at moves) placed k 0 no_move l

  -- what the rule says of each placed move
  record IsPlacedAt (k : ℕ) : Type 0 where
    known : place_of k < length moves
    anew : is_placed (take k placed) (place_of k) ≡ false
    fits : move_load b.setup (move_at moves (place_of k)) ≤ room_left b moves (take k placed) (move_at moves (place_of k)).to

  placed_at : (k : ℕ) → k < length placed → IsPlacedAt k
  placed_at k l =
      let fit = fits_in b moves (take k placed) (place_of k) (greedy k l) in
      record { known = fit.0; anew = fit.1; fits = fit.2 }

  -- what is placed is a move of the list
  pub place_known : (k : ℕ) → k < length placed → place_of k < length moves
  place_known k l = (placed_at k l).known

  -- no move is placed twice
  not_before : (j k : ℕ) → j < k → k < length placed → place_of j ≢ place_of k
  not_before j k l m same =
      let long = length-take-le k placed (omega arith) in
      let there = any_there (place_of k) (take k placed) j (omega arith) (get_or-take k placed j 0 l ∙ same) in
      both_ways (is_placed (take k placed) (place_of k)) (placed_at k m).anew there

  -- no move is placed at two places
  pub placed_once : (j k : ℕ) → j < length placed → k < length placed → place_of j ≡ place_of k → j ≡ k
  placed_once j k l m same = elim (cases_lt j k) [
    | inl less ↦ absurd (not_before j k less m same)
    | inr more ↦ elim (cases_eq j k) [
      | inl e ↦ e
      | inr apart ↦ absurd (not_before k j (omega arith) l (sym same))
    ]
  ]

  -- ---- each fits

  taken_is : (v k : ℕ) → taken b order v k ≡ sum_by (λ i. taken_by b.setup v (move_at moves i)) (take k placed)
  taken_is v k = ap (sum_by (taken_by b.setup v)) (take-map (move_at moves) k placed) ∙ sum_of_map (taken_by b.setup v) (move_at moves) (take k placed)

  freed_is : (v k : ℕ) → freed b order v k ≡ sum_by (λ i. freed_by b.setup v (move_at moves i)) (take k placed)
  freed_is v k = ap (sum_by (freed_by b.setup v)) (take-map (move_at moves) k placed) ∙ sum_of_map (freed_by b.setup v) (move_at moves) (take k placed)

  load_fits : (k : ℕ) → k < length placed → load b order k ≤ b.pool.room (to b order k) + freed b order (to b order k) k - taken b order (to b order k) k
  load_fits k l =
      let v : ℕ = to b order k in
      let same : (move_at moves (place_of k)).to ≡ v = ap (λ (m : Move). m.to) (sym (move_is k l)) in
      let loads : move_load b.setup (move_at moves (place_of k)) ≡ load b order k = ap (move_load b.setup) (sym (move_is k l)) in
      let enough : move_load b.setup (move_at moves (place_of k)) ≤ room_left b moves (take k placed) v = subst (λ w. move_load b.setup (move_at moves (place_of k)) ≤ room_left b moves (take k placed) w) same (placed_at k l).fits in
      let t = taken_is v k in
      let f = freed_is v k in
      let room : room_left b moves (take k placed) v ≡ b.pool.room v + freed b order v k - taken b order v k = rw (t, f) refl in
      omega arith

  next : (k : ℕ) → suc k ≡ k + 1
  next k = omega arith

  -- never is more taken than there is
  taken_within : (v k : ℕ) → k ≤ length placed → taken b order v k ≤ b.pool.room v + freed b order v k
  taken_within v zero l = omega arith
  taken_within v (suc k) l =
      let low : taken b order v k ≤ b.pool.room v + freed b order v k = taken_within v k (omega arith) in
      let count = count_is in
      let t : taken b order v (suc k) ≡ taken b order v k + taken_by b.setup v (move_at order k) = ap (taken b order v) (next k) ∙ sum_by_more (taken_by b.setup v) order k no_move (omega arith) in
      let f : freed b order v (suc k) ≡ freed b order v k + freed_by b.setup v (move_at order k) = ap (freed b order v) (next k) ∙ sum_by_more (freed_by b.setup v) order k no_move (omega arith) in
      elim (cases_eq (to b order k) v) [
        | inl own ↦
            let one : taken_by b.setup v (move_at order k) ≡ load b order k = rw (eq-eqb (to b order k) v own) refl in
            let enough = load_fits k (omega arith) in
            let here : load b order k ≤ b.pool.room v + freed b order v k - taken b order v k = subst (λ w. load b order k ≤ b.pool.room w + freed b order w k - taken b order w k) own enough in
            omega arith
        | inr other ↦
            let none : taken_by b.setup v (move_at order k) ≡ 0 = rw (ne_eqb (to b order k) v other) refl in
            omega arith
      ]

  -- each move fitted when it was placed
  pub affordable : IsAffordable b order
  affordable = record {
    fits = λ k l.
        let count = count_is in
        let enough = load_fits k (omega arith) in
        let within = taken_within (to b order k) k (omega arith) in
        omega arith;
  }

  -- ---- none is left

  -- where none is left each move is placed
  pub all_placed : first_left moves placed ≡ None → (i : ℕ) → i < length moves → (k : ℕ) × (k < length placed) × (place_of k ≡ i)
  all_placed none i l = there_any i placed (not-false (is_placed placed i) (first_none (length moves) (λ i. not (is_placed placed i)) none i l))
