-- The room that a stream needs for its moves to come, of what it has by now: from the pool, and from its own moves made.
use Rattle.std.proofs.Common.{◌≡◌, ◌≢◌, ℕ, zero, suc, ◌+◌, ◌<◌, ◌≤◌, Bool, true, false, cond, List, length, refl, sym, ap, ◌∙◌, arith, inl, inr}
use Rattle.std.specs.Prelude.{◌==◌, ◌&&◌, nat_le}
use Rattle.std.proofs.lemmas.Bool.{cases_Bool, cases_eq, cases_lt, eq-eqb, ne_eqb, eqb-true, le-leb, lt-leb, and_parts, and_left, and_right}
use Rattle.sm_placement.specs.Sums.{sum_below}
use Rattle.sm_placement.proofs.Sums.{same_sum, sum_of_both, sum_apart, sum_zero}
use Rattle.sm_plan_code.specs.declared.moves.Move.{Move}
use Rattle.sm_planner.specs.Basis.{Basis}
use Rattle.sm_planner.specs.Payment.{from_pool, from_move, stream_of}
use Rattle.sm_planner.proofs.law.Payments.{load, to, from, from_move_other, IsAffordable, pays_its_load, hands_what_it_freed}
use Rattle.sm_planner.proofs.law.Handing.{of_others, cond_nothing}

-- a function that is nowhere above another has no higher sum
pub sum_each : (n : ℕ) (f g : ℕ → ℕ) → ((k : ℕ) → k < n → f k ≤ g k) → sum_below n f ≤ sum_below n g
sum_each zero f g each = omega arith
sum_each (suc n) f g each = let low = sum_each n f g (λ k l. each k (omega arith)) in let one = each n (omega arith) in omega arith

cond_sum : (t : Bool) (a x : ℕ) → cond t (a + x) 0 ≡ cond t a 0 + cond t x 0
cond_sum true a x = refl
cond_sum false a x = refl

-- an amount that counts only where a test holds is no more than itself
pub part_of : (t : Bool) (x : ℕ) → cond t x 0 ≤ x
part_of true x = omega arith
part_of false x = omega arith

same_either_way : (a c : ℕ) → (a == c) ≡ (c == a)
same_either_way a c = elim (cases_eq a c) [
  | inl same ↦ eq-eqb a c same ∙ sym (eq-eqb c a (sym same))
  | inr other ↦ ne_eqb a c other ∙ sym (ne_eqb c a (λ e. other (sym e)))
]

module _ (b : Basis) (order : List Move) (i : ℕ) where
  -- a move of the stream from the n-th on that goes to the server
  abbrev pub comes : ℕ → ℕ → ℕ → Bool
  comes n v k = nat_le n k && ((stream_of k == i) && (to b order k == v))

  -- what a move pays from the pool, and with the room of those of its stream among the first n
  abbrev pub own_pay : ℕ → ℕ → ℕ
  own_pay n k = from_pool b order k + sum_below n (λ j. cond (stream_of j == i) (from_move b order k j) 0)

  -- what the moves of the stream from the n-th on pay in this way at the server
  abbrev pub owed : ℕ → ℕ → ℕ
  owed n v = sum_below (length order) (λ k. cond (comes n v k) (own_pay n k) 0)

  -- the same for the moves behind the n-th
  abbrev pub rest : ℕ → ℕ → ℕ
  rest n v = sum_below (length order) (λ k. cond (comes (suc n) v k) (own_pay n k) 0)

  -- what they pay with the room of the n-th
  abbrev pub gain : ℕ → ℕ → ℕ
  gain n v = sum_below (length order) (λ k. cond (comes (suc n) v k) (cond (stream_of n == i) (from_move b order k n) 0) 0)

  -- once the n-th is made, the moves behind it pay as before and with the room of the n-th
  pub owed_then : (n v : ℕ) → owed (suc n) v ≡ rest n v + gain n v
  owed_then n v =
      same_sum (length order) (λ k. cond (comes (suc n) v k) (own_pay (suc n) k) 0) (λ k. cond (comes (suc n) v k) (own_pay n k) 0 + cond (comes (suc n) v k) (cond (stream_of n == i) (from_move b order k n) 0) 0)
      (λ k l. ap (λ m. cond (comes (suc n) v k) m 0) (more k) ∙ cond_sum (comes (suc n) v k) (own_pay n k) (cond (stream_of n == i) (from_move b order k n) 0))
      ∙ sum_of_both (length order) (λ k. cond (comes (suc n) v k) (own_pay n k) 0) (λ k. cond (comes (suc n) v k) (cond (stream_of n == i) (from_move b order k n) 0) 0)
    where
      more : (k : ℕ) → own_pay (suc n) k ≡ own_pay n k + cond (stream_of n == i) (from_move b order k n) 0
      more k = omega arith

  later : (n k : ℕ) → k ≢ n → nat_le n k ≡ nat_le (suc n) k
  later n k apart = elim (cases_lt n k) [
    | inl less ↦ le-leb n k (omega arith) ∙ sym (le-leb (suc n) k (omega arith))
    | inr more ↦ lt-leb n k (omega arith) ∙ sym (lt-leb (suc n) k (omega arith))
  ]

  same_behind : (n v k : ℕ) → k ≢ n → cond (comes n v k) (own_pay n k) 0 ≡ cond (comes (suc n) v k) (own_pay n k) 0
  same_behind n v k apart = ap (λ t. cond (t && ((stream_of k == i) && (to b order k == v))) (own_pay n k) 0) (later n k apart)

  not_behind_itself : (n v : ℕ) → cond (comes (suc n) v n) (own_pay n n) 0 ≡ 0
  not_behind_itself n v = rw (lt-leb (suc n) n (omega arith)) refl

  -- the n-th move is not of the stream, or goes elsewhere
  pub owed_skips : (n v : ℕ) → ((stream_of n == i) && (to b order n == v)) ≡ false → owed n v ≡ rest n v
  owed_skips n v skips = same_sum (length order) (λ k. cond (comes n v k) (own_pay n k) 0) (λ k. cond (comes (suc n) v k) (own_pay n k) 0) (λ k l. elim (cases_eq k n) [
    | inl same ↦ at_it k same
    | inr apart ↦ same_behind n v k apart
  ])
    where
      at_it : (k : ℕ) → k ≡ n → cond (comes n v k) (own_pay n k) 0 ≡ cond (comes (suc n) v k) (own_pay n k) 0
      at_it k same = rw same (ap (λ t. cond t (own_pay n n) 0) (and_right (nat_le n n) ((stream_of n == i) && (to b order n == v)) skips) ∙ sym (not_behind_itself n v))

  -- the n-th move is of the stream
  pub owed_takes : (n v : ℕ) → n < length order → stream_of n ≡ i → to b order n ≡ v → owed n v ≡ rest n v + own_pay n n
  owed_takes n v l own there =
      let apart = sum_apart (length order) (λ k. cond (comes n v k) (own_pay n k) 0) (λ k. cond (comes (suc n) v k) (own_pay n k) 0) n 0 (own_pay n n) l
      (λ k other. same_behind n v k other)
      (let here : cond (comes n v n) (own_pay n n) 0 ≡ own_pay n n = rw (le-leb n n (omega arith), eq-eqb (stream_of n) i own, eq-eqb (to b order n) v there) refl in
      let none = not_behind_itself n v in
      omega arith) in
      omega arith

  -- ---- what a move of the stream leaves

  -- with the room of a move nothing is paid at another server than the one that it leaves
  pub gain_elsewhere : (n v : ℕ) → from b order n ≢ v → gain n v ≡ 0
  gain_elsewhere n v apart = sum_zero (length order) (λ k. cond (comes (suc n) v k) (cond (stream_of n == i) (from_move b order k n) 0) 0) (λ k. elim (cases_Bool (comes (suc n) v k)) [
    | inl does ↦
        let there : to b order k ≡ v = eqb-true (to b order k) v (and_parts (stream_of k == i) (to b order k == v) (and_parts (nat_le (suc n) k) ((stream_of k == i) && (to b order k == v)) does).1).1 in
        rw (does, from_move_other b order k n (λ e. apart (e ∙ there))) (cond_nothing (stream_of n == i))
    | inr not_so ↦ rw not_so refl
  ])

  -- with the room of a move of another stream nothing is paid in this way
  pub gain_of_other : (n v : ℕ) → stream_of n ≢ i → gain n v ≡ 0
  gain_of_other n v other = sum_zero (length order) (λ k. cond (comes (suc n) v k) (cond (stream_of n == i) (from_move b order k n) 0) 0) (λ k. rw (ne_eqb (stream_of n) i other) (cond_nothing (comes (suc n) v k)))

  -- the move's stream keeps enough of what the move freed, and hands on the rest
  pub keeps_enough : (n v : ℕ) → stream_of n ≡ i → gain n v + sum_below (length order) (λ k. of_others b order k n) ≤ load b order n
  keeps_enough n v own =
      let both = sum_of_both (length order) (λ k. cond (comes (suc n) v k) (cond (stream_of n == i) (from_move b order k n) 0) 0) (λ k. of_others b order k n) in
      let each = sum_each (length order) (λ k. cond (comes (suc n) v k) (cond (stream_of n == i) (from_move b order k n) 0) 0 + of_others b order k n) (λ k. from_move b order k n) (λ k l. one k) in
      let most = hands_what_it_freed b order n in
      omega arith
    where
      one : (k : ℕ) → cond (comes (suc n) v k) (cond (stream_of n == i) (from_move b order k n) 0) 0 + of_others b order k n ≤ from_move b order k n
      one k = elim (cases_eq (stream_of k) i) [
        | inl same ↦
            let none : of_others b order k n ≡ 0 = rw (eq-eqb (stream_of k) (stream_of n) (same ∙ sym own)) refl in
            let outer = part_of (comes (suc n) v k) (cond (stream_of n == i) (from_move b order k n) 0) in
            let inner = part_of (stream_of n == i) (from_move b order k n) in
            omega arith
        | inr apart ↦
            let all : of_others b order k n ≡ from_move b order k n = rw (ne_eqb (stream_of k) (stream_of n) (λ e. apart (e ∙ own))) refl in
            let none : cond (comes (suc n) v k) (cond (stream_of n == i) (from_move b order k n) 0) 0 ≡ 0 =
            ap (λ t. cond t (cond (stream_of n == i) (from_move b order k n) 0) 0) (and_right (nat_le (suc n) k) ((stream_of k == i) && (to b order k == v)) (and_left (stream_of k == i) (to b order k == v) (ne_eqb (stream_of k) i apart))) in
            omega arith
      ]

  -- what the stream has, and what it waits for, are the load
  pub pays_with_both : IsAffordable b order → (n : ℕ) → n < length order → stream_of n ≡ i → own_pay n n + sum_below n (of_others b order n) ≡ load b order n
  pays_with_both fits n l own =
      let both = sum_of_both n (λ j. cond (stream_of j == i) (from_move b order n j) 0) (of_others b order n) in
      let each = same_sum n (λ j. cond (stream_of j == i) (from_move b order n j) 0 + of_others b order n j) (from_move b order n) (λ j m. one j) in
      let all = pays_its_load b order fits n l in
      omega arith
    where
      split : (t : Bool) (x : ℕ) → cond t x 0 + cond t 0 x ≡ x
      split true x = omega arith
      split false x = omega arith

      one : (j : ℕ) → cond (stream_of j == i) (from_move b order n j) 0 + of_others b order n j ≡ from_move b order n j
      one j =
          let same : (stream_of n == stream_of j) ≡ (stream_of j == i) = same_either_way (stream_of n) (stream_of j) ∙ ap (λ k. stream_of j == k) own in
          ap (λ t. cond (stream_of j == i) (from_move b order n j) 0 + cond t 0 (from_move b order n j)) same ∙ split (stream_of j == i) (from_move b order n j)
