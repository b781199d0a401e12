-- The moves of a drain whose targets are found are not refused.
use Rattle.std.proofs.Common.{◌≡◌, ◌≢◌, ℕ, zero, suc, ◌+◌, ◌<◌, ◌≤◌, Bool, true, false, cond, Option, Some, None, List, [], ◌∷◌, ◌++◌, length, get_or, take, refl, sym, ap, ◌∙◌, arith, inl, inr, subst, length-append}
use Rattle.std.specs.Prelude.{All, ◌==◌, ◌&&◌, ◌||◌, not, nat_le, nat_lt, sum_by, find, option_map}
use Rattle.std.specs.Option.{option_or}
use Rattle.std.specs.List.{list_any}
use Rattle.std.proofs.Math.Path.{fun_ext}
use Rattle.std.proofs.lemmas.Bool.{cases_Bool, cases_eq, cases_lt, eq-eqb, ne_eqb, eqb-true, and_parts, and_from, and_left, and_right, ltb-true, or_cases, or_from, or_left, or_right, leb-true, le-leb, le-ltb, not-true, not-false, not_from_false, not_from_true, both_ways, false_from_ne_true}
use Rattle.std.proofs.lemmas.List.{take-append-le, take_at, get_or_append_left, get_or_at, get_or-take, length-take-le}
use Rattle.std.proofs.lemmas.List.Elements.{All-nil, All-push, All-weaker, All-get_or, All-head, All-tail, All-from_get_or}
use Rattle.std.proofs.lemmas.List.Sums.{sum_by_push}
use Rattle.std.proofs.lemmas.List.Folds.{list_any_at}
use Rattle.sm_server.specs.Cell.{is_absent, is_primary, is_secondary}
use Rattle.sm_placement.specs.Setup.{IsSetup, sizes_of}
use Rattle.sm_placement.specs.Sums.{sum_below}
use Rattle.sm_placement.proofs.Searches.{first_none, first_none_from}
use Rattle.sm_placement.proofs.Sums.{sum_apart}
use Rattle.sm_verifier.proofs.SumLemmas.{sum_once, sum_by-below}
use Rattle.sm_reservation.specs.declared.right.PlainCell.TheVariants.{Absent, Secondary}
use Rattle.sm_reservation.specs.Amounts.{is_cell}
use Rattle.sm_reservation.proofs.Below.{neither_of}
use Rattle.sm_planner.specs.declared.refusal.NoPlan.TheVariants.{Held, ServerDown, NotThere, NoRoom, Spread}
use Rattle.sm_planner.specs.Basis.{Basis, move_at, move_load, no_move, left_cell, is_replica}
use Rattle.sm_planner.specs.Rights.{has_crown_at, has_rights, shares_right, is_forestalled}
use Rattle.sm_planner.specs.Placing.{taken_by, room_left, is_placed, fits, first_left, IsPlacing}
use Rattle.sm_planner.specs.Spread.{region_count, spread_of, has_after, is_too_close, first_too_close}
use Rattle.sm_planner.specs.Drain.{may_leave, may_take, first_stuck, drain_refusal, room_beside, leaving, AreLeaving}
use Rattle.sm_planner.specs.Refusal.{is_open, is_closed, first_not_there, first_held, first_down, end_down, first_refused, in_placed_order, no_room, no_spread, too_many, refusal, IsPlanOf}
use Rattle.sm_plan_code.specs.Plan.{PlanModel}
use Rattle.sm_plan_code.specs.declared.limits.TheConstants.{MOST_MOVES, MOST_SIGNALS}
use Rattle.sm_plan_code.specs.declared.moves.Move.{Move}
use Rattle.sm_planner.specs.Payment.{HandedRoom, from_move, stream_of, signals_of}
use Rattle.sm_planner.specs.Plan.{signal_at, planned}
use Rattle.sm_planner.proofs.law.Signals.{is_handed_on}
use Rattle.sm_planner.proofs.law.Payments.{to, from, from_move_other}
use Rattle.sm_planner.proofs.law.Existing.{are_placed}
use Rattle.sm_planner.proofs.law.Ended.{primary_is, secondary_is}
use Rattle.sm_planner.proofs.law.Placings.{any_there, count_is, move_is, place_known, placed_once}
use Rattle.sm_planner.proofs.law.Admitted.{sum_of_classes}
use Rattle.sm_planner.proofs.law.Owing.{sum_each}

module _ (b : Basis) (v : ℕ) where
  -- the move is that of a shard to its target besides the earlier moves, which are of lower shards
  pub record IsChosen (n : ℕ) (earlier : List Move) (m : Move) : Type 0 where
    pub from : m.from ≡ v
    pub shard : m.shard < n
    pub there : is_absent (b.place.cells m.shard v) ≡ false
    pub takes : may_take b v earlier m.shard m.to ≡ true
    pub lower : All (λ e. e.shard < m.shard) earlier

  lower_all : (n : ℕ) (moves : List Move) → AreLeaving b v n moves → All (λ e. e.shard < n) moves
  lower_all zero moves e = subst (λ ms. All (λ m. m.shard < 0) ms) (sym e) (All-nil (λ m. m.shard < 0))
  lower_all (suc n) moves leave = elim (cases_Bool (is_absent (b.place.cells n v))) [
    | inl none ↦ All-weaker (λ e. e.shard < n) (λ e. e.shard < suc n) (λ e l. omega arith) moves (lower_all n moves (leave.0 none))
    | inr some ↦
        let by = leave.1 some in
        subst (λ ms. All (λ e. e.shard < suc n) ms) (sym by.4) (All-push (λ e. e.shard < suc n) by.0 (leaving v n by.1) (All-weaker (λ e. e.shard < n) (λ e. e.shard < suc n) (λ e l. omega arith) by.0 (lower_all n by.0 by.2)) (omega arith))
  ]

  more_chosen : (n : ℕ) (earlier : List Move) (m : Move) → IsChosen n earlier m → IsChosen (suc n) earlier m
  more_chosen n earlier m is = record { from = is.from; shard = (let l = is.shard in omega arith); there = is.there; takes = is.takes; lower = is.lower }

  pub chosen : (n : ℕ) (moves : List Move) → AreLeaving b v n moves → (i : ℕ) → i < length moves → IsChosen n (take i moves) (move_at moves i)
  chosen zero moves e i l = absurd (let none = ap length e in omega arith)
  chosen (suc n) moves leave i l = elim (cases_Bool (is_absent (b.place.cells n v))) [
    | inl none ↦ more_chosen n (take i moves) (move_at moves i) (chosen n moves (leave.0 none) i l)
    | inr some ↦
        let by = leave.1 some in
        let long = length-append by.0 (leaving v n by.1 ∷ []) in
        let all = ap length by.4 in
        elim (cases_lt i (length by.0)) [
          | inl less ↦ subst (λ ms. IsChosen (suc n) (take i ms) (move_at ms i)) (sym by.4)
              (subst (λ ms. IsChosen (suc n) ms (move_at (by.0 ++ leaving v n by.1 ∷ []) i)) (sym (take-append-le i by.0 (leaving v n by.1 ∷ []) (omega arith)))
              (subst (λ m. IsChosen (suc n) (take i by.0) m) (sym (get_or_append_left by.0 (leaving v n by.1 ∷ []) no_move i less)) (more_chosen n (take i by.0) (move_at by.0 i) (chosen n by.0 by.2 i less))))
          | inr more ↦
              let here : length by.0 ≡ i = omega arith in
              subst (λ ms. IsChosen (suc n) (take i ms) (move_at ms i)) (sym by.4)
              (subst (λ ms. IsChosen (suc n) ms (move_at (by.0 ++ leaving v n by.1 ∷ []) i)) (sym (take_at by.0 (leaving v n by.1 ∷ []) i here))
              (subst (λ m. IsChosen (suc n) by.0 m) (sym (get_or_at by.0 (leaving v n by.1) [] no_move i here)) (record { from = refl; shard = omega arith; there = some; takes = by.3.takes; lower = lower_all n by.0 by.2 })))
        ]
  ]

  -- ---- what a target says

  record IsTaken (earlier : List Move) (s u : ℕ) : Type 0 where
    other : u ≢ v
    up : b.place.down u ≡ false
    absent : is_absent (b.place.cells s u) ≡ true
    right : is_cell Absent (b.pool.cells s u) ≡ true
    room : (sizes_of b.setup).load s ≤ room_beside b earlier u
    spread : spread_of b.setup s ≤ region_count b.setup (λ w. (w == u) || (is_replica (b.place.cells s w) && not (w == v)))

  taken_so : (earlier : List Move) (s u : ℕ) → may_take b v earlier s u ≡ true → IsTaken earlier s u
  taken_so earlier s u e =
      let one = and_parts (not (u == v)) (not (b.place.down u) && (is_absent (b.place.cells s u) && (is_cell Absent (b.pool.cells s u) && (nat_le ((sizes_of b.setup).load s) (room_beside b earlier u) && nat_le (spread_of b.setup s) (region_count b.setup (λ w. (w == u) || (is_replica (b.place.cells s w) && not (w == v)))))))) e in
      let two = and_parts (not (b.place.down u)) (is_absent (b.place.cells s u) && (is_cell Absent (b.pool.cells s u) && (nat_le ((sizes_of b.setup).load s) (room_beside b earlier u) && nat_le (spread_of b.setup s) (region_count b.setup (λ w. (w == u) || (is_replica (b.place.cells s w) && not (w == v))))))) one.1 in
      let three = and_parts (is_absent (b.place.cells s u)) (is_cell Absent (b.pool.cells s u) && (nat_le ((sizes_of b.setup).load s) (room_beside b earlier u) && nat_le (spread_of b.setup s) (region_count b.setup (λ w. (w == u) || (is_replica (b.place.cells s w) && not (w == v)))))) two.1 in
      let four = and_parts (is_cell Absent (b.pool.cells s u)) (nat_le ((sizes_of b.setup).load s) (room_beside b earlier u) && nat_le (spread_of b.setup s) (region_count b.setup (λ w. (w == u) || (is_replica (b.place.cells s w) && not (w == v))))) three.1 in
      let five = and_parts (nat_le ((sizes_of b.setup).load s) (room_beside b earlier u)) (nat_le (spread_of b.setup s) (region_count b.setup (λ w. (w == u) || (is_replica (b.place.cells s w) && not (w == v))))) four.1 in
      record {
        other = λ same. both_ways (u == v) (not-true (u == v) one.0) (eq-eqb u v same);
        up = not-true (b.place.down u) two.0;
        absent = three.0;
        right = four.0;
        room = leb-true ((sizes_of b.setup).load s) (room_beside b earlier u) five.0;
        spread = leb-true (spread_of b.setup s) (region_count b.setup (λ w. (w == u) || (is_replica (b.place.cells s w) && not (w == v)))) five.1;
      }

  -- all moves together take no more room than the pool has
  pub room_for_all : (n : ℕ) (moves : List Move) → AreLeaving b v n moves → (w : ℕ) → sum_by (taken_by b.setup w) moves ≤ b.pool.room w
  room_for_all zero moves e w = let is : sum_by (taken_by b.setup w) moves ≡ 0 = ap (sum_by (taken_by b.setup w)) e in omega arith
  room_for_all (suc n) moves leave w = elim (cases_Bool (is_absent (b.place.cells n v))) [
    | inl none ↦ room_for_all n moves (leave.0 none) w
    | inr some ↦
        let by = leave.1 some in
        let low = room_for_all n by.0 by.2 w in
        let is = ap (sum_by (taken_by b.setup w)) by.4 ∙ sum_by_push (taken_by b.setup w) by.0 (leaving v n by.1) in
        elim (cases_eq by.1 w) [
          | inl here ↦
              let one : taken_by b.setup w (leaving v n by.1) ≡ (sizes_of b.setup).load n = rw (eq-eqb by.1 w here) refl in
              let room : (sizes_of b.setup).load n ≤ room_beside b by.0 w = subst (λ u. (sizes_of b.setup).load n ≤ room_beside b by.0 u) here (taken_so by.0 n by.1 by.3.takes).room in
              omega arith
          | inr other ↦ (let none : taken_by b.setup w (leaving v n by.1) ≡ 0 = rw (ne_eqb by.1 w other) refl in omega arith)
        ]
  ]

-- ---- no refusal of one move by itself

find_nothing : {X : Type 0} (test : X → Bool) (xs : List X) → All (λ x. test x ≡ false) xs → find test xs ≡ None
find_nothing test [] a = refl
find_nothing test (x ∷ xs) a = rw (All-head (λ x. test x ≡ false) x xs a) (find_nothing test xs (All-tail (λ x. test x ≡ false) x xs a))

any_nothing : {X : Type 0} (test : X → Bool) (xs : List X) → All (λ x. test x ≡ false) xs → list_any test xs ≡ false
any_nothing test [] a = refl
any_nothing test (x ∷ xs) a = rw (All-head (λ x. test x ≡ false) x xs a) (any_nothing test xs (All-tail (λ x. test x ≡ false) x xs a))

module _ (b : Basis) (v : ℕ) (n : ℕ) (moves : List Move) (bound : n ≤ (sizes_of b.setup).shards) (leave : AreLeaving b v n moves) (free : drain_refusal b v ≡ None) where
  both : (first_stuck b v ≡ None) × (b.place.down v ≡ false)
  both = go (first_stuck b v) (b.place.down v) refl refl free
    where
      go : (o : Option ℕ) (t : Bool) → first_stuck b v ≡ o → b.place.down v ≡ t → option_or (option_map (λ s. Held s v) o) (cond t (Some (ServerDown v)) None) ≡ None → (first_stuck b v ≡ None) × (b.place.down v ≡ false)
      go None false e f w = (e, f)
      go None true e f w = absurd cc
      go (Some s) t e f w = absurd cc

  may : (s : ℕ) → s < (sizes_of b.setup).shards → may_leave b v s ≡ true
  may s l = not-false (may_leave b v s) (first_none (sizes_of b.setup).shards (λ t. not (may_leave b v t)) both.0 s l)

  picked : (i : ℕ) → i < length moves → IsChosen b v n (take i moves) (move_at moves i)
  picked i l = chosen b v n moves leave i l

  -- what the move's shard has at the server may leave it
  leaves : (i : ℕ) → i < length moves → ((is_primary (left_cell b.place (move_at moves i)) && has_crown_at b (move_at moves i).shard (move_at moves i).from) || (is_secondary (left_cell b.place (move_at moves i)) && is_cell Secondary (b.pool.cells (move_at moves i).shard (move_at moves i).from))) ≡ true
  leaves i l =
      let m : Move = move_at moves i in
      let is = picked i l in
      let s : ℕ = m.shard in
      let low = is.shard in
      let either = may s (omega arith) in
      let rest : ((is_primary (b.place.cells s v) && has_crown_at b s v) || (is_secondary (b.place.cells s v) && is_cell Secondary (b.pool.cells s v))) ≡ true = elim (or_cases (is_absent (b.place.cells s v)) ((is_primary (b.place.cells s v) && has_crown_at b s v) || (is_secondary (b.place.cells s v) && is_cell Secondary (b.pool.cells s v))) either) [
        | inl none ↦ absurd (both_ways (is_absent (b.place.cells s v)) is.there none)
        | inr some ↦ some
      ] in
      subst (λ u. ((is_primary (b.place.cells s u) && has_crown_at b s u) || (is_secondary (b.place.cells s u) && is_cell Secondary (b.pool.cells s u))) ≡ true) (sym is.from) rest

  replica_there : (i : ℕ) → i < length moves → is_replica (left_cell b.place (move_at moves i)) ≡ true
  replica_there i l =
      let m : Move = move_at moves i in
      elim (or_cases (is_primary (left_cell b.place m) && has_crown_at b m.shard m.from) (is_secondary (left_cell b.place m) && is_cell Secondary (b.pool.cells m.shard m.from)) (leaves i l)) [
        | inl leads ↦ or_left (is_primary (left_cell b.place m)) (is_secondary (left_cell b.place m)) (and_parts (is_primary (left_cell b.place m)) (has_crown_at b m.shard m.from) leads).0
        | inr follows ↦ or_right (is_primary (left_cell b.place m)) (is_secondary (left_cell b.place m)) (and_parts (is_secondary (left_cell b.place m)) (is_cell Secondary (b.pool.cells m.shard m.from)) follows).0
      ]

  rights_there : (i : ℕ) → i < length moves → has_rights b (move_at moves i) ≡ true
  rights_there i l =
      let m : Move = move_at moves i in
      let right = (taken_so b v (take i moves) m.shard m.to (picked i l).takes).right in
      elim (or_cases (is_primary (left_cell b.place m) && has_crown_at b m.shard m.from) (is_secondary (left_cell b.place m) && is_cell Secondary (b.pool.cells m.shard m.from)) (leaves i l)) [
        | inl leads ↦
            let parts = and_parts (is_primary (left_cell b.place m)) (has_crown_at b m.shard m.from) leads in
            let second : is_secondary (left_cell b.place m) ≡ false = ap is_secondary (primary_is (left_cell b.place m) parts.0) in
            and_from (is_cell Absent (b.pool.cells m.shard m.to) && (not (is_secondary (left_cell b.place m)) || is_cell Secondary (b.pool.cells m.shard m.from))) (not (is_primary (left_cell b.place m)) || has_crown_at b m.shard m.from)
            (and_from (is_cell Absent (b.pool.cells m.shard m.to)) (not (is_secondary (left_cell b.place m)) || is_cell Secondary (b.pool.cells m.shard m.from)) right (or_left (not (is_secondary (left_cell b.place m))) (is_cell Secondary (b.pool.cells m.shard m.from)) (not_from_false (is_secondary (left_cell b.place m)) second)))
            (or_right (not (is_primary (left_cell b.place m))) (has_crown_at b m.shard m.from) parts.1)
        | inr follows ↦
            let parts = and_parts (is_secondary (left_cell b.place m)) (is_cell Secondary (b.pool.cells m.shard m.from)) follows in
            let first : is_primary (left_cell b.place m) ≡ false = ap is_primary (secondary_is (left_cell b.place m) parts.0) in
            and_from (is_cell Absent (b.pool.cells m.shard m.to) && (not (is_secondary (left_cell b.place m)) || is_cell Secondary (b.pool.cells m.shard m.from))) (not (is_primary (left_cell b.place m)) || has_crown_at b m.shard m.from)
            (and_from (is_cell Absent (b.pool.cells m.shard m.to)) (not (is_secondary (left_cell b.place m)) || is_cell Secondary (b.pool.cells m.shard m.from)) right (or_right (not (is_secondary (left_cell b.place m))) (is_cell Secondary (b.pool.cells m.shard m.from)) parts.1))
            (or_left (not (is_primary (left_cell b.place m))) (has_crown_at b m.shard m.from) (not_from_false (is_primary (left_cell b.place m)) first))
      ]

  open_there : (i : ℕ) → i < length moves → is_closed b moves i ≡ false
  open_there i l =
      let m : Move = move_at moves i in
      let is = picked i l in
      let absent = (taken_so b v (take i moves) m.shard m.to is.takes).absent in
      let never : is_forestalled b.place (take i moves) m ≡ false = any_nothing (shares_right b.place m) (take i moves) (All-weaker (λ e. e.shard < m.shard) (λ e. shares_right b.place m e ≡ false) (λ e less. rw (ne_eqb e.shard m.shard (λ same. absurd (omega arith))) refl) (take i moves) is.lower) in
      not_from_true (is_open b (take i moves) m) (and_from (is_absent (b.place.cells m.shard m.to) && has_rights b m) (not (is_forestalled b.place (take i moves) m))
      (and_from (is_absent (b.place.cells m.shard m.to)) (has_rights b m) absent (rights_there i l))
      (not_from_false (is_forestalled b.place (take i moves) m) never))

  pub not_one_refused : first_refused b moves ≡ None
  not_one_refused = neither_of (first_not_there b.place moves) (option_or (first_held b moves) (first_down b.place moves))
      (ap (option_map (λ m. NotThere m.shard m.from)) (find_nothing (λ m. not (is_replica (left_cell b.place m))) moves (All-from_get_or (λ m. not (is_replica (left_cell b.place m)) ≡ false) moves no_move (λ i l. not_from_true (is_replica (left_cell b.place (move_at moves i))) (replica_there i l)))))
      (neither_of (first_held b moves) (first_down b.place moves)
      (ap (option_map (λ i. Held (move_at moves i).shard (move_at moves i).to)) (first_none_from (length moves) (is_closed b moves) open_there))
      (ap (option_map (λ m. ServerDown (end_down b.place m))) (find_nothing (λ m. b.place.down m.from || b.place.down m.to) moves (All-from_get_or (λ m. (b.place.down m.from || b.place.down m.to) ≡ false) moves no_move (λ i l.
      or_from (b.place.down (move_at moves i).from) (b.place.down (move_at moves i).to) (ap b.place.down (picked i l).from ∙ both.1) (taken_so b v (take i moves) (move_at moves i).shard (move_at moves i).to (picked i l).takes).up)))))

-- ---- no refusal of all together

-- a sum over different numbers below a bound, and another one, is no more than the sum over all
sum_of_some : (count : ℕ) (f : ℕ → ℕ) (xs : List ℕ) (i : ℕ) → i < count → ((k : ℕ) → k < length xs → get_or xs k 0 < count) → ((j k : ℕ) → j < length xs → k < length xs → get_or xs j 0 ≡ get_or xs k 0 → j ≡ k) →
    ((k : ℕ) → k < length xs → get_or xs k 0 ≢ i) → sum_by f xs + f i ≤ sum_below count f
sum_of_some count f xs i known low once never =
    let all = sum_by-below f xs 0 in
    let classes = sum_of_classes (λ k. get_or xs k 0) (λ k. f (get_or xs k 0)) count (length xs) low in
    let each = sum_each count (λ j. sum_below (length xs) (λ k. cond (get_or xs k 0 == j) (f (get_or xs k 0)) 0)) (λ j. cond (j == i) 0 (f j)) (λ j l. one j) in
    let out = sum_apart count (λ j. cond (j == i) 0 (f j)) f i (f i) 0 known (λ j other. rw (ne_eqb j i other) refl) (let none : cond (i == i) 0 (f i) ≡ 0 = rw (eq-eqb i i refl) refl in omega arith) in
    omega arith
  where
    small : (t : Bool) (x y : ℕ) → (t ≡ true → x ≤ y) → cond t x 0 ≤ y
    small true x y h = h refl
    small false x y h = omega arith

    passes : (t : Bool) (x : ℕ) → 0 < cond t x 0 → t ≡ true
    passes true x l = refl
    passes false x l = absurd (omega arith)

    inner : (j : ℕ) → sum_below (length xs) (λ k. cond (get_or xs k 0 == j) (f (get_or xs k 0)) 0) ≤ f j
    inner j = sum_once (length xs) (f j) (λ k. cond (get_or xs k 0 == j) (f (get_or xs k 0)) 0)
        (λ k l. small (get_or xs k 0 == j) (f (get_or xs k 0)) (f j) (λ e. (let same : f (get_or xs k 0) ≡ f j = ap f (eqb-true (get_or xs k 0) j e) in omega arith)))
        (λ k m l n at there. once k m l n (eqb-true (get_or xs k 0) j (passes (get_or xs k 0 == j) (f (get_or xs k 0)) at) ∙ sym (eqb-true (get_or xs m 0) j (passes (get_or xs m 0 == j) (f (get_or xs m 0)) there))))

    nothing_at : (m : ℕ) → m ≤ length xs → sum_below m (λ k. cond (get_or xs k 0 == i) (f (get_or xs k 0)) 0) ≡ 0
    nothing_at zero l = refl
    nothing_at (suc m) l =
        let before = nothing_at m (omega arith) in
        let none : cond (get_or xs m 0 == i) (f (get_or xs m 0)) 0 ≡ 0 = rw (ne_eqb (get_or xs m 0) i (never m (omega arith))) refl in
        omega arith

    one : (j : ℕ) → sum_below (length xs) (λ k. cond (get_or xs k 0 == j) (f (get_or xs k 0)) 0) ≤ cond (j == i) 0 (f j)
    one j = elim (cases_eq j i) [
      | inl same ↦
          let none : sum_below (length xs) (λ k. cond (get_or xs k 0 == j) (f (get_or xs k 0)) 0) ≡ 0 = ap (λ t. sum_below (length xs) (λ k. cond (get_or xs k 0 == t) (f (get_or xs k 0)) 0)) same ∙ nothing_at (length xs) (omega arith) in
          omega arith
      | inr other ↦
          let most = inner j in
          let is : cond (j == i) 0 (f j) ≡ f j = rw (ne_eqb j i other) refl in
          omega arith
    ]

module _ (b : Basis) (v : ℕ) (n : ℕ) (moves : List Move) (leave : AreLeaving b v n moves) (placed : List ℕ) (is : IsPlacing b moves placed) where
  fit_all : (i : ℕ) → i < length moves → not (is_placed placed i) ≡ false
  fit_all i l = false_from_ne_true (not (is_placed placed i)) (λ unplaced.
      let m : Move = move_at moves i in
      let u : ℕ = m.to in
      let f : ℕ → ℕ = λ j. taken_by b.setup u (move_at moves j) in
      let some = sum_of_some (length moves) f placed i l (place_known b moves placed is.greedy) (placed_once b moves placed is.greedy)
      (λ k less same. both_ways (is_placed placed i) (not-true (is_placed placed i) unplaced) (any_there i placed k less same)) in
      let total = sum_by-below (taken_by b.setup u) moves no_move in
      let most = room_for_all b v n moves leave u in
      let own : f i ≡ move_load b.setup m = rw (eq-eqb u u refl) refl in
      let fails = first_none (length moves) (fits b moves placed) is.complete i l in
      let room : move_load b.setup m ≤ room_left b moves placed u = omega arith in
      both_ways (fits b moves placed i) fails (and_from (not (is_placed placed i)) (nat_le (move_load b.setup m) (room_left b moves placed u)) unplaced (le-leb (move_load b.setup m) (room_left b moves placed u) room)))

  pub none_left_over : first_left moves placed ≡ None
  none_left_over = first_none_from (length moves) (λ i. not (is_placed placed i)) fit_all

-- a test that is passed by some element of a list is passed by one at a place of it
pub any_at : {X : Type 0} (test : X → Bool) (xs : List X) (d : X) → list_any test xs ≡ true → (k : ℕ) × (k < length xs) × (test (get_or xs k d) ≡ true)
any_at test [] d e = absurd cc
any_at test (x ∷ xs) d e = elim (cases_Bool (test x)) [
  | inl passes ↦ (0, omega arith, passes)
  | inr fails ↦ (let more = any_at test xs d (rw fails at e) in let l = more.1 in (suc more.0, omega arith, more.2))
]

module _ (b : Basis) (v : ℕ) (n : ℕ) (moves : List Move) (leave : AreLeaving b v n moves) where
  chosen_at : (i : ℕ) → i < length moves → IsChosen b v n (take i moves) (move_at moves i)
  chosen_at i l = chosen b v n moves leave i l

  -- no two moves are of one shard
  shards_rise : (j i : ℕ) → j < i → i < length moves → (move_at moves j).shard < (move_at moves i).shard
  shards_rise j i less l =
      let long = length-take-le i moves (omega arith) in
      let low = All-get_or (λ (e : Move). e.shard < (move_at moves i).shard) (take i moves) j no_move (omega arith) (chosen_at i l).lower in
      subst (λ (e : Move). e.shard < (move_at moves i).shard) (get_or-take i moves j no_move less) low

  one_of_shard : (i j : ℕ) → i < length moves → j < length moves → (move_at moves i).shard ≡ (move_at moves j).shard → i ≡ j
  one_of_shard i j l m same = elim (cases_lt i j) [
    | inl less ↦ absurd (let rise = shards_rise i j less m in omega arith)
    | inr more ↦ elim (cases_eq i j) [ inl e ↦ e | inr apart ↦ absurd (let rise = shards_rise j i (omega arith) l in omega arith) ]
  ]

  module _ (i : ℕ) (l : i < length moves) where
    abbrev s : ℕ
    s = (move_at moves i).shard

    abbrev u : ℕ
    u = (move_at moves i).to

    goes_there : (w : ℕ) → list_any (λ m. (m.shard == s) && (m.to == w)) moves ≡ (w == u)
    goes_there w = elim (cases_eq w u) [
      | inl here ↦ list_any_at (λ m. (m.shard == s) && (m.to == w)) moves i no_move l (and_from (s == s) (u == w) (eq-eqb s s refl) (eq-eqb u w (sym here))) ∙ sym (eq-eqb w u here)
      | inr other ↦ any_nothing (λ m. (m.shard == s) && (m.to == w)) moves (All-from_get_or (λ m. ((m.shard == s) && (m.to == w)) ≡ false) moves no_move (λ j k. false_from_ne_true _ (λ e.
          let parts = and_parts ((move_at moves j).shard == s) ((move_at moves j).to == w) e in
          let same = one_of_shard j i k l (eqb-true (move_at moves j).shard s parts.0) in
          other (sym (eqb-true (move_at moves j).to w parts.1) ∙ ap (λ t. (move_at moves t).to) same)))) ∙ sym (ne_eqb w u other)
    ]

    comes_there : (w : ℕ) → list_any (λ m. (m.shard == s) && (m.from == w)) moves ≡ (w == v)
    comes_there w = elim (cases_eq w v) [
      | inl here ↦ list_any_at (λ m. (m.shard == s) && (m.from == w)) moves i no_move l (and_from (s == s) ((move_at moves i).from == w) (eq-eqb s s refl) (eq-eqb (move_at moves i).from w ((chosen_at i l).from ∙ sym here))) ∙ sym (eq-eqb w v here)
      | inr other ↦ any_nothing (λ m. (m.shard == s) && (m.from == w)) moves (All-from_get_or (λ m. ((m.shard == s) && (m.from == w)) ≡ false) moves no_move (λ j k. and_right ((move_at moves j).shard == s) ((move_at moves j).from == w) (ne_eqb (move_at moves j).from w (λ e. other (sym e ∙ (chosen_at j k).from))))) ∙ sym (ne_eqb w v other)
    ]

    stands_after : has_after b.place moves s ≡ (λ w. (w == u) || (is_replica (b.place.cells s w) && not (w == v)))
    stands_after = fun_ext (λ w. ap (λ t. t || (is_replica (b.place.cells s w) && not (list_any (λ m. (m.shard == s) && (m.from == w)) moves))) (goes_there w) ∙ ap (λ t. (w == u) || (is_replica (b.place.cells s w) && not t)) (comes_there w))

    wide_enough : spread_of b.setup s ≤ region_count b.setup (has_after b.place moves s)
    wide_enough =
        let wide = (taken_so b v (take i moves) s u (chosen_at i l).takes).spread in
        let same = ap (region_count b.setup) stands_after in
        omega arith

  not_close : (t : ℕ) → t < (sizes_of b.setup).shards → is_too_close b.setup b.place moves t ≡ false
  not_close t known = elim (cases_Bool (list_any (λ m. m.shard == t) moves)) [
    | inr none ↦ and_left (list_any (λ m. m.shard == t) moves) (nat_lt (region_count b.setup (has_after b.place moves t)) (spread_of b.setup t)) none
    | inl some ↦
        let at = any_at (λ m. m.shard == t) moves no_move some in
        let same : (move_at moves at.0).shard ≡ t = eqb-true (move_at moves at.0).shard t at.2 in
        let wide : spread_of b.setup t ≤ region_count b.setup (has_after b.place moves t) = subst (λ x. spread_of b.setup x ≤ region_count b.setup (has_after b.place moves x)) same (wide_enough at.0 at.1) in
        and_right (list_any (λ m. m.shard == t) moves) (nat_lt (region_count b.setup (has_after b.place moves t)) (spread_of b.setup t)) (le-ltb (region_count b.setup (has_after b.place moves t)) (spread_of b.setup t) wide)
  ]

  pub none_close : first_too_close b moves ≡ None
  none_close = first_none_from (sizes_of b.setup).shards (is_too_close b.setup b.place moves) not_close

few_leaving : (b : Basis) (v n : ℕ) (moves : List Move) → AreLeaving b v n moves → length moves ≤ n
few_leaving b v zero moves e = let none = ap length e in omega arith
few_leaving b v (suc n) moves leave = elim (cases_Bool (is_absent (b.place.cells n v))) [
  | inl none ↦ (let low = few_leaving b v n moves (leave.0 none) in omega arith)
  | inr some ↦
      let by = leave.1 some in
      let low = few_leaving b v n by.0 by.2 in
      let long = ap length by.4 ∙ length-append by.0 (leaving v n by.1 ∷ []) in
      omega arith
]

module _ (b : Basis) (v : ℕ) (moves : List Move) (most : (sizes_of b.setup).shards ≤ MOST_MOVES) (leave : AreLeaving b v (sizes_of b.setup).shards moves) (free : drain_refusal b v ≡ None) (placed : List ℕ) (is : IsPlacing b moves placed) where
  abbrev order : List Move
  order = in_placed_order moves placed

  chosen_in : (k : ℕ) → k < length order → (from b order k ≡ v) × (to b order k ≢ v)
  chosen_in k l =
      let count = count_is b moves placed is.greedy in
      let at = move_is b moves placed is.greedy k (omega arith) in
      let one = chosen b v (sizes_of b.setup).shards moves leave (get_or placed k 0) (place_known b moves placed is.greedy k (omega arith)) in (
        ap (λ (m : Move). m.from) at ∙ one.from,
        λ same. (taken_so b v (take (get_or placed k 0) moves) (move_at moves (get_or placed k 0)).shard (move_at moves (get_or placed k 0)).to one.takes).other (ap (λ (m : Move). m.to) (sym at) ∙ same),
      )

  no_signals : length (signals_of b order) ≡ 0
  no_signals = elim (cases_eq (length (signals_of b order)) 0) [
    | inl none ↦ none
    | inr some ↦
        let on = is_handed_on b order 0 (omega arith) in
        let h : HandedRoom = signal_at (signals_of b order) 0 in
        let source = on.source in
        let payer = on.payer in
        let paid = ltb-true 0 (from_move b order h.payer h.source) (and_parts (nat_lt 0 (from_move b order h.payer h.source)) (not (stream_of h.payer == stream_of h.source)) on.handed).0 in
        let none = from_move_other b order h.payer h.source (λ e. (chosen_in h.payer on.payer).1 (sym e ∙ (chosen_in h.source (omega arith)).0)) in
        absurd (omega arith)
  ]

  pub not_refused : refusal b moves placed ≡ None
  not_refused =
      neither_of (first_refused b moves) (option_or (no_room moves placed) (option_or (no_spread b moves) (too_many b moves placed)))
      (not_one_refused b v (sizes_of b.setup).shards moves (omega arith) leave free)
      (neither_of (no_room moves placed) (option_or (no_spread b moves) (too_many b moves placed))
      (ap (option_map (λ i. NoRoom (move_at moves i).to)) (none_left_over b v (sizes_of b.setup).shards moves leave placed is))
      (neither_of (no_spread b moves) (too_many b moves placed)
      (ap (option_map (λ s. Spread s)) (none_close b v (sizes_of b.setup).shards moves leave))
      (let few = few_leaving b v (sizes_of b.setup).shards moves leave in
      let none = no_signals in
      rw (le-ltb MOST_MOVES (length moves) (omega arith), le-ltb MOST_SIGNALS (length (signals_of b order)) (omega arith)) refl)))

-- a server that may be emptied, and whose replicas have targets, has a plan for emptying it, where there are no more shards than a plan has moves
pub few_have_plan : (b : Basis) (v : ℕ) (moves : List Move) → (sizes_of b.setup).shards ≤ MOST_MOVES → drain_refusal b v ≡ None → AreLeaving b v (sizes_of b.setup).shards moves → (plan : PlanModel) × IsPlanOf b moves plan
few_have_plan b v moves most free leave =
    let all = are_placed b moves in
    (planned b (in_placed_order moves all.0), (all.0, all.1, not_refused b v moves most leave free all.0 all.1, refl))

-- so it is in each configuration
pub drain_has_plan : (b : Basis) (v : ℕ) (moves : List Move) → IsSetup b.setup → drain_refusal b v ≡ None → AreLeaving b v (sizes_of b.setup).shards moves → (plan : PlanModel) × IsPlanOf b moves plan
drain_has_plan b v moves setup = few_have_plan b v moves (let most = setup.shards in omega arith)
