-- The account of placed moves, one move further.
use Rattle.std.proofs.Common.{◌≡◌, ◌<◌, ◌≤◌, ◌+◌, ◌-◌, ◌*◌, ◌^◌, ◌∙◌, inl, inr, ℕ, Bool, true, false, cond, eqb, leb, subst, Option, Some, List, [], ◌∷◌, ◌++◌, length, take, get_or, set, replicate, map, sym, ap, refl, arith}
use Rattle.std.specs.Prelude.{sum_by, count_by, not, All}
use Rattle.std.specs.List.{range_with_len}
use Rattle.std.proofs.Math.Bool.{or-false}
use Rattle.std.proofs.lemmas.Bool.{cases_Bool, cases_eq, cases_lt, eq-eqb, ne_eqb, and_parts, leb-true, or_right, not-true}
use Rattle.std.proofs.lemmas.List.{get_or-set_same, get_or-set_other, length-set, take-append-le, take_at, get_or_append_left, get_or_push, length_push, length-replicate, get_or-replicate, get_or_past}
use Rattle.std.proofs.lemmas.List.Elements.{All-nil, All-push}
use Rattle.std.proofs.lemmas.List.Folds.{list_any-append, sum_by-replicate}
use Rattle.std.proofs.lemmas.List.FromFn.{length-map-range_with_len, get_or-map-range_with_len}
use Rattle.std.proofs.lemmas.List.Sums.{sum_by_push, sum_by-set}
use Rattle.sm_placement.specs.Opening.{first_below}
use Rattle.sm_placement.specs.Setup.{Setup}
use Rattle.sm_placement.proofs.Searches.{first_some, first_same}
use Rattle.sm_plan_code.specs.declared.moves.Move.{Move}
use Rattle.sm_planner.specs.Basis.{Basis, IsMoveOf, no_move, move_at, move_load}
use Rattle.sm_planner.specs.Placing.{is_placed, room_left, taken_by, freed_by, first_fit, first_left, fits}
use Rattle.sm_planner.specs.Accounts.{is_left, is_next, room_after}
use Rattle.sm_placement.specs.declared.limits.TheConstants.{MOST_LOAD}

-- what is placed goes in order
abbrev pub IsGreedy : Basis → List Move → List ℕ → Type 0
IsGreedy b moves placed = (k : ℕ) → k < length placed → first_fit b moves (take k placed) ≡ Some (get_or placed k 0)

-- the marks and the room are those of the placed moves
pub record IsKept (b : Basis) (moves : List Move) (placed : List ℕ) (marks : List Bool) (room : List ℕ) : Type 0 where
  pub known : All (λ i. i < length moves) placed
  pub greedy : IsGreedy b moves placed
  pub long : length marks ≡ length moves
  pub total : length placed + count_by not marks ≡ length moves
  pub wide : length room ≡ length b.setup.servers
  pub marked : (i : ℕ) → get_or marks i false ≡ is_placed placed i
  pub left : (v : ℕ) → v < length room → get_or room v 0 ≡ room_left b moves placed v
  pub paid : (v : ℕ) → v < length room → sum_by (λ i. taken_by b.setup v (move_at moves i)) placed ≤ b.pool.room v + sum_by (λ i. freed_by b.setup v (move_at moves i)) placed
  pub bounded : (v : ℕ) → get_or room v 0 ≤ 2 ^ 64 + length placed * MOST_LOAD

-- ---- one entry changed

-- once one entry of a list is written, it stands at its place, and at each other place what stood there
pub at_set : {A : Type 0} (xs : List A) (i : ℕ) (y : A) (v : ℕ) (d : A) → i < length xs → get_or (set xs i y) v d ≡ cond (eqb i v) y (get_or xs v d)
at_set xs i y v d l = elim (cases_eq v i) [
  | inl e ↦ rw (e, eq-eqb i i refl, get_or-set_same xs i y d l) refl
  | inr e ↦ rw (ne_eqb i v (λ q. e (sym q)), get_or-set_other xs i v y d e) refl
]

-- ---- the beginning

pub kept_none : (b : Basis) (moves : List Move) → All (λ x. x < 2 ^ 64) (map b.pool.room (range_with_len 0 (length b.setup.servers))) →
    IsKept b moves [] (replicate (length moves) false) (map b.pool.room (range_with_len 0 (length b.setup.servers)))
kept_none b moves small = record {
  known = All-nil (λ i. i < length moves);
  greedy = λ k l. absurd (omega arith);
  long = length-replicate (length moves) false;
  total = (let e : count_by not (replicate (length moves) false) ≡ length moves * 1 = sum_by-replicate (λ t. cond (not t) 1 0) (length moves) false in omega arith);
  wide = length-map-range_with_len b.pool.room 0 (length b.setup.servers);
  marked = none;
  left = λ v l. room v l ∙ omega arith;
  paid = λ v l. omega arith;
  bounded = λ v. elim (cases_lt v (length (map b.pool.room (range_with_len 0 (length b.setup.servers))))) [
    | inl l ↦ let s : get_or (map b.pool.room (range_with_len 0 (length b.setup.servers))) v 0 < 2 ^ 64 = small v 0 l in omega arith
    | inr l ↦ let e : get_or (map b.pool.room (range_with_len 0 (length b.setup.servers))) v 0 ≡ 0 = get_or_past (map b.pool.room (range_with_len 0 (length b.setup.servers))) v 0 l in omega arith
  ];
}
  where
    none : (i : ℕ) → get_or (replicate (length moves) false) i false ≡ false
    none i = elim (cases_lt i (length moves)) [
      | inl l ↦ get_or-replicate (length moves) i false false l
      | inr l ↦ get_or_past (replicate (length moves) false) i false (let e = length-replicate (length moves) false in omega arith)
    ]

    room : (v : ℕ) → v < length (map b.pool.room (range_with_len 0 (length b.setup.servers))) → get_or (map b.pool.room (range_with_len 0 (length b.setup.servers))) v 0 ≡ b.pool.room v
    room v l = get_or-map-range_with_len b.pool.room 0 (length b.setup.servers) v v 0 (let e = length-map-range_with_len b.pool.room 0 (length b.setup.servers) in omega arith) (omega arith)

-- each mark that is set lessens the number of those that are not
pub fewer : (marks : List Bool) (i : ℕ) → i < length marks → get_or marks i false ≡ false → count_by not (set marks i true) + 1 ≡ count_by not marks
fewer marks i l e = let s : count_by not (set marks i true) + cond {A = ℕ} (not (get_or marks i false)) 1 0 ≡ count_by not marks + 0 = sum_by-set (λ t. cond (not t) 1 0) marks i true false l in let t : cond {A = ℕ} (not (get_or marks i false)) 1 0 ≡ 1 = rw e refl in omega arith

-- ---- one more move

-- the move at a place is of the configuration, and its load is within what loads are
pub record IsWithin (b : Basis) (moves : List Move) (room : List ℕ) (i : ℕ) : Type 0 where
  pub to : (move_at moves i).to < length room
  pub from : (move_at moves i).from < length room
  pub load : move_load b.setup (move_at moves i) ≤ MOST_LOAD

-- the room of a server once a move takes some of it or frees some
pub after_at : (setup : Setup) (m : Move) (room : List ℕ) (v : ℕ) → m.to < length room → m.from < length room →
    get_or (room_after setup m room) v 0 ≡ get_or room v 0 - taken_by setup v m + freed_by setup v m
after_at setup m room v to from =
    let load = move_load setup m in
    let paid = set room m.to (get_or room m.to 0 - load) in
    let long : length paid ≡ length room = length-set room m.to (get_or room m.to 0 - load) in
    let e : get_or (room_after setup m room) v 0 ≡ cond (eqb m.from v) (get_or paid m.from 0 + load) (get_or paid v 0) = at_set paid m.from (get_or paid m.from 0 + load) v 0 (omega arith) in
    let f : get_or paid v 0 ≡ cond (eqb m.to v) (get_or room m.to 0 - load) (get_or room v 0) = at_set room m.to (get_or room m.to 0 - load) v 0 to in
    e ∙ elim (cases_eq m.from v) [
      | inl q ↦ rw (eq-eqb m.from v q) (ap (λ x. get_or paid x 0 + load) q ∙ ap (λ x. x + load) (f ∙ taken v))
      | inr q ↦ rw (ne_eqb m.from v q) (f ∙ taken v ∙ omega arith)
    ]
  where
    taken : (v : ℕ) → cond (eqb m.to v) (get_or room m.to 0 - move_load setup m) (get_or room v 0) ≡ get_or room v 0 - taken_by setup v m
    taken v = elim (cases_eq m.to v) [
      | inl q ↦ rw (eq-eqb m.to v q) (ap (λ x. get_or room x 0 - move_load setup m) q)
      | inr q ↦ rw (ne_eqb m.to v q) (omega arith)
    ]

-- a move takes no more room of a server than its load
pub taken_small : (setup : Setup) (v : ℕ) (m : Move) → taken_by setup v m ≤ move_load setup m
taken_small setup v m = elim (cases_Bool (eqb m.to v)) [ inl e ↦ rw e (omega arith) | inr e ↦ rw e (omega arith) ]

-- a move frees no more room of a server than its load
pub freed_small : (setup : Setup) (v : ℕ) (m : Move) → freed_by setup v m ≤ move_load setup m
freed_small setup v m = elim (cases_Bool (eqb m.from v)) [ inl e ↦ rw e (omega arith) | inr e ↦ rw e (omega arith) ]

-- the load of a move that fits is within the room where it goes
pub fits_in : (b : Basis) (moves : List Move) (placed : List ℕ) (i : ℕ) → first_fit b moves placed ≡ Some i →
    (i < length moves) × (is_placed placed i ≡ false) × (move_load b.setup (move_at moves i) ≤ room_left b moves placed (move_at moves i).to)
fits_in b moves placed i e =
    let found = first_some (length moves) (fits b moves placed) i e in
    let both = and_parts (not (is_placed placed i)) (leb (move_load b.setup (move_at moves i)) (room_left b moves placed (move_at moves i).to)) found.1 in
    (found.0, not-true (is_placed placed i) both.0, leb-true (move_load b.setup (move_at moves i)) (room_left b moves placed (move_at moves i).to) both.1)

pub kept_more : (b : Basis) (moves : List Move) (placed : List ℕ) (marks : List Bool) (room : List ℕ) (i : ℕ) →
    IsKept b moves placed marks room → first_fit b moves placed ≡ Some i → IsWithin b moves room i →
    IsKept b moves (placed ++ i ∷ []) (set marks i true) (room_after b.setup (move_at moves i) room)
kept_more b moves placed marks room i kept first within = record {
  known = All-push (λ i. i < length moves) placed i kept.known fit.0;
  greedy = order;
  long = length-set marks i true ∙ kept.long;
  total = (let e = fewer marks i (let e = kept.long in let l = fit.0 in omega arith) (kept.marked i ∙ fit.1) in let p = length_push placed i in let t = kept.total in omega arith);
  wide = wide ∙ kept.wide;
  marked = λ j. at_set marks i true j false (let e = kept.long in let l = fit.0 in omega arith) ∙ rw (kept.marked j) (flagged j);
  left = λ v l. let s = sums v in let p = kept.paid v (omega (arith, wide)) in let t : (get_or room v 0 ≡ room_left b moves placed v) × (taken_by b.setup v (move_at moves i) ≤ room_left b moves placed v) = step v (omega (arith, wide)) in let q = t.0 in let r = t.1 in after_at b.setup m room v within.to within.from ∙ omega arith;
  paid = λ v l. let s = sums v in let p = kept.paid v (omega (arith, wide)) in let t : (get_or room v 0 ≡ room_left b moves placed v) × (taken_by b.setup v (move_at moves i) ≤ room_left b moves placed v) = step v (omega (arith, wide)) in let q = t.1 in omega arith;
  bounded = λ v.
      let e = after_at b.setup m room v within.to within.from in
      let f = freed_small b.setup v m in
      let k = kept.bounded v in
      let l = length_push placed i in
      let w = within.load in
      omega arith;
}
  where
    m : Move
    m = move_at moves i

    fit : (i < length moves) × (is_placed placed i ≡ false) × (move_load b.setup (move_at moves i) ≤ room_left b moves placed (move_at moves i).to)
    fit = fits_in b moves placed i first

    wide : length (room_after b.setup (move_at moves i) room) ≡ length room
    wide = simp length-set

    flagged : (j : ℕ) → cond (eqb i j) true (is_placed placed j) ≡ is_placed (placed ++ i ∷ []) j
    flagged j = elim (cases_eq i j) [
      | inl e ↦ rw (eq-eqb i j e, list_any-append (λ k. eqb k j) placed (i ∷ []), eq-eqb i j e) (sym (or_right (is_placed placed j) true refl))
      | inr e ↦ rw (ne_eqb i j e, list_any-append (λ k. eqb k j) placed (i ∷ []), ne_eqb i j e) (sym (or-false (is_placed placed j)))
    ]

    sums : (v : ℕ) → (sum_by (λ i. taken_by b.setup v (move_at moves i)) (placed ++ i ∷ []) ≡ sum_by (λ i. taken_by b.setup v (move_at moves i)) placed + taken_by b.setup v (move_at moves i)) × (sum_by (λ i. freed_by b.setup v (move_at moves i)) (placed ++ i ∷ []) ≡ sum_by (λ i. freed_by b.setup v (move_at moves i)) placed + freed_by b.setup v (move_at moves i))
    sums v = (sum_by_push (λ i. taken_by b.setup v (move_at moves i)) placed i, sum_by_push (λ i. freed_by b.setup v (move_at moves i)) placed i)

    step : (v : ℕ) → v < length room → (get_or room v 0 ≡ room_left b moves placed v) × (taken_by b.setup v (move_at moves i) ≤ room_left b moves placed v)
    step v l = (
      kept.left v l,
      elim (cases_eq (move_at moves i).to v) [
        | inl e ↦ rw (eq-eqb (move_at moves i).to v e) (let load : move_load b.setup (move_at moves i) ≤ room_left b moves placed v = subst (λ x. move_load b.setup (move_at moves i) ≤ room_left b moves placed x) e fit.2 in load)
        | inr e ↦ rw (ne_eqb (move_at moves i).to v e) (omega arith)
      ],
    )

    order : IsGreedy b moves (placed ++ i ∷ [])
    order k l = elim (cases_lt k (length placed)) [
      | inl h ↦ ap (first_fit b moves) (take-append-le k placed (i ∷ []) (omega arith)) ∙ kept.greedy k h ∙ ap Some (sym (get_or_append_left placed (i ∷ []) 0 k h))
      | inr h ↦
          let here : length placed ≡ k = (let e = length_push placed i in omega arith) in
          ap (first_fit b moves) (take_at placed (i ∷ []) k here) ∙ first ∙ ap Some (sym (get_or_push placed i 0 k here))
    ]

-- the first that is not marked and whose load is within the room left is the one to be placed
pub next_is : (b : Basis) (moves : List Move) (placed : List ℕ) (marks : List Bool) (room : List ℕ) →
    IsKept b moves placed marks room → ((i : ℕ) → i < length moves → (move_at moves i).to < length room) →
    first_below (length moves) (is_next b.setup moves marks room) ≡ first_fit b moves placed
next_is b moves placed marks room kept to =
    first_same (length moves) (is_next b.setup moves marks room) (fits b moves placed) (λ i l. rw (kept.marked i, kept.left (move_at moves i).to (to i l)) refl)

-- ---- what the code's steps say

-- the first move that isn't marked and whose load is within the room of the account is the first that fits
pub next_found : (b : Basis) (moves : List Move) (placed : List ℕ) (marks : List Bool) (room : List ℕ) (setup : Setup) (o : Option ℕ) →
    IsKept b moves placed marks room → All (IsMoveOf b.setup) moves → setup ≡ b.setup →
    o ≡ first_below (length moves) (is_next setup moves marks room) → first_fit b moves placed ≡ o
next_found b moves placed marks room setup o kept known same e =
    sym (e ∙ rw same (next_is b moves placed marks room kept (λ i l. let m = known i no_move l in let t = m.to in let w = kept.wide in omega arith)))

-- the account stays right where the first move that fits is placed, marked and charged
pub kept_next : (b : Basis) (moves : List Move) (placed : List ℕ) (marks : List Bool) (room : List ℕ) (i : ℕ) (m : Move) (setup : Setup)
    (later : List ℕ) (flags : List Bool) (left : List ℕ) →
    IsKept b moves placed marks room → All (IsMoveOf b.setup) moves → first_fit b moves placed ≡ Some i → m ≡ move_at moves i → setup ≡ b.setup →
    move_load setup m ≤ MOST_LOAD → later ≡ placed ++ i ∷ [] → flags ≡ set marks i true → left ≡ room_after setup m room →
    IsKept b moves later flags left
kept_next b moves placed marks room i m setup later flags left kept known first is same load p f r =
    let fit = fits_in b moves placed i first in
    let move = known i no_move fit.0 in
    let small : move_load b.setup (move_at moves i) ≤ MOST_LOAD = rw (same, is) at load in
    let within : IsWithin b moves room i = record { to = (let t = move.to in let w = kept.wide in omega arith); from = (let t = move.from in let w = kept.wide in omega arith); load = small } in
    rw (p, f, r, same, is) (kept_more b moves placed marks room i kept first within)

pub marked_not : (b : Basis) (moves : List Move) (placed : List ℕ) (marks : List Bool) (room : List ℕ) (i : ℕ) →
    IsKept b moves placed marks room → first_fit b moves placed ≡ Some i → count_by not (set marks i true) < count_by not marks
marked_not b moves placed marks room i kept first =
    let fit = fits_in b moves placed i first in
    let e = fewer marks i (let e = kept.long in let l = fit.0 in omega arith) (kept.marked i ∙ fit.1) in omega arith

-- the first move that isn't marked is the first that isn't placed
pub left_is : (b : Basis) (moves : List Move) (placed : List ℕ) (marks : List Bool) (room : List ℕ) → IsKept b moves placed marks room →
    first_below (length moves) (is_left marks) ≡ first_left moves placed
left_is b moves placed marks room kept =
    first_same (length moves) (is_left marks) (λ i. not (is_placed placed i)) (λ i l. ap not (kept.marked i))

-- without marks, and with the room of the pool, the account is right before any move is placed
pub kept_start : (b : Basis) (moves : List Move) (setup : Setup) (placed : List ℕ) (marks : List Bool) (room : List ℕ) → setup ≡ b.setup →
    placed ≡ [] → marks ≡ replicate (length moves) false → room ≡ map b.pool.room (range_with_len 0 (length setup.servers)) → All (λ x. x < 2 ^ 64) room →
    IsKept b moves placed marks room
kept_start b moves setup placed marks room same p m r small =
    let e : room ≡ map b.pool.room (range_with_len 0 (length b.setup.servers)) = r ∙ ap (λ (x : Setup). map b.pool.room (range_with_len 0 (length x.servers))) same in
    rw (p, m, e) (kept_none b moves (subst (All (λ x. x < 2 ^ 64)) e small))

-- a move that is read in a list of moves of the configuration is of the configuration
pub known_at : (setup other : Setup) (moves : List Move) (i : ℕ) (m : Move) → All (IsMoveOf setup) moves → other ≡ setup → i < length moves → m ≡ get_or moves i m → IsMoveOf other m
known_at setup other moves i m known same l is = subst (λ (x : Setup). IsMoveOf x m) (sym same) (subst (λ (x : Move). IsMoveOf setup x) (sym is) (known i m l))

-- with the first move that fits marked, fewer moves are left
pub marked_less : (b : Basis) (moves : List Move) (placed : List ℕ) (marks : List Bool) (room : List ℕ) (i : ℕ) (flags : List Bool) →
    IsKept b moves placed marks room → first_fit b moves placed ≡ Some i → flags ≡ set marks i true → count_by not flags < count_by not marks
marked_less b moves placed marks room i flags kept first e = subst (λ (x : List Bool). count_by not x < count_by not marks) (sym e) (marked_not b moves placed marks room i kept first)
