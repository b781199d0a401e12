-- Facts about placed moves that the rule does not refuse: their servers are up and have what they should have, the
-- rights are in the pool, and no two moves need the same right.
use Rattle.std.proofs.Common.{◌≡◌, ◌≢◌, ℕ, ◌<◌, ◌≤◌, Bool, true, false, cond, Some, None, List, [], ◌∷◌, length, get_or, take, refl, sym, ap, ◌∙◌, arith, inl, inr, ◌⊎◌, subst}
use Rattle.std.specs.Prelude.{◌==◌, ◌&&◌, ◌||◌, not, nat_lt, find}
use Rattle.std.specs.Option.{option_or}
use Rattle.std.specs.List.{list_any}
use Rattle.std.proofs.lemmas.Bool.{cases_Bool, cases_lt, eq-eqb, ltb-false, and_parts, and_from, or_parts, or_cases, not-true, not-false, both_ways}
use Rattle.std.proofs.lemmas.List.{get_or-take, length-take-le}
use Rattle.std.proofs.lemmas.List.Elements.{Contains-get_or}
use Rattle.sm_server.specs.declared.call.Cell.{Cell}
use Rattle.sm_server.specs.declared.call.Cell.TheVariants as cell
use Rattle.sm_server.specs.Cell.{is_absent, is_primary, is_secondary}
use Rattle.sm_placement.specs.Place.{Place}
use Rattle.sm_placement.proofs.Searches.{first_none, none_mapped}
use Rattle.sm_plan_code.specs.declared.limits.TheConstants.{MOST_MOVES, MOST_SIGNALS}
use Rattle.sm_plan_code.specs.declared.moves.Move.{Move}
use Rattle.sm_planner.specs.declared.refusal.NoPlan.TheVariants.{NotThere, Held, ServerDown, NoRoom, TooMany}
use Rattle.sm_placement.specs.Opening.{first_below}
use Rattle.sm_planner.specs.Basis.{Basis, move_at, no_move, left_cell, is_replica}
use Rattle.sm_planner.specs.Rights.{has_rights, needs_cell, shares_right, is_forestalled}
use Rattle.sm_planner.specs.Placing.{IsPlacing, first_left}
use Rattle.sm_planner.specs.Payment.{signals_of}
use Rattle.sm_planner.specs.Refusal.{is_closed, is_open, first_not_there, first_held, first_down, end_down, first_refused, in_placed_order, no_room, no_spread, too_many, refusal}
use Rattle.sm_planner.proofs.law.Gathered.{StandsIn}
use Rattle.sm_planner.proofs.law.Sorting.{stands_from}
use Rattle.sm_planner.proofs.law.Payments.{to, from}
use Rattle.sm_planner.proofs.law.Placings.{move_is, count_is, place_known, placed_once}
use Rattle.sm_planner.proofs.law.Streams.{AreAllApart}
use Rattle.sm_reservation.proofs.ShortLemmas.{no_answer}

-- ---- searches that find nothing

not_found : {X : Type 0} (test : X → Bool) (xs : List X) (x : X) → find test xs ≡ None → StandsIn x xs → test x ≡ false
not_found test [] x e s = absurd s
not_found test (y ∷ xs) x e s = elim (cases_Bool (test y)) [
  | inl passes ↦ absurd (let wrong = rw passes at e in cc)
  | inr fails ↦ elim s [ inl here ↦ ap test (sym here) ∙ fails | inr there ↦ not_found test xs x (rw fails at e) there ]
]

none_passes : {X : Type 0} (test : X → Bool) (xs : List X) (x : X) → list_any test xs ≡ false → StandsIn x xs → test x ≡ false
none_passes test [] x e s = absurd s
none_passes test (y ∷ xs) x e s = elim (cases_Bool (test y)) [
  | inl passes ↦ absurd (let wrong = rw passes at e in cc)
  | inr fails ↦ elim s [ inl here ↦ ap test (sym here) ∙ fails | inr there ↦ none_passes test xs x (rw fails at e) there ]
]

-- ---- two moves

pub record ApartMoves (p : Place) (m n : Move) : Type 0 where
  pub to_to : m.to ≢ n.to
  pub to_from : m.to ≢ n.from
  pub from_to : m.from ≢ n.to
  pub from_from : m.from ≢ n.from
  pub crowns : is_primary (left_cell p m) ≡ true → is_primary (left_cell p n) ≡ true → ⊥

-- no cell is absent and a replica
pub not_both : (x : Cell) → is_absent x ≡ true → is_replica x ≡ true → ⊥
not_both cell.Absent e r = cc
not_both (cell.Prepared from number) e r = cc
not_both cell.Secondary e r = cc
not_both cell.Primary e r = cc
not_both (cell.Forwarding to number) e r = cc

-- a replica is a primary or a secondary
pub one_of_two : (x : Cell) → is_replica x ≡ true → (is_primary x ≡ true) ⊎ (is_secondary x ≡ true)
one_of_two x r = or_cases (is_primary x) (is_secondary x) r

module _ (p : Place) (m n : Move) (same : m.shard ≡ n.shard) (absent_m : is_absent (p.cells m.shard m.to) ≡ true) (absent_n : is_absent (p.cells n.shard n.to) ≡ true)
    (replica_m : is_replica (left_cell p m) ≡ true) (replica_n : is_replica (left_cell p n) ≡ true) (free : shares_right p m n ≡ false) where
  shared : ((needs_cell p n m.to || (is_secondary (left_cell p m) && needs_cell p n m.from)) || (is_primary (left_cell p m) && is_primary (left_cell p n))) ≡ false
  shared = rw (eq-eqb n.shard m.shard (sym same)) at free

  to_goes : m.to ≢ n.from
  to_goes e = not_both (p.cells m.shard m.to) absent_m (subst (λ x. is_replica x ≡ true) (ap (λ s. p.cells s n.from) (sym same) ∙ ap (p.cells m.shard) (sym e)) replica_n)

  goes_to : m.from ≢ n.to
  goes_to e = not_both (p.cells n.shard n.to) absent_n (subst (λ x. is_replica x ≡ true) (ap (λ s. p.cells s m.from) same ∙ ap (p.cells n.shard) e) replica_m)

  cells_free : (needs_cell p n m.to || (is_secondary (left_cell p m) && needs_cell p n m.from)) ≡ false
  cells_free = (or_parts (needs_cell p n m.to || (is_secondary (left_cell p m) && needs_cell p n m.from)) (is_primary (left_cell p m) && is_primary (left_cell p n)) shared).0

  crowns_free : (is_primary (left_cell p m) && is_primary (left_cell p n)) ≡ false
  crowns_free = (or_parts (needs_cell p n m.to || (is_secondary (left_cell p m) && needs_cell p n m.from)) (is_primary (left_cell p m) && is_primary (left_cell p n)) shared).1

  both_to : m.to ≢ n.to
  both_to e =
      let not_needed = (or_parts (needs_cell p n m.to) (is_secondary (left_cell p m) && needs_cell p n m.from) cells_free).0 in
      let goes = (or_parts (n.to == m.to) ((n.from == m.to) && is_secondary (left_cell p n)) not_needed).0 in
      both_ways (n.to == m.to) goes (eq-eqb n.to m.to (sym e))

  both_lead : is_primary (left_cell p m) ≡ true → is_primary (left_cell p n) ≡ true → ⊥
  both_lead one two = both_ways (is_primary (left_cell p m) && is_primary (left_cell p n)) crowns_free (and_from (is_primary (left_cell p m)) (is_primary (left_cell p n)) one two)

  both_from : m.from ≢ n.from
  both_from e =
      let cells : left_cell p n ≡ left_cell p m = ap (λ s. p.cells s n.from) (sym same) ∙ ap (p.cells m.shard) (sym e) in
      elim (one_of_two (left_cell p m) replica_m) [
        | inl leads ↦ both_lead leads (subst (λ x. is_primary x ≡ true) (sym cells) leads)
        | inr follows ↦
            let not_needed = (or_parts (needs_cell p n m.to) (is_secondary (left_cell p m) && needs_cell p n m.from) cells_free).1 in
            let needed : needs_cell p n m.from ≡ false = rw follows at not_needed in
            let leaves = (or_parts (n.to == m.from) ((n.from == m.from) && is_secondary (left_cell p n)) needed).1 in
            both_ways ((n.from == m.from) && is_secondary (left_cell p n)) leaves (and_from (n.from == m.from) (is_secondary (left_cell p n)) (eq-eqb n.from m.from (sym e)) (subst (λ x. is_secondary x ≡ true) (sym cells) follows))
      ]

  pub are_apart : ApartMoves p m n
  are_apart = record { to_to = both_to; to_from = to_goes; from_to = goes_to; from_from = both_from; crowns = both_lead }

pub turned : (p : Place) (m n : Move) → ApartMoves p m n → ApartMoves p n m
turned p m n a = record {
  to_to = λ e. a.to_to (sym e);
  to_from = λ e. a.from_to (sym e);
  from_to = λ e. a.to_from (sym e);
  from_from = λ e. a.from_from (sym e);
  crowns = λ one two. a.crowns two one;
}

-- ---- moves that are not refused

-- what is known of one of them
pub record IsOpened (b : Basis) (m : Move) : Type 0 where
  pub replica : is_replica (left_cell b.place m) ≡ true
  pub absent : is_absent (b.place.cells m.shard m.to) ≡ true
  pub rights : has_rights b m ≡ true
  pub from_up : b.place.down m.from ≡ false
  pub to_up : b.place.down m.to ≡ false

module _ (b : Basis) (moves : List Move) (none : first_refused b moves ≡ None) where
  parts : (first_not_there b.place moves ≡ None) × (option_or (first_held b moves) (first_down b.place moves) ≡ None)
  parts = no_answer (first_not_there b.place moves) (option_or (first_held b moves) (first_down b.place moves)) none

  others : (first_held b moves ≡ None) × (first_down b.place moves ≡ None)
  others = no_answer (first_held b moves) (first_down b.place moves) parts.1

  move_there : (i : ℕ) → i < length moves → StandsIn (move_at moves i) moves
  move_there i l = stands_from (move_at moves i) moves (Contains-get_or moves i no_move l)

  none_closed : first_below (length moves) (is_closed b moves) ≡ None
  none_closed = none_mapped (λ i. Held (move_at moves i).shard (move_at moves i).to) (first_below (length moves) (is_closed b moves)) others.0

  open_at : (i : ℕ) → i < length moves → is_open b (take i moves) (move_at moves i) ≡ true
  open_at i l = not-false (is_open b (take i moves) (move_at moves i)) (first_none (length moves) (is_closed b moves) none_closed i l)

  -- that is known of each move of the list
  pub is_opened : (i : ℕ) → i < length moves → IsOpened b (move_at moves i)
  is_opened i l =
      let m : Move = move_at moves i in
      let is = and_parts (is_absent (b.place.cells m.shard m.to) && has_rights b m) (not (is_forestalled b.place (take i moves) m)) (open_at i l) in
      let own = and_parts (is_absent (b.place.cells m.shard m.to)) (has_rights b m) is.0 in
      let there = not_found (λ n. not (is_replica (left_cell b.place n))) moves m (none_mapped (λ n. NotThere n.shard n.from) (find (λ n. not (is_replica (left_cell b.place n))) moves) parts.0) (move_there i l) in
      let up = not_found (λ n. b.place.down n.from || b.place.down n.to) moves m (none_mapped (λ n. ServerDown (end_down b.place n)) (find (λ n. b.place.down n.from || b.place.down n.to) moves) others.1) (move_there i l) in
      let ups = or_parts (b.place.down m.from) (b.place.down m.to) up in
      record {
        replica = not-false (is_replica (left_cell b.place m)) there;
        absent = own.0;
        rights = own.1;
        from_up = ups.0;
        to_up = ups.1;
      }

  earlier_apart : (i j : ℕ) → j < i → i < length moves → (move_at moves i).shard ≡ (move_at moves j).shard → ApartMoves b.place (move_at moves i) (move_at moves j)
  earlier_apart i j less l same =
      let m : Move = move_at moves i in
      let n : Move = move_at moves j in
      let is = and_parts (is_absent (b.place.cells m.shard m.to) && has_rights b m) (not (is_forestalled b.place (take i moves) m)) (open_at i l) in
      let long = length-take-le i moves (omega arith) in
      let at : get_or (take i moves) j no_move ≡ n = get_or-take i moves j no_move less in
      let there : StandsIn n (take i moves) = subst (λ x. StandsIn x (take i moves)) at (stands_from (get_or (take i moves) j no_move) (take i moves) (Contains-get_or (take i moves) j no_move (omega arith))) in
      let free = none_passes (shares_right b.place m) (take i moves) n (not-true (is_forestalled b.place (take i moves) m) is.1) there in
      let one = is_opened i l in
      let two = is_opened j (omega arith) in
      are_apart b.place m n same one.absent two.absent one.replica two.replica free

  pub moves_apart : (i j : ℕ) → i < length moves → j < length moves → i ≢ j → (move_at moves i).shard ≡ (move_at moves j).shard → ApartMoves b.place (move_at moves i) (move_at moves j)
  moves_apart i j l k apart same = elim (cases_lt i j) [
    | inl less ↦ turned b.place (move_at moves j) (move_at moves i) (earlier_apart j i less k (sym same))
    | inr more ↦ earlier_apart i j (omega arith) l same
  ]

-- ---- in the order in which they are placed

module _ (b : Basis) (moves : List Move) (placed : List ℕ) (is : IsPlacing b moves placed) (none : refusal b moves placed ≡ None) where
  abbrev order : List Move
  order = in_placed_order moves placed

  first : (first_refused b moves ≡ None) × (option_or (no_room moves placed) (option_or (no_spread b moves) (too_many b moves placed)) ≡ None)
  first = no_answer (first_refused b moves) (option_or (no_room moves placed) (option_or (no_spread b moves) (too_many b moves placed))) none

  second : (no_room moves placed ≡ None) × (option_or (no_spread b moves) (too_many b moves placed) ≡ None)
  second = no_answer (no_room moves placed) (option_or (no_spread b moves) (too_many b moves placed)) first.1

  third : too_many b moves placed ≡ None
  third = (no_answer (no_spread b moves) (too_many b moves placed) second.1).1

  -- no move is left
  pub none_left : first_left moves placed ≡ None
  none_left = none_mapped (λ i. NoRoom (move_at moves i).to) (first_left moves placed) second.0

  -- there are no more moves and signals than a plan may have
  pub few : (length moves ≤ MOST_MOVES) × (length (signals_of b order) ≤ MOST_SIGNALS)
  few = go (nat_lt MOST_MOVES (length moves)) (nat_lt MOST_SIGNALS (length (signals_of b order))) refl refl third
    where
      go : (x y : Bool) → nat_lt MOST_MOVES (length moves) ≡ x → nat_lt MOST_SIGNALS (length (signals_of b order)) ≡ y → cond (x || y) (Some TooMany) None ≡ None → (length moves ≤ MOST_MOVES) × (length (signals_of b order) ≤ MOST_SIGNALS)
      go false false e f w = (ltb-false MOST_MOVES (length moves) e, ltb-false MOST_SIGNALS (length (signals_of b order)) f)
      go true y e f w = absurd cc
      go false true e f w = absurd cc

  -- what is known of a move that is not refused is known of each placed one
  pub order_opened : (k : ℕ) → k < length order → IsOpened b (move_at order k)
  order_opened k l =
      let count = count_is b moves placed is.greedy in
      subst (λ m. IsOpened b m) (sym (move_is b moves placed is.greedy k (omega arith))) (is_opened b moves first.0 (get_or placed k 0) (place_known b moves placed is.greedy k (omega arith)))

  -- two placed moves of a shard have no server and no crown in common
  pub order_apart : AreAllApart b order
  order_apart j k l m apart same =
      let count = count_is b moves placed is.greedy in
      let one = move_is b moves placed is.greedy j (omega arith) in
      let two = move_is b moves placed is.greedy k (omega arith) in
      let a : ApartMoves b.place (move_at moves (get_or placed j 0)) (move_at moves (get_or placed k 0)) =
      (moves_apart b moves first.0 (get_or placed j 0) (get_or placed k 0) (place_known b moves placed is.greedy j (omega arith)) (place_known b moves placed is.greedy k (omega arith))
      (λ e. apart (placed_once b moves placed is.greedy j k (omega arith) (omega arith) e))
      (ap (λ (x : Move). x.shard) (sym one) ∙ same ∙ ap (λ (x : Move). x.shard) two)) in
      let there : ApartMoves b.place (move_at order j) (move_at order k) = subst (λ x. ApartMoves b.place x (move_at order k)) (sym one) (subst (λ x. ApartMoves b.place (move_at moves (get_or placed j 0)) x) (sym two) a) in
      record { to_to = there.to_to; to_from = there.to_from; from_to = there.from_to; from_from = there.from_from; crowns = there.crowns }
