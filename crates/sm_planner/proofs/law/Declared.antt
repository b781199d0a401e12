-- The declaration of a stream: the rights that its own moves need, and the room that they pay from the pool.
use Rattle.std.proofs.Common.{◌≡◌, ◌≢◌, ℕ, zero, suc, ◌<◌, ◌≤◌, true, false, Option, Some, None, List, [], ◌∷◌, length, refl, sym, ap, ◌∙◌, arith, inl, inr, ◌⊎◌, subst}
use Rattle.std.specs.Prelude.{nat_lt, filter, map}
use Rattle.std.specs.List.{range_with_len}
use Rattle.std.proofs.lemmas.Bool.{cases_Bool, cases_lt, lt-ltb, false_from_ne_true}
use Rattle.std.proofs.lemmas.List.{map-append}
use Rattle.sm_server.specs.Cell.{is_primary}
use Rattle.sm_placement.specs.declared.lead.Lead.{Lead}
use Rattle.sm_placement.specs.declared.lead.Lead.TheVariants.{At}
use Rattle.sm_placement.specs.Setup.{sizes_of}
use Rattle.sm_placement.specs.Place.{Place}
use Rattle.sm_placement.proofs.Searches.{cases_Option}
use Rattle.sm_reservation.specs.declared.right.CellRight.{CellRight}
use Rattle.sm_reservation.specs.declared.right.Crown.{Crown}
use Rattle.sm_reservation.specs.declared.right.Room.{Room}
use Rattle.sm_reservation.specs.declared.right.Key.TheVariants as key
use Rattle.sm_reservation.specs.declared.right.PlainCell.{PlainCell}
use Rattle.sm_reservation.specs.declared.right.PlainCell.TheVariants.{Absent, Secondary}
use Rattle.sm_reservation.specs.Rights.{Rights}
use Rattle.sm_reservation.specs.Rows.{same, row_at, amount_of}
use Rattle.sm_reservation.specs.Key.{key_of_cell, key_of_crown, key_of_room, IsOnce}
use Rattle.sm_reservation.specs.InOrder.{sorted}
use Rattle.sm_reservation.specs.Hold.{Hold}
use Rattle.sm_reservation.specs.HoldOf.{hold_of, plain_state_of, crown_of}
use Rattle.sm_reservation.proofs.Places.{same_is}
use Rattle.sm_reservation.proofs.ElementLemmas.{rises_kept}
use Rattle.sm_reservation.proofs.SortedRows.{sorted_rises}
use Rattle.sm_reservation.proofs.InOrder.{in_order_is_ordered, in_order_is_positive}
use Rattle.sm_plan_code.specs.Plan.{IsOrderedParcel}
use Rattle.sm_plan_code.specs.declared.moves.Move.{Move}
use Rattle.sm_planner.specs.Basis.{Basis, move_at, left_cell, is_replica}
use Rattle.sm_planner.specs.Payment.{stream_of}
use Rattle.sm_planner.specs.Plan.{moves_of, cells_needed, crowns_of, paid_by, room_by, needs_by, holds_of}
use Rattle.sm_planner.proofs.Ranges.{range_suc}
use Rattle.sm_planner.proofs.law.Gathered.{gathered, StandsIn, stands_below, stands_in_range}
use Rattle.sm_planner.proofs.law.Sorting.{IsKeyedOnce, once_both, once_single, once_gathered, stands_gathered, gathered_from, stands_kept, stood, stands_mapped, row_is, row_from, in_sorted, from_sorted, sorted_row_is, sorted_row_from}
use Rattle.sm_planner.proofs.law.Payments.{to, from}
use Rattle.sm_planner.proofs.law.Streams.{shard, leads_shard, AreAllApart}
use Rattle.sm_planner.proofs.law.Opened.{IsOpened, not_both}

-- ---- the rights of one move

-- the right to the cell of a shard at a server, which is in this state
abbrev pub cell_right : ℕ → ℕ → PlainCell → CellRight
cell_right s v state = record { shard = s; server = v; state = state }

-- the crown of a shard whose primary stands at a server, with what the published map lists
abbrev pub crown_right : ℕ → ℕ → Option ℕ → Crown
crown_right s v listed = record { shard = s; lead = At v; listed = listed }

-- a move needs no other cell rights than to the new cell and, where it moves no primary, to the old one
pub needed_cases : (p : Place) (m : Move) (x : CellRight) → StandsIn x (cells_needed p m) → (cell_right m.shard m.to Absent ≡ x) ⊎ ((is_primary (left_cell p m) ≡ false) × (cell_right m.shard m.from Secondary ≡ x))
needed_cases p m x s = elim s [
  | inl here ↦ inl here
  | inr there ↦ elim (cases_Bool (is_primary (left_cell p m))) [
    | inl leads ↦ absurd (rw leads at there)
    | inr follows ↦ elim (rw follows at there) [ inl it ↦ inr (follows, it) | inr none ↦ absurd none ]
  ]
]

-- each move needs the right to the new cell, absent
pub needs_absent : (p : Place) (m : Move) → StandsIn (cell_right m.shard m.to Absent) (cells_needed p m)
needs_absent p m = inl refl

-- where it moves no primary, it needs the right to the old cell, secondary
pub needs_secondary : (p : Place) (m : Move) → is_primary (left_cell p m) ≡ false → StandsIn (cell_right m.shard m.from Secondary) (cells_needed p m)
needs_secondary p m follows = inr (rw follows (inl refl))

-- only the move of a primary needs a crown, and it is that of its shard
pub crown_case : (p : Place) (m : Move) (x : Crown) → StandsIn x (crowns_of p m) → (is_primary (left_cell p m) ≡ true) × (crown_right m.shard m.from (p.listed m.shard) ≡ x)
crown_case p m x s = elim (cases_Bool (is_primary (left_cell p m))) [
  | inl leads ↦ elim (rw leads at s) [ inl it ↦ (leads, it) | inr none ↦ absurd none ]
  | inr follows ↦ absurd (rw follows at s)
]

-- the move of a primary needs the crown of its shard
pub needs_crown : (p : Place) (m : Move) → is_primary (left_cell p m) ≡ true → StandsIn (crown_right m.shard m.from (p.listed m.shard)) (crowns_of p m)
needs_crown p m leads = rw leads (inl refl)

module _ (b : Basis) (order : List Move) (apart : AreAllApart b order) (opened : (k : ℕ) → k < length order → IsOpened b (move_at order k)) where
  -- a move goes to another server than it leaves
  pub to_elsewhere : (k : ℕ) → k < length order → to b order k ≢ from b order k
  to_elsewhere k l e = not_both (b.place.cells (shard b order k) (to b order k)) (opened k l).absent (subst (λ v. is_replica (b.place.cells (shard b order k) v) ≡ true) (sym e) (opened k l).replica)

  abbrev needed : ℕ → List CellRight
  needed k = cells_needed b.place (move_at order k)

  abbrev crowned : ℕ → List Crown
  crowned k = crowns_of b.place (move_at order k)

  needed_once : (k : ℕ) → k < length order → IsKeyedOnce key_of_cell (needed k)
  needed_once k l = elim (cases_Bool (leads_shard b order k)) [
    | inl leads ↦ rw leads (once_single key_of_cell (cell_right (shard b order k) (to b order k) Absent))
    | inr follows ↦ rw follows (once_both key_of_cell (cell_right (shard b order k) (to b order k) Absent ∷ []) (cell_right (shard b order k) (from b order k) Secondary ∷ [])
        (once_single key_of_cell (cell_right (shard b order k) (to b order k) Absent)) (once_single key_of_cell (cell_right (shard b order k) (from b order k) Secondary))
        (λ x y s t. elim s [
          | inr none ↦ absurd none
          | inl one ↦ elim t [
            | inr none ↦ absurd none
            | inl two ↦
                rw (← one, ← two) (false_from_ne_true _ (λ e. to_elsewhere k l (ap (λ (q : ℕ × ℕ). q.1) (same_is (shard b order k, to b order k) (shard b order k, from b order k) e))))
          ]
        ]))
  ]

  -- two moves need no right to one cell
  pub needed_apart : (j k : ℕ) → j < length order → k < length order → j ≢ k → (x y : CellRight) → StandsIn x (needed j) → StandsIn y (needed k) → same (key_of_cell x) (key_of_cell y) ≡ false
  needed_apart j k l m other x y s t = false_from_ne_true (same (key_of_cell x) (key_of_cell y)) (λ e.
      let keys = same_is (key_of_cell x) (key_of_cell y) e in
      let shards : x.shard ≡ y.shard = ap (λ (q : ℕ × ℕ). q.0) keys in
      let servers : x.server ≡ y.server = ap (λ (q : ℕ × ℕ). q.1) keys in
      elim (needed_cases b.place (move_at order j) x s) [
        | inl one ↦
            let so : shard b order j ≡ x.shard = ap (λ (z : CellRight). z.shard) one in
            let here : to b order j ≡ x.server = ap (λ (z : CellRight). z.server) one in
            elim (needed_cases b.place (move_at order k) y t) [
              | inl two ↦ (apart j k l m other (so ∙ shards ∙ sym (ap (λ (z : CellRight). z.shard) two))).to_to (here ∙ servers ∙ sym (ap (λ (z : CellRight). z.server) two))
              | inr two ↦ (apart j k l m other (so ∙ shards ∙ sym (ap (λ (z : CellRight). z.shard) two.1))).to_from (here ∙ servers ∙ sym (ap (λ (z : CellRight). z.server) two.1))
            ]
        | inr one ↦
            let so : shard b order j ≡ x.shard = ap (λ (z : CellRight). z.shard) one.1 in
            let here : from b order j ≡ x.server = ap (λ (z : CellRight). z.server) one.1 in
            elim (needed_cases b.place (move_at order k) y t) [
              | inl two ↦ (apart j k l m other (so ∙ shards ∙ sym (ap (λ (z : CellRight). z.shard) two))).from_to (here ∙ servers ∙ sym (ap (λ (z : CellRight). z.server) two))
              | inr two ↦ (apart j k l m other (so ∙ shards ∙ sym (ap (λ (z : CellRight). z.shard) two.1))).from_from (here ∙ servers ∙ sym (ap (λ (z : CellRight). z.server) two.1))
            ]
      ])

  crowned_once : (k : ℕ) → k < length order → IsKeyedOnce key_of_crown (crowned k)
  crowned_once k l = elim (cases_Bool (leads_shard b order k)) [
    | inl leads ↦ rw leads (once_single key_of_crown (crown_right (shard b order k) (from b order k) (b.place.listed (shard b order k))))
    | inr follows ↦ rw follows (λ q. omega arith)
  ]

  -- nor one crown
  pub crowned_apart : (j k : ℕ) → j < length order → k < length order → j ≢ k → (x y : Crown) → StandsIn x (crowned j) → StandsIn y (crowned k) → same (key_of_crown x) (key_of_crown y) ≡ false
  crowned_apart j k l m other x y s t = false_from_ne_true (same (key_of_crown x) (key_of_crown y)) (λ e.
      let shards : x.shard ≡ y.shard = ap (λ (q : ℕ × ℕ). q.0) (same_is (key_of_crown x) (key_of_crown y) e) in
      let one = crown_case b.place (move_at order j) x s in
      let two = crown_case b.place (move_at order k) y t in
      (apart j k l m other (ap (λ (z : Crown). z.shard) one.1 ∙ shards ∙ sym (ap (λ (z : Crown). z.shard) two.1))).crowns one.0 two.0)

  module _ (i : ℕ) where
    abbrev cells : List CellRight
    cells = gathered stream_of needed (length order) i

    abbrev crowns : List Crown
    crowns = gathered stream_of crowned (length order) i

    abbrev rooms : List Room
    rooms = (needs_by b order (moves_of order i)).room

    abbrev lists : Rights
    lists = record { cells = cells; crowns = crowns; room = rooms; spare = [] }

    -- what the stream declares, as a hold
    abbrev pub declares : Hold
    declares = hold_of (holds_of b order i)

    cells_once : IsKeyedOnce key_of_cell cells
    cells_once = once_gathered key_of_cell stream_of needed i (length order) needed_once needed_apart

    crowns_once : IsKeyedOnce key_of_crown crowns
    crowns_once = once_gathered key_of_crown stream_of crowned i (length order) crowned_once crowned_apart

    abbrev room_row : ℕ → Room
    room_row = room_by b order (moves_of order i)

    rows_once : (n : ℕ) → IsKeyedOnce key_of_room (map room_row (range_with_len 0 n))
    rows_once zero = λ q. omega arith
    rows_once (suc n) = subst (λ xs. IsKeyedOnce key_of_room xs) (sym (ap (map room_row) (range_suc n) ∙ map-append room_row (range_with_len 0 n) (n ∷ [])))
        (once_both key_of_room (map room_row (range_with_len 0 n)) (room_row n ∷ []) (rows_once n) (once_single key_of_room (room_row n)) (λ x y s t.
        let from = stands_mapped room_row x (range_with_len 0 n) s in
        let low = stands_below n from.0 from.1 in
        false_from_ne_true (same (key_of_room x) (key_of_room y)) (λ e.
        let servers : x.server ≡ y.server = ap (λ (q : ℕ × ℕ). q.0) (same_is (key_of_room x) (key_of_room y) e) in
        let one : from.0 ≡ x.server = ap (λ (z : Room). z.server) from.2 in
        elim t [ inr none ↦ absurd none | inl two ↦ (let last : n ≡ y.server = ap (λ (z : Room). z.server) two in absurd (omega arith)) ])))

    rooms_once : IsKeyedOnce key_of_room rooms
    rooms_once = rows_once (sizes_of b.setup).servers

    -- no key stands twice in what its moves need
    pub lists_once : IsOnce lists
    lists_once (key.CellRight s v) = cells_once (s, v)
    lists_once (key.Crown s) = crowns_once (s, 0)
    lists_once (key.Room v) = rooms_once (v, 0)
    lists_once (key.Spare s) = omega arith

    -- the parcel that it declares is in order
    pub ordered : IsOrderedParcel (holds_of b order i)
    ordered = record { ordered = in_order_is_ordered lists lists_once; positive = in_order_is_positive lists }

    -- ---- cells

    -- it declares each cell right that a move of its own needs
    pub cell_there : (k : ℕ) → k < length order → stream_of k ≡ i → (x : CellRight) → StandsIn x (needed k) → declares.cells x.shard x.server ≡ Some x.state
    unfolding hold_of
    cell_there k l own x s = ap plain_state_of (sorted_row_is key_of_cell cells x cells_once (stands_gathered stream_of needed i k (length order) x l own s))

    -- each right is one that a move of the stream needs
    pub record IsNeeded (s v : ℕ) (state : PlainCell) : Type 0 where
      pub move : ℕ
      pub known : move < length order
      pub own : stream_of move ≡ i
      pub there : StandsIn (cell_right s v state) (needed move)

    needed_by : (s v : ℕ) (x : CellRight) → row_at key_of_cell (sorted key_of_cell cells) (s, v) ≡ Some x → IsNeeded s v x.state
    needed_by s v x e =
        let found = sorted_row_from key_of_cell cells (s, v) x e in
        let by = gathered_from stream_of needed i (length order) x found.0 in
        let is : x ≡ cell_right s v x.state = ap (λ (q : ℕ × ℕ). cell_right q.0 q.1 x.state) found.1 in
        record { move = by.0; known = by.1; own = by.2; there = subst (λ y. StandsIn y (needed by.0)) is by.3 }

    -- each cell right that it declares is one that a move of its own needs
    pub cell_from : (s v : ℕ) (state : PlainCell) → declares.cells s v ≡ Some state → IsNeeded s v state
    unfolding hold_of
    cell_from s v state e = go (row_at key_of_cell (sorted key_of_cell cells) (s, v)) refl e
      where
        go : (o : Option CellRight) → row_at key_of_cell (sorted key_of_cell cells) (s, v) ≡ o → plain_state_of o ≡ Some state → IsNeeded s v state
        go None f e = absurd cc
        go (Some x) f e = let is : x.state ≡ state = cc in subst (λ st. IsNeeded s v st) is (needed_by s v x f)

    -- it declares no cell right that no move of its own needs
    pub cell_none : (s v : ℕ) → ((state : PlainCell) → IsNeeded s v state → ⊥) → declares.cells s v ≡ None
    cell_none s v never = elim (cases_Option (declares.cells s v)) [ inl none ↦ none | inr some ↦ absurd (never some.0 (cell_from s v some.0 some.1)) ]

    -- ---- crowns

    -- it declares each crown that a move of its own needs
    pub crown_there : (k : ℕ) → k < length order → stream_of k ≡ i → (x : Crown) → StandsIn x (crowned k) → declares.crowns x.shard ≡ Some (x.lead, x.listed)
    unfolding hold_of
    crown_there k l own x s = ap crown_of (sorted_row_is key_of_crown crowns x crowns_once (stands_gathered stream_of crowned i k (length order) x l own s))

    pub record IsCrowned (s : ℕ) (crown : Lead × Option ℕ) : Type 0 where
      pub move : ℕ
      pub known : move < length order
      pub own : stream_of move ≡ i
      pub leads : leads_shard b order move ≡ true
      pub shard_is : shard b order move ≡ s
      pub crown_is : (At (from b order move), b.place.listed s) ≡ crown

    crowned_by : (s : ℕ) (x : Crown) → row_at key_of_crown (sorted key_of_crown crowns) (s, 0) ≡ Some x → IsCrowned s (x.lead, x.listed)
    crowned_by s x e =
        let found = sorted_row_from key_of_crown crowns (s, 0) x e in
        let by = gathered_from stream_of crowned i (length order) x found.0 in
        let it = crown_case b.place (move_at order by.0) x by.3 in
        let so : shard b order by.0 ≡ s = ap (λ (z : Crown). z.shard) it.1 ∙ ap (λ (q : ℕ × ℕ). q.0) found.1 in
        record {
          move = by.0;
          known = by.1;
          own = by.2;
          leads = it.0;
          shard_is = so;
          crown_is = ap (λ t. (At (from b order by.0), b.place.listed t)) (sym so) ∙ ap (λ (z : Crown). (z.lead, z.listed)) it.1;
        }

    -- each crown that it declares is one that a move of its own needs
    pub crown_from : (s : ℕ) (crown : Lead × Option ℕ) → declares.crowns s ≡ Some crown → IsCrowned s crown
    unfolding hold_of
    crown_from s crown e = go (row_at key_of_crown (sorted key_of_crown crowns) (s, 0)) refl e
      where
        go : (o : Option Crown) → row_at key_of_crown (sorted key_of_crown crowns) (s, 0) ≡ o → crown_of o ≡ Some crown → IsCrowned s crown
        go None f e = absurd cc
        go (Some x) f e = let is : (x.lead, x.listed) ≡ crown = cc in subst (λ c. IsCrowned s c) is (crowned_by s x f)

    -- it declares no crown that no move of its own needs
    pub crown_none : (s : ℕ) → ((crown : Lead × Option ℕ) → IsCrowned s crown → ⊥) → declares.crowns s ≡ None
    crown_none s never = elim (cases_Option (declares.crowns s)) [ inl none ↦ none | inr some ↦ absurd (never some.0 (crown_from s some.0 some.1)) ]

    -- ---- room

    abbrev kept_rooms : List Room
    kept_rooms = filter (λ x. nat_lt 0 x.amount) (sorted key_of_room rooms)

    -- it declares at least the room that its moves pay from the pool
    pub room_least : (v : ℕ) → v < (sizes_of b.setup).servers → paid_by b order (moves_of order i) v ≤ declares.room v
    unfolding hold_of
    room_least v l = elim (cases_lt 0 (paid_by b order (moves_of order i) v)) [
      | inl some ↦
          let there : StandsIn (room_row v) rooms = mapped v l in
          let kept = stands_kept (λ (x : Room). nat_lt 0 x.amount) (room_row v) (sorted key_of_room rooms) (lt-ltb 0 (paid_by b order (moves_of order i) v) some) (in_sorted key_of_room rooms (room_row v) there) in
          let row = row_is key_of_room kept_rooms (room_row v) (rises_kept key_of_room (λ x. nat_lt 0 x.amount) (sorted key_of_room rooms) (sorted_rises key_of_room rooms (λ y. rooms_once (key_of_room y)))) kept in
          let is : amount_of (λ (x : Room). x.amount) (row_at key_of_room kept_rooms (v, 0)) ≡ paid_by b order (moves_of order i) v = ap (amount_of (λ (x : Room). x.amount)) row in
          omega arith
      | inr none ↦ omega arith
    ]
      where
        in_map : (u : ℕ) (xs : List ℕ) → StandsIn u xs → StandsIn (room_row u) (map room_row xs)
        in_map u [] s = absurd s
        in_map u (x ∷ xs) s = elim s [ inl here ↦ inl (ap room_row here) | inr more ↦ inr (in_map u xs more) ]

        mapped : (u : ℕ) → u < (sizes_of b.setup).servers → StandsIn (room_row u) rooms
        mapped u m = in_map u (range_with_len 0 (sizes_of b.setup).servers) (stands_in_range (sizes_of b.setup).servers u m)

    -- it declares at most the room that its moves pay from the pool
    pub room_most : (v : ℕ) → declares.room v ≤ paid_by b order (moves_of order i) v
    unfolding hold_of
    room_most v = go (row_at key_of_room kept_rooms (v, 0)) refl
      where
        go : (o : Option Room) → row_at key_of_room kept_rooms (v, 0) ≡ o → amount_of (λ (x : Room). x.amount) (row_at key_of_room kept_rooms (v, 0)) ≤ paid_by b order (moves_of order i) v
        go None e = let is = ap (amount_of (λ (x : Room). x.amount)) e in omega arith
        go (Some x) e =
            let found = row_from key_of_room kept_rooms (v, 0) x e in
            let from = stands_mapped room_row x (range_with_len 0 (sizes_of b.setup).servers) (from_sorted key_of_room rooms x (stood (λ (y : Room). nat_lt 0 y.amount) x (sorted key_of_room rooms) found.0)) in
            let server : x.server ≡ v = ap (λ (q : ℕ × ℕ). q.0) found.1 in
            let same_one : from.0 ≡ v = ap (λ (z : Room). z.server) from.2 ∙ server in
            let amount : paid_by b order (moves_of order i) from.0 ≡ x.amount = ap (λ (z : Room). z.amount) from.2 in
            let there : paid_by b order (moves_of order i) from.0 ≡ paid_by b order (moves_of order i) v = ap (paid_by b order (moves_of order i)) same_one in
            let is = ap (amount_of (λ (z : Room). z.amount)) e in
            omega arith

    -- it declares no spare replica
    pub no_spare : (s : ℕ) → declares.spare s ≡ 0
    unfolding hold_of
    no_spare s = refl
