-- Whole lists worked into the lists of a hold: what the code's edits leave.
use Rattle.std.proofs.Common.{◌≡◌, ℕ, ◌+◌, ◌-◌, ◌^◌, ◌≤◌, ◌<◌, ◌&&◌, true, false, Bool, Option, Some, None, is_some, is_none, List, [], ◌∷◌, refl, sym, ◌∙◌, ap, subst, arith}
use Rattle.sm_placement.specs.Sums.{bit}
use Rattle.sm_reservation.specs.declared.right.CellRight.{CellRight}
use Rattle.sm_reservation.specs.declared.right.Crown.{Crown}
use Rattle.sm_reservation.specs.declared.right.Room.{Room}
use Rattle.sm_reservation.specs.declared.right.Spare.{Spare}
use Rattle.sm_reservation.specs.Rights.{Rights}
use Rattle.sm_reservation.specs.Rows.{row_at, Rises}
use Rattle.sm_reservation.specs.Key.{key_of_cell, key_of_crown, key_of_room, key_of_spare}
use Rattle.sm_reservation.specs.Hold.{Hold}
use Rattle.sm_reservation.specs.HoldOf.{hold_of, plain_state_of, crown_of}
use Rattle.sm_reservation.specs.Steps.{count_steps, AllSteps}
use Rattle.sm_reservation.specs.Turns.{in_cell, in_crown, in_room, in_spare, lacks_cell, lacks_crown, lacks_room, lacks_spare, RoomFits, SpareFits}
use Rattle.sm_reservation.specs.Edits.{StaysAt, edited, edited_all, new_rows, row_in, room_row_out, room_row_in, room_in_word, spare_row_out, spare_row_in, spare_in_word}
use Rattle.sm_reservation.proofs.StepLemmas.{tally, tally_is}
use Rattle.sm_reservation.proofs.TurnLemmas.{lacks-cells, lacks-crowns, lacks-room, lacks-spare}
use Rattle.sm_reservation.proofs.EditLemmas.{Rises-edited}
use Rattle.sm_reservation.proofs.AmountRows.{of_room, of_spare, into_word, stays_by, some_by, out_small, word_small, comes_new, edited_in_word}
use Rattle.sm_reservation.proofs.EditedHolds.{room_stays_in, spare_stays_in, room_put_in, spare_put_in}

-- ---- how many rows come in

-- no row comes in where an edit leaves nothing at a key without a row
pub none_come : {T : Type 0} (key_of : T → ℕ × ℕ) (edit : Option T → T → Option T) (xs ys : List T) → ((y : T) → edit None y ≡ None) → new_rows key_of edit xs ys ≡ 0
none_come key_of edit xs [] h = refl
none_come key_of edit xs (y ∷ ys) h = rw (h y, none_come key_of edit xs ys h) (both_none (is_none (row_at key_of xs (key_of y))))
  where
    both_none : (b : Bool) → bit (b && false) + 0 ≡ 0
    both_none true = refl
    both_none false = refl

few_come : {T : Type 0} (key_of : T → ℕ × ℕ) (edit : Option T → T → Option T) (test : T → Bool) (xs ys : List T) → ((y : T) → bit (is_none (row_at key_of xs (key_of y)) && is_some (edit None y)) ≤ bit (test y)) → new_rows key_of edit xs ys ≤ tally test ys
unfolding tally
few_come key_of edit test xs [] h = omega arith
few_come key_of edit test xs (y ∷ ys) h = omega (arith, h y, few_come key_of edit test xs ys h)

none_state : (o : Option CellRight) → bit (is_none o && true) ≤ bit (is_none (plain_state_of o))
none_state None = omega arith
none_state (Some x) = omega arith

none_crown : (o : Option Crown) → bit (is_none o && true) ≤ bit (is_none (crown_of o))
none_crown None = omega arith
none_crown (Some x) = omega arith

-- no more cell rights come in than there are cells that the hold has no right to
pub cells_come : (r : Rights) (ys : List CellRight) → Rises key_of_cell ys → new_rows key_of_cell row_in r.cells ys ≤ count_steps in_cell lacks_cell (hold_of r) ys
unfolding hold_of
cells_come r ys o = rw (lacks-cells (hold_of r) ys o, ← tally_is (lacks_cell (hold_of r)) ys) (few_come key_of_cell row_in (lacks_cell (hold_of r)) r.cells ys (λ y. none_state (row_at key_of_cell r.cells (key_of_cell y))))

-- no more crowns come in than there are shards whose crown the hold has not
pub crowns_come : (r : Rights) (ys : List Crown) → Rises key_of_crown ys → new_rows key_of_crown row_in r.crowns ys ≤ count_steps in_crown lacks_crown (hold_of r) ys
unfolding hold_of
crowns_come r ys o = rw (lacks-crowns (hold_of r) ys o, ← tally_is (lacks_crown (hold_of r)) ys) (few_come key_of_crown row_in (lacks_crown (hold_of r)) r.crowns ys (λ y. none_crown (row_at key_of_crown r.crowns (key_of_crown y))))

-- ---- room

-- of no room nothing is left
pub room_never : (y : Room) → room_row_out None y ≡ None
room_never y = rw (let z : 0 - y.amount ≡ 0 = omega arith in z) refl

-- no more rows of room come in than there are servers of which the hold has none
pub rooms_come : (r : Rights) (ys : List Room) → Rises key_of_room ys → new_rows key_of_room room_in_word r.room ys ≤ count_steps in_room lacks_room (hold_of r) ys
unfolding hold_of
rooms_come r ys o = rw (lacks-room (hold_of r) ys o, ← tally_is (lacks_room (hold_of r)) ys) (few_come key_of_room room_in_word (lacks_room (hold_of r)) r.room ys (λ y. comes_new of_room y (row_at key_of_room r.room (key_of_room y))))

-- room that is added as a machine word stands at its key
pub room_stays_in_word : StaysAt key_of_room room_in_word
room_stays_in_word = stays_by of_room into_word

-- and its row is not of 0
pub room_some_in_word : (held : Option Room) (y z : Room) → room_in_word held y ≡ Some z → 0 < z.amount
room_some_in_word = some_by of_room into_word

-- and its amount is a u64
pub room_word_small : (held : Option Room) (y z : Room) → ((x : Room) → held ≡ Some x → x.amount < 2 ^ 64) → room_in_word held y ≡ Some z → z.amount < 2 ^ 64
room_word_small = word_small of_room

-- what is left of a u64 of room is one
pub room_out_small : (held : Option Room) (y z : Room) → ((x : Room) → held ≡ Some x → x.amount < 2 ^ 64) → room_row_out held y ≡ Some z → z.amount < 2 ^ 64
room_out_small = out_small of_room

-- where each sum fits, a machine word holds it
pub rooms_in_word : (r : Rights) (ys : List Room) → Rises key_of_room r.room → AllSteps in_room RoomFits (hold_of r) ys → edited_all key_of_room room_in_word r.room ys ≡ edited_all key_of_room room_row_in r.room ys
unfolding hold_of
rooms_in_word r [] o fits = refl
rooms_in_word r (y ∷ ys) o fits =
    ap (λ (l : List Room). edited_all key_of_room room_in_word l ys) (edited_in_word of_room y r.room o fits.0) ∙ rooms_in_word (record r { room = edited key_of_room room_row_in r.room y }) ys (Rises-edited key_of_room room_row_in y r.room room_stays_in o) (subst (λ (h : Hold). AllSteps in_room RoomFits h ys) (sym (room_put_in r y o)) fits.1)

-- ---- spare

-- of no spare replicas nothing is left
pub spare_never : (y : Spare) → spare_row_out None y ≡ None
spare_never y = rw (let z : 0 - y.amount ≡ 0 = omega arith in z) refl

-- no more rows of spare replicas come in than there are shards of which the hold has none
pub spares_come : (r : Rights) (ys : List Spare) → Rises key_of_spare ys → new_rows key_of_spare spare_in_word r.spare ys ≤ count_steps in_spare lacks_spare (hold_of r) ys
unfolding hold_of
spares_come r ys o = rw (lacks-spare (hold_of r) ys o, ← tally_is (lacks_spare (hold_of r)) ys) (few_come key_of_spare spare_in_word (lacks_spare (hold_of r)) r.spare ys (λ y. comes_new of_spare y (row_at key_of_spare r.spare (key_of_spare y))))

-- spare replicas that are added as a machine word stand at their key
pub spare_stays_in_word : StaysAt key_of_spare spare_in_word
spare_stays_in_word = stays_by of_spare into_word

-- and their row is not of 0
pub spare_some_in_word : (held : Option Spare) (y z : Spare) → spare_in_word held y ≡ Some z → 0 < z.amount
spare_some_in_word = some_by of_spare into_word

-- and their amount is a u64
pub spare_word_small : (held : Option Spare) (y z : Spare) → ((x : Spare) → held ≡ Some x → x.amount < 2 ^ 64) → spare_in_word held y ≡ Some z → z.amount < 2 ^ 64
spare_word_small = word_small of_spare

-- what is left of a u64 of spare replicas is one
pub spare_out_small : (held : Option Spare) (y z : Spare) → ((x : Spare) → held ≡ Some x → x.amount < 2 ^ 64) → spare_row_out held y ≡ Some z → z.amount < 2 ^ 64
spare_out_small = out_small of_spare

-- where each sum fits, a machine word holds it
pub spares_in_word : (r : Rights) (ys : List Spare) → Rises key_of_spare r.spare → AllSteps in_spare SpareFits (hold_of r) ys → edited_all key_of_spare spare_in_word r.spare ys ≡ edited_all key_of_spare spare_row_in r.spare ys
unfolding hold_of
spares_in_word r [] o fits = refl
spares_in_word r (y ∷ ys) o fits =
    ap (λ (l : List Spare). edited_all key_of_spare spare_in_word l ys) (edited_in_word of_spare y r.spare o fits.0) ∙ spares_in_word (record r { spare = edited key_of_spare spare_row_in r.spare y }) ys (Rises-edited key_of_spare spare_row_in y r.spare spare_stays_in o) (subst (λ (h : Hold). AllSteps in_spare SpareFits h ys) (sym (spare_put_in r y o)) fits.1)
