-- A parcel's rows worked into the lists of a hold: they are taken out of the hold, or put into it.
use Rattle.std.proofs.Common.{◌≡◌, ℕ, ◌+◌, ◌-◌, ◌<◌, Option, Some, None, is_some, is_none, List, [], ◌∷◌, length, refl, sym, ◌∙◌, ap, subst, arith}
use Rattle.sm_placement.specs.Sums.{bit}
use Rattle.sm_reservation.specs.declared.right.CellRight.{CellRight}
use Rattle.sm_reservation.specs.declared.right.Crown.{Crown}
use Rattle.sm_reservation.specs.declared.right.Room.{Room}
use Rattle.sm_reservation.specs.declared.right.Spare.{Spare}
use Rattle.sm_reservation.specs.Rights.{Rights}
use Rattle.sm_reservation.specs.Rows.{row_at, Rises, HasPositive}
use Rattle.sm_reservation.specs.Key.{key_of_cell, key_of_crown, key_of_room, key_of_spare}
use Rattle.sm_reservation.specs.Hold.{Hold, with_cell, with_crown, without_crown, get_room, pay_room, get_spare, pay_spare, minus_cells, minus_crowns, minus_room, minus_spare, plus_cells, plus_crowns, plus_room, plus_spare}
use Rattle.sm_reservation.specs.HoldOf.{hold_of, plain_state_of, crown_of}
use Rattle.sm_reservation.specs.Steps.{count_steps, AllSteps}
use Rattle.sm_reservation.specs.Turns.{out_cell, out_crown, out_room, out_spare, in_cell, in_crown, in_room, in_spare, lacks_cell, lacks_crown, lacks_room, lacks_spare, loses_cell, loses_crown, loses_room, loses_spare, HasRoom, HasSpare}
use Rattle.sm_reservation.specs.Edits.{StaysAt, edited, edited_all, row_out, row_in, room_row_out, room_row_in, spare_row_out, spare_row_in}
use Rattle.sm_reservation.proofs.HoldLemmas.{cells_put, crowns_put, room_put, spare_put}
use Rattle.sm_reservation.proofs.AmountRows.{of_room, of_spare, out_of, into, stays_by, some_by, amount_edited, length_out, length_in}
use Rattle.sm_reservation.proofs.EditLemmas.{row_at-edited, Rises-edited, length-edited, positive-edited}

-- ---- what each edit leaves

-- a cell right or a crown that is taken out leaves no row, and so none at another key
pub stays_out : {T : Type 0} (key_of : T → ℕ × ℕ) → StaysAt key_of row_out
stays_out key_of held y z e = cc

-- one that is put in stands at its key
pub stays_in : {T : Type 0} (key_of : T → ℕ × ℕ) → StaysAt key_of row_in
stays_in key_of held y z e = let d : y ≡ z = cc in ap key_of (sym d)

-- what is left of room stands at its key
pub room_stays_out : StaysAt key_of_room room_row_out
room_stays_out = stays_by of_room out_of

-- and so does room that some is added to
pub room_stays_in : StaysAt key_of_room room_row_in
room_stays_in = stays_by of_room into

-- what is left of spare replicas stands at their key
pub spare_stays_out : StaysAt key_of_spare spare_row_out
spare_stays_out = stays_by of_spare out_of

-- and so do those that some are added to
pub spare_stays_in : StaysAt key_of_spare spare_row_in
spare_stays_in = stays_by of_spare into

-- a row of what is left of room is not of 0
pub room_some_out : (held : Option Room) (y z : Room) → room_row_out held y ≡ Some z → 0 < z.amount
room_some_out = some_by of_room out_of

-- nor is one of room that some is added to
pub room_some_in : (held : Option Room) (y z : Room) → room_row_in held y ≡ Some z → 0 < z.amount
room_some_in = some_by of_room into

-- a row of what is left of spare replicas is not of 0
pub spare_some_out : (held : Option Spare) (y z : Spare) → spare_row_out held y ≡ Some z → 0 < z.amount
spare_some_out = some_by of_spare out_of

-- nor is one of those that some are added to
pub spare_some_in : (held : Option Spare) (y z : Spare) → spare_row_in held y ≡ Some z → 0 < z.amount
spare_some_in = some_by of_spare into

-- ---- one row

cell_taken : (r : Rights) (y : CellRight) → Rises key_of_cell r.cells → hold_of (record r { cells = edited key_of_cell row_out r.cells y }) ≡ with_cell (hold_of r) y.shard y.server None
cell_taken r y o = cells_put r (edited key_of_cell row_out r.cells y) y.shard y.server None (λ q. row_at-edited key_of_cell row_out y q r.cells (stays_out key_of_cell) o)

cell_put_in : (r : Rights) (y : CellRight) → Rises key_of_cell r.cells → hold_of (record r { cells = edited key_of_cell row_in r.cells y }) ≡ with_cell (hold_of r) y.shard y.server (Some y.state)
cell_put_in r y o = cells_put r (edited key_of_cell row_in r.cells y) y.shard y.server (Some y) (λ q. row_at-edited key_of_cell row_in y q r.cells (stays_in key_of_cell) o)

crown_taken : (r : Rights) (y : Crown) → Rises key_of_crown r.crowns → hold_of (record r { crowns = edited key_of_crown row_out r.crowns y }) ≡ without_crown (hold_of r) y.shard
crown_taken r y o = crowns_put r (edited key_of_crown row_out r.crowns y) y.shard None (λ q. row_at-edited key_of_crown row_out y q r.crowns (stays_out key_of_crown) o)

crown_put_in : (r : Rights) (y : Crown) → Rises key_of_crown r.crowns → hold_of (record r { crowns = edited key_of_crown row_in r.crowns y }) ≡ with_crown (hold_of r) y.shard y.lead y.listed
crown_put_in r y o = crowns_put r (edited key_of_crown row_in r.crowns y) y.shard (Some y) (λ q. row_at-edited key_of_crown row_in y q r.crowns (stays_in key_of_crown) o)

room_taken : (r : Rights) (y : Room) → Rises key_of_room r.room → hold_of (record r { room = edited key_of_room room_row_out r.room y }) ≡ pay_room (hold_of r) y.server y.amount
unfolding hold_of
room_taken r y o = room_put r (edited key_of_room room_row_out r.room y) y.server ((hold_of r).room y.server - y.amount) (λ q. amount_edited of_room out_of y q r.room o)

-- a row of room worked into the list is room that the hold gets
pub room_put_in : (r : Rights) (y : Room) → Rises key_of_room r.room → hold_of (record r { room = edited key_of_room room_row_in r.room y }) ≡ get_room (hold_of r) y.server y.amount
unfolding hold_of
room_put_in r y o = room_put r (edited key_of_room room_row_in r.room y) y.server ((hold_of r).room y.server + y.amount) (λ q. amount_edited of_room into y q r.room o)

spare_taken : (r : Rights) (y : Spare) → Rises key_of_spare r.spare → hold_of (record r { spare = edited key_of_spare spare_row_out r.spare y }) ≡ pay_spare (hold_of r) y.shard y.amount
unfolding hold_of
spare_taken r y o = spare_put r (edited key_of_spare spare_row_out r.spare y) y.shard ((hold_of r).spare y.shard - y.amount) (λ q. amount_edited of_spare out_of y q r.spare o)

-- a row of spare replicas worked into the list is what the hold gets of them
pub spare_put_in : (r : Rights) (y : Spare) → Rises key_of_spare r.spare → hold_of (record r { spare = edited key_of_spare spare_row_in r.spare y }) ≡ get_spare (hold_of r) y.shard y.amount
unfolding hold_of
spare_put_in r y o = spare_put r (edited key_of_spare spare_row_in r.spare y) y.shard ((hold_of r).spare y.shard + y.amount) (λ q. amount_edited of_spare into y q r.spare o)

-- ---- all rows of a list

-- with cell rights taken out of the list, the lists are the hold without them
pub cells_taken : (r : Rights) (ys : List CellRight) → Rises key_of_cell r.cells → hold_of (record r { cells = edited_all key_of_cell row_out r.cells ys }) ≡ minus_cells (hold_of r) ys
cells_taken r [] o = refl
cells_taken r (y ∷ ys) o = cells_taken (record r { cells = edited key_of_cell row_out r.cells y }) ys (Rises-edited key_of_cell row_out y r.cells (stays_out key_of_cell) o) ∙ ap (λ (h : Hold). minus_cells h ys) (cell_taken r y o)

-- with cell rights put into the list, they are the hold with them
pub cells_put_in : (r : Rights) (ys : List CellRight) → Rises key_of_cell r.cells → hold_of (record r { cells = edited_all key_of_cell row_in r.cells ys }) ≡ plus_cells (hold_of r) ys
cells_put_in r [] o = refl
cells_put_in r (y ∷ ys) o = cells_put_in (record r { cells = edited key_of_cell row_in r.cells y }) ys (Rises-edited key_of_cell row_in y r.cells (stays_in key_of_cell) o) ∙ ap (λ (h : Hold). plus_cells h ys) (cell_put_in r y o)

-- with crowns taken out of the list, the lists are the hold without them
pub crowns_taken : (r : Rights) (ys : List Crown) → Rises key_of_crown r.crowns → hold_of (record r { crowns = edited_all key_of_crown row_out r.crowns ys }) ≡ minus_crowns (hold_of r) ys
crowns_taken r [] o = refl
crowns_taken r (y ∷ ys) o = crowns_taken (record r { crowns = edited key_of_crown row_out r.crowns y }) ys (Rises-edited key_of_crown row_out y r.crowns (stays_out key_of_crown) o) ∙ ap (λ (h : Hold). minus_crowns h ys) (crown_taken r y o)

-- with crowns put into the list, they are the hold with them
pub crowns_put_in : (r : Rights) (ys : List Crown) → Rises key_of_crown r.crowns → hold_of (record r { crowns = edited_all key_of_crown row_in r.crowns ys }) ≡ plus_crowns (hold_of r) ys
crowns_put_in r [] o = refl
crowns_put_in r (y ∷ ys) o = crowns_put_in (record r { crowns = edited key_of_crown row_in r.crowns y }) ys (Rises-edited key_of_crown row_in y r.crowns (stays_in key_of_crown) o) ∙ ap (λ (h : Hold). plus_crowns h ys) (crown_put_in r y o)

-- with room taken out of the list, the lists are the hold that has paid it
pub rooms_taken : (r : Rights) (ys : List Room) → Rises key_of_room r.room → hold_of (record r { room = edited_all key_of_room room_row_out r.room ys }) ≡ minus_room (hold_of r) ys
rooms_taken r [] o = refl
rooms_taken r (y ∷ ys) o = rooms_taken (record r { room = edited key_of_room room_row_out r.room y }) ys (Rises-edited key_of_room room_row_out y r.room room_stays_out o) ∙ ap (λ (h : Hold). minus_room h ys) (room_taken r y o)

-- with room put into the list, they are the hold that has got it
pub rooms_put_in : (r : Rights) (ys : List Room) → Rises key_of_room r.room → hold_of (record r { room = edited_all key_of_room room_row_in r.room ys }) ≡ plus_room (hold_of r) ys
rooms_put_in r [] o = refl
rooms_put_in r (y ∷ ys) o = rooms_put_in (record r { room = edited key_of_room room_row_in r.room y }) ys (Rises-edited key_of_room room_row_in y r.room room_stays_in o) ∙ ap (λ (h : Hold). plus_room h ys) (room_put_in r y o)

-- with spare replicas taken out of the list, the lists are the hold that has paid them
pub spares_taken : (r : Rights) (ys : List Spare) → Rises key_of_spare r.spare → hold_of (record r { spare = edited_all key_of_spare spare_row_out r.spare ys }) ≡ minus_spare (hold_of r) ys
spares_taken r [] o = refl
spares_taken r (y ∷ ys) o = spares_taken (record r { spare = edited key_of_spare spare_row_out r.spare y }) ys (Rises-edited key_of_spare spare_row_out y r.spare spare_stays_out o) ∙ ap (λ (h : Hold). minus_spare h ys) (spare_taken r y o)

-- with spare replicas put into the list, they are the hold that has got them
pub spares_put_in : (r : Rights) (ys : List Spare) → Rises key_of_spare r.spare → hold_of (record r { spare = edited_all key_of_spare spare_row_in r.spare ys }) ≡ plus_spare (hold_of r) ys
spares_put_in r [] o = refl
spares_put_in r (y ∷ ys) o = spares_put_in (record r { spare = edited key_of_spare spare_row_in r.spare y }) ys (Rises-edited key_of_spare spare_row_in y r.spare spare_stays_in o) ∙ ap (λ (h : Hold). plus_spare h ys) (spare_put_in r y o)

-- ---- how many rows there are then

some_state : (o : Option CellRight) → is_some (plain_state_of o) ≡ is_some o
some_state None = refl
some_state (Some x) = refl

none_state : (o : Option CellRight) → bit (is_none (plain_state_of o)) + bit (is_some o) ≡ 1
none_state None = refl
none_state (Some x) = refl

some_crown : (o : Option Crown) → is_some (crown_of o) ≡ is_some o
some_crown None = refl
some_crown (Some x) = refl

none_crown : (o : Option Crown) → bit (is_none (crown_of o)) + bit (is_some o) ≡ 1
none_crown None = refl
none_crown (Some x) = refl

-- the list has as many rows fewer as the hold loses rights to cells
pub cells_lost : (r : Rights) (ys : List CellRight) → Rises key_of_cell r.cells → length (edited_all key_of_cell row_out r.cells ys) + count_steps out_cell loses_cell (hold_of r) ys ≡ length r.cells
unfolding hold_of
cells_lost r [] o = omega arith
cells_lost r (y ∷ ys) o =
    let s = record r { cells = edited key_of_cell row_out r.cells y } in
    let rest = cells_lost s ys (Rises-edited key_of_cell row_out y r.cells (stays_out key_of_cell) o) in
    let same_count = ap (λ (h : Hold). count_steps out_cell loses_cell h ys) (cell_taken r y o) in
    let len = length-edited key_of_cell row_out y r.cells o in
    let here = ap bit (some_state (row_at key_of_cell r.cells (y.shard, y.server))) in
    omega arith

-- and as many more as there are cells that it had no right to
pub cells_gained : (r : Rights) (ys : List CellRight) → Rises key_of_cell r.cells → length (edited_all key_of_cell row_in r.cells ys) ≡ length r.cells + count_steps in_cell lacks_cell (hold_of r) ys
unfolding hold_of
cells_gained r [] o = omega arith
cells_gained r (y ∷ ys) o =
    let s = record r { cells = edited key_of_cell row_in r.cells y } in
    let rest = cells_gained s ys (Rises-edited key_of_cell row_in y r.cells (stays_in key_of_cell) o) in
    let same_count = ap (λ (h : Hold). count_steps in_cell lacks_cell h ys) (cell_put_in r y o) in
    let len = length-edited key_of_cell row_in y r.cells o in
    let here = none_state (row_at key_of_cell r.cells (y.shard, y.server)) in
    omega arith

-- the list has as many rows fewer as the hold loses crowns
pub crowns_lost : (r : Rights) (ys : List Crown) → Rises key_of_crown r.crowns → length (edited_all key_of_crown row_out r.crowns ys) + count_steps out_crown loses_crown (hold_of r) ys ≡ length r.crowns
unfolding hold_of
crowns_lost r [] o = omega arith
crowns_lost r (y ∷ ys) o =
    let s = record r { crowns = edited key_of_crown row_out r.crowns y } in
    let rest = crowns_lost s ys (Rises-edited key_of_crown row_out y r.crowns (stays_out key_of_crown) o) in
    let same_count = ap (λ (h : Hold). count_steps out_crown loses_crown h ys) (crown_taken r y o) in
    let len = length-edited key_of_crown row_out y r.crowns o in
    let here = ap bit (some_crown (row_at key_of_crown r.crowns (y.shard, 0))) in
    omega arith

-- and as many more as there are shards whose crown it had not
pub crowns_gained : (r : Rights) (ys : List Crown) → Rises key_of_crown r.crowns → length (edited_all key_of_crown row_in r.crowns ys) ≡ length r.crowns + count_steps in_crown lacks_crown (hold_of r) ys
unfolding hold_of
crowns_gained r [] o = omega arith
crowns_gained r (y ∷ ys) o =
    let s = record r { crowns = edited key_of_crown row_in r.crowns y } in
    let rest = crowns_gained s ys (Rises-edited key_of_crown row_in y r.crowns (stays_in key_of_crown) o) in
    let same_count = ap (λ (h : Hold). count_steps in_crown lacks_crown h ys) (crown_put_in r y o) in
    let len = length-edited key_of_crown row_in y r.crowns o in
    let here = none_crown (row_at key_of_crown r.crowns (y.shard, 0)) in
    omega arith

-- the list has as many rows fewer as there are servers of which the hold pays all its room
pub rooms_lost : (r : Rights) (ys : List Room) → Rises key_of_room r.room → HasPositive (λ x. x.amount) r.room → AllSteps out_room HasRoom (hold_of r) ys → length (edited_all key_of_room room_row_out r.room ys) + count_steps out_room loses_room (hold_of r) ys ≡ length r.room
unfolding hold_of
rooms_lost r [] o p has = omega arith
rooms_lost r (y ∷ ys) o p has =
    let s = record r { room = edited key_of_room room_row_out r.room y } in
    let now = room_taken r y o in
    let rest = rooms_lost s ys (Rises-edited key_of_room room_row_out y r.room room_stays_out o) (positive-edited key_of_room room_row_out (λ (x : Room). x.amount) y r.room (λ held z e. room_some_out held y z e) p) (subst (λ (h : Hold). AllSteps out_room HasRoom h ys) (sym now) has.1) in
    let same_count = ap (λ (h : Hold). count_steps out_room loses_room h ys) now in
    let one = length_out of_room y r.room o p has.0 in
    omega arith

-- and as many more as there are servers of which it had none
pub rooms_gained : (r : Rights) (ys : List Room) → Rises key_of_room r.room → HasPositive (λ x. x.amount) r.room → length (edited_all key_of_room room_row_in r.room ys) ≡ length r.room + count_steps in_room lacks_room (hold_of r) ys
unfolding hold_of
rooms_gained r [] o p = omega arith
rooms_gained r (y ∷ ys) o p =
    let s = record r { room = edited key_of_room room_row_in r.room y } in
    let now = room_put_in r y o in
    let rest = rooms_gained s ys (Rises-edited key_of_room room_row_in y r.room room_stays_in o) (positive-edited key_of_room room_row_in (λ (x : Room). x.amount) y r.room (λ held z e. room_some_in held y z e) p) in
    let same_count = ap (λ (h : Hold). count_steps in_room lacks_room h ys) now in
    let one = length_in of_room y r.room o p in
    omega arith

-- the list has as many rows fewer as there are shards of which the hold pays all its spare replicas
pub spares_lost : (r : Rights) (ys : List Spare) → Rises key_of_spare r.spare → HasPositive (λ x. x.amount) r.spare → AllSteps out_spare HasSpare (hold_of r) ys → length (edited_all key_of_spare spare_row_out r.spare ys) + count_steps out_spare loses_spare (hold_of r) ys ≡ length r.spare
unfolding hold_of
spares_lost r [] o p has = omega arith
spares_lost r (y ∷ ys) o p has =
    let s = record r { spare = edited key_of_spare spare_row_out r.spare y } in
    let now = spare_taken r y o in
    let rest = spares_lost s ys (Rises-edited key_of_spare spare_row_out y r.spare spare_stays_out o) (positive-edited key_of_spare spare_row_out (λ (x : Spare). x.amount) y r.spare (λ held z e. spare_some_out held y z e) p) (subst (λ (h : Hold). AllSteps out_spare HasSpare h ys) (sym now) has.1) in
    let same_count = ap (λ (h : Hold). count_steps out_spare loses_spare h ys) now in
    let one = length_out of_spare y r.spare o p has.0 in
    omega arith

-- and as many more as there are shards of which it had none
pub spares_gained : (r : Rights) (ys : List Spare) → Rises key_of_spare r.spare → HasPositive (λ x. x.amount) r.spare → length (edited_all key_of_spare spare_row_in r.spare ys) ≡ length r.spare + count_steps in_spare lacks_spare (hold_of r) ys
unfolding hold_of
spares_gained r [] o p = omega arith
spares_gained r (y ∷ ys) o p =
    let s = record r { spare = edited key_of_spare spare_row_in r.spare y } in
    let now = spare_put_in r y o in
    let rest = spares_gained s ys (Rises-edited key_of_spare spare_row_in y r.spare spare_stays_in o) (positive-edited key_of_spare spare_row_in (λ (x : Spare). x.amount) y r.spare (λ held z e. spare_some_in held y z e) p) in
    let same_count = ap (λ (h : Hold). count_steps in_spare lacks_spare h ys) now in
    let one = length_in of_spare y r.spare o p in
    omega arith
