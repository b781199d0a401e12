-- A hold that has all of a parcel is short of nothing of it.
use Rattle.std.proofs.Common.{◌≡◌, Option, None, List, [], ◌∷◌, refl, ap, arith}
use Rattle.std.specs.List.{AllByRecursion}
use Rattle.std.proofs.lemmas.Bool.{le-leb}
use Rattle.sm_reservation.specs.declared.right.CellRight.{CellRight}
use Rattle.sm_reservation.specs.declared.right.Crown.{Crown}
use Rattle.sm_reservation.specs.declared.right.Room.{Room}
use Rattle.sm_reservation.specs.declared.right.Spare.{Spare}
use Rattle.sm_reservation.specs.Rights.{Rights}
use Rattle.sm_reservation.specs.Rows.{row_at, amount_of}
use Rattle.sm_reservation.specs.Key.{key_of_cell, key_of_crown, key_of_room, key_of_spare, IsOrdered}
use Rattle.sm_reservation.specs.Hold.{Hold}
use Rattle.sm_reservation.specs.HoldOf.{plain_state_of, crown_of, hold_of}
use Rattle.sm_reservation.specs.Covers.{Covers}
use Rattle.sm_reservation.specs.Short.{cell_short, crown_short, room_short, spare_short, first_answer, first_short}
use Rattle.sm_reservation.proofs.Truths.{is_cell_self, same_lead_self, same_server_self}
use Rattle.sm_reservation.proofs.ParcelRows.{IsFound, all_found}

no_answers : {X Y : Type 0} (f : X → Option Y) (P : X → Type 0) (xs : List X) → ((x : X) → P x → f x ≡ None) → AllByRecursion P xs → first_answer f xs ≡ None
no_answers f P [] h all = refl
no_answers f P (x ∷ xs) h all = rw (h x all.0, no_answers f P xs h all.1) refl

-- a hold that has all of a parcel is short of nothing of it
pub covered_not_short : (h : Hold) (p : Rights) → IsOrdered p → Covers h (hold_of p) → first_short h p ≡ None
unfolding hold_of
covered_not_short h p o c =
    let a = no_answers (cell_short h) (IsFound key_of_cell p.cells) p.cells cell (all_found key_of_cell p.cells o.cells) in
    let b = no_answers (crown_short h) (IsFound key_of_crown p.crowns) p.crowns crown (all_found key_of_crown p.crowns o.crowns) in
    let d = no_answers (room_short h) (IsFound key_of_room p.room) p.room room (all_found key_of_room p.room o.room) in
    let e = no_answers (spare_short h) (IsFound key_of_spare p.spare) p.spare spare (all_found key_of_spare p.spare o.spare) in
    rw (a, b, d, e) refl
  where
    cell : (x : CellRight) → IsFound key_of_cell p.cells x → cell_short h x ≡ None
    cell x e = rw (c.cells x.shard x.server x.state (ap plain_state_of e), is_cell_self x.state) refl

    crown : (x : Crown) → IsFound key_of_crown p.crowns x → crown_short h x ≡ None
    crown x e = rw (c.crowns x.shard (x.lead, x.listed) (ap crown_of e), same_lead_self x.lead, same_server_self x.listed) refl

    room : (x : Room) → IsFound key_of_room p.room x → room_short h x ≡ None
    room x e =
        let y : amount_of (λ (r : Room). r.amount) (row_at key_of_room p.room (x.server, 0)) ≡ x.amount = ap (amount_of (λ (r : Room). r.amount)) e in
        let l = c.room x.server in
        rw (le-leb x.amount (h.room x.server) (omega arith)) refl

    spare : (x : Spare) → IsFound key_of_spare p.spare x → spare_short h x ≡ None
    spare x e =
        let y : amount_of (λ (r : Spare). r.amount) (row_at key_of_spare p.spare (x.shard, 0)) ≡ x.amount = ap (amount_of (λ (r : Spare). r.amount)) e in
        let l = c.spare x.shard in
        rw (le-leb x.amount (h.spare x.shard) (omega arith)) refl
