-- Rights in order: what putting in order gives, and that a hold tells them apart.
use Rattle.std.proofs.Common.{◌≡◌, ◌≤◌, ℕ, Option, Some, List, sym, ◌∙◌, ap, arith, nat_lt}
use Rattle.std.specs.List.{Contains, count_by, filter}
use Rattle.sm_placement.specs.declared.lead.Lead.{Lead}
use Rattle.sm_reservation.specs.declared.right.PlainCell.{PlainCell}
use Rattle.sm_reservation.specs.declared.right.CellRight.{CellRight}
use Rattle.sm_reservation.specs.declared.right.Crown.{Crown}
use Rattle.sm_reservation.specs.declared.right.Room.{Room}
use Rattle.sm_reservation.specs.declared.right.Spare.{Spare}
use Rattle.sm_reservation.specs.declared.right.Key.TheVariants as key
use Rattle.sm_reservation.specs.Rights.{Rights}
use Rattle.sm_reservation.specs.Rows.{same, amount_of, Rises, HasPositive}
use Rattle.sm_reservation.specs.Key.{key_of_cell, key_of_crown, key_of_room, key_of_spare, IsOnce, IsOrdered, IsPositive, IsInOrder}
use Rattle.sm_reservation.specs.Hold.{Hold}
use Rattle.sm_reservation.specs.HoldOf.{plain_state_of, crown_of, hold_of}
use Rattle.sm_reservation.specs.InOrder.{in_order, sorted}
use Rattle.sm_reservation.proofs.Places.{same_is}
use Rattle.sm_reservation.proofs.OrderLemmas.{count_at_is, once_at}
use Rattle.sm_reservation.proofs.ElementLemmas.{rises_kept, positive_kept}
use Rattle.sm_reservation.proofs.SortedRows.{sorted_is, sorted_rises, sorted_of_rising, kept_positive, positive_each, IsRead, same_reading}

same_rights : (r q : Rights) → r.cells ≡ q.cells → r.crowns ≡ q.crowns → r.room ≡ q.room → r.spare ≡ q.spare → r ≡ q
same_rights r q a b c d =
    ap (λ (xs : List CellRight). record r { cells = xs }) a
    ∙ ap (λ (xs : List Crown). record r { cells = q.cells; crowns = xs }) b
    ∙ ap (λ (xs : List Room). record q { room = xs; spare = r.spare }) c
    ∙ ap (λ (xs : List Spare). record q { spare = xs }) d

-- rights in order rise, where no key of the lists stands twice
pub in_order_is_ordered : (r : Rights) → IsOnce r → IsOrdered (in_order r)
in_order_is_ordered r once = record {
  cells = sorted_rises key_of_cell r.cells (λ x. once (key.CellRight x.shard x.server));
  crowns = sorted_rises key_of_crown r.crowns (λ x. once (key.Crown x.shard));
  room = rises_kept key_of_room (λ x. nat_lt 0 x.amount) (sorted key_of_room r.room) (sorted_rises key_of_room r.room (λ x. once (key.Room x.server)));
  spare = rises_kept key_of_spare (λ x. nat_lt 0 x.amount) (sorted key_of_spare r.spare) (sorted_rises key_of_spare r.spare (λ x. once (key.Spare x.shard)));
}

-- rights in order have no amount of 0
pub in_order_is_positive : (r : Rights) → IsPositive (in_order r)
in_order_is_positive r = record {
  room = positive_kept (λ (x : Room). x.amount) (sorted key_of_room r.room);
  spare = positive_kept (λ (x : Spare). x.amount) (sorted key_of_spare r.spare);
}

-- rights that rise and have no amount of 0 are in order already
pub in_order_of_ordered : (r : Rights) → IsOrdered r → IsPositive r → in_order r ≡ r
in_order_of_ordered r o p = same_rights (in_order r) r
    (sorted_of_rising key_of_cell r.cells o.cells)
    (sorted_of_rising key_of_crown r.crowns o.crowns)
    (ap (filter (λ (x : Room). nat_lt 0 x.amount)) (sorted_of_rising key_of_room r.room o.room) ∙ kept_positive (λ (x : Room). x.amount) r.room p.room)
    (ap (filter (λ (x : Spare). nat_lt 0 x.amount)) (sorted_of_rising key_of_spare r.spare o.spare) ∙ kept_positive (λ (x : Spare). x.amount) r.spare p.spare)

-- lists put in order in whatever way, once amounts of 0 are left out
pub parcel_in_order : (r s : Rights) (n : List Room) (m : List Spare) → n ≡ filter (λ x. nat_lt 0 x.amount) s.room → m ≡ filter (λ x. nat_lt 0 x.amount) s.spare → IsInOrder r s → IsOrdered s → record s { room = n; spare = m } ≡ in_order r
parcel_in_order r s n m en em i o = same_rights (record s { room = n; spare = m }) (in_order r)
    (sym (sorted_is key_of_cell r.cells s.cells i.cells o.cells))
    (sym (sorted_is key_of_crown r.crowns s.crowns i.crowns o.crowns))
    (en ∙ ap (filter (λ (x : Room). nat_lt 0 x.amount)) (sym (sorted_is key_of_room r.room s.room i.room o.room)))
    (em ∙ ap (filter (λ (x : Spare). nat_lt 0 x.amount)) (sym (sorted_is key_of_spare r.spare s.spare i.spare o.spare)))

once_in : {T : Type 0} (key_of : T → ℕ × ℕ) (q : ℕ × ℕ) (xs : List T) → Rises key_of xs → count_by (λ x. same (key_of x) q) xs ≤ 1
once_in key_of q xs r = rw (← count_at_is key_of q xs) (once_at key_of q xs r)

-- lists in order have no key twice
pub once_of_ordered : (r : Rights) → IsOrdered r → IsOnce r
once_of_ordered r o (key.CellRight s v) = once_in key_of_cell (s, v) r.cells o.cells
once_of_ordered r o (key.Crown s) = once_in key_of_crown (s, 0) r.crowns o.crowns
once_of_ordered r o (key.Room v) = once_in key_of_room (v, 0) r.room o.room
once_of_ordered r o (key.Spare s) = once_in key_of_spare (s, 0) r.spare o.spare

-- ---- a hold tells ordered lists apart

cells_read : (xs : List CellRight) → IsRead key_of_cell plain_state_of xs
cells_read xs = record { row = λ x y s e. row x y (same_is (key_of_cell y) (key_of_cell x) s) e; some = λ x h e. cc }
  where
    row : (x y : CellRight) → key_of_cell y ≡ key_of_cell x → plain_state_of (Some y) ≡ plain_state_of (Some x) → y ≡ x
    row x y p e =
        let state : y.state ≡ x.state = cc in
        ap (λ (k : ℕ × ℕ). record y { shard = k.0; server = k.1 }) p ∙ ap (λ (c : PlainCell). record x { state = c }) state

crowns_read : (xs : List Crown) → IsRead key_of_crown crown_of xs
crowns_read xs = record { row = λ x y s e. row x y (same_is (key_of_crown y) (key_of_crown x) s) e; some = λ x h e. cc }
  where
    row : (x y : Crown) → key_of_crown y ≡ key_of_crown x → crown_of (Some y) ≡ crown_of (Some x) → y ≡ x
    row x y p e =
        let said : (y.lead, y.listed) ≡ (x.lead, x.listed) = cc in
        ap (λ (k : ℕ × ℕ). record y { shard = k.0 }) p ∙ ap (λ (c : Lead × Option ℕ). record x { lead = c.0; listed = c.1 }) said

rooms_read : (xs : List Room) → HasPositive (λ x. x.amount) xs → IsRead key_of_room (amount_of (λ x. x.amount)) xs
rooms_read xs p = record { row = λ x y s e. row x y (same_is (key_of_room y) (key_of_room x) s) e; some = some }
  where
    row : (x y : Room) → key_of_room y ≡ key_of_room x → y.amount ≡ x.amount → y ≡ x
    row x y q e = ap (λ (k : ℕ × ℕ). record y { server = k.0 }) q ∙ ap (λ (n : ℕ). record x { amount = n }) e

    some : (x : Room) → Contains xs x → 0 ≡ x.amount → ⊥
    some x h e = omega (arith, positive_each (λ (y : Room). y.amount) xs x p h)

spares_read : (xs : List Spare) → HasPositive (λ x. x.amount) xs → IsRead key_of_spare (amount_of (λ x. x.amount)) xs
spares_read xs p = record { row = λ x y s e. row x y (same_is (key_of_spare y) (key_of_spare x) s) e; some = some }
  where
    row : (x y : Spare) → key_of_spare y ≡ key_of_spare x → y.amount ≡ x.amount → y ≡ x
    row x y q e = ap (λ (k : ℕ × ℕ). record y { shard = k.0 }) q ∙ ap (λ (n : ℕ). record x { amount = n }) e

    some : (x : Spare) → Contains xs x → 0 ≡ x.amount → ⊥
    some x h e = omega (arith, positive_each (λ (y : Spare). y.amount) xs x p h)

-- lists that rise, without amounts of 0, are the same where they are the same hold
pub rights_by_hold : (r q : Rights) → IsOrdered r → IsPositive r → IsOrdered q → IsPositive q → hold_of r ≡ hold_of q → r ≡ q
unfolding hold_of
rights_by_hold r q a p b w e = same_rights r q
    (same_reading key_of_cell plain_state_of r.cells q.cells a.cells b.cells (cells_read r.cells) (cells_read q.cells) (λ x. ap (λ (h : Hold). h.cells x.shard x.server) e))
    (same_reading key_of_crown crown_of r.crowns q.crowns a.crowns b.crowns (crowns_read r.crowns) (crowns_read q.crowns) (λ x. ap (λ (h : Hold). h.crowns x.shard) e))
    (same_reading key_of_room (amount_of (λ (x : Room). x.amount)) r.room q.room a.room b.room (rooms_read r.room p.room) (rooms_read q.room w.room) (λ x. ap (λ (h : Hold). h.room x.server) e))
    (same_reading key_of_spare (amount_of (λ (x : Spare). x.amount)) r.spare q.spare a.spare b.spare (spares_read r.spare p.spare) (spares_read q.spare w.spare) (λ x. ap (λ (h : Hold). h.spare x.shard) e))
