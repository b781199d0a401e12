-- A whole parcel taken out of a hold and put into one.
use Rattle.std.proofs.Common.{◌≡◌, ℕ, ◌≤◌, ◌==◌, ◌&&◌, nat_lt, is_some, is_none, refl, sym, ◌∙◌, ap, subst}
use Rattle.std.specs.List.{count_by, AllByRecursion}
use Rattle.sm_reservation.specs.Rights.{Rights}
use Rattle.sm_reservation.specs.Key.{IsOrdered}
use Rattle.sm_reservation.specs.Hold.{Hold, minus_cells, minus_crowns, minus_room, plus_cells, plus_crowns, plus_room}
use Rattle.sm_reservation.specs.Steps.{count_steps, AllSteps}
use Rattle.sm_reservation.specs.Turns.{out_cell, out_crown, out_room, out_spare, in_cell, in_crown, in_room, in_spare, lacks_cell, lacks_crown, lacks_room, lacks_spare, loses_cell, loses_crown, loses_room, loses_spare, HasRoom, HasSpare}
use Rattle.sm_reservation.specs.Capacity.{KeyCounts, new_keys, lost_keys}
use Rattle.sm_reservation.proofs.ShortLemmas.{HasAll}
use Rattle.sm_reservation.proofs.TurnLemmas.{loses-cells, loses-crowns, loses-room, loses-spare, lacks-cells, lacks-crowns, lacks-room, lacks-spare, HasRoom-steps, HasSpare-steps}
use Rattle.sm_reservation.proofs.ParcelSums.{cells_alone, crowns_alone, room_alone, more_cells_alone, more_crowns_alone, more_room_alone}

-- counts of keys are the same where they are for each list
pub same_sizes : {a b c d a' b' c' d' : ℕ} → a ≡ a' → b ≡ b' → c ≡ c' → d ≡ d' → (let s : KeyCounts = record { cells = a; crowns = b; room = c; spare = d } in s) ≡ record { cells = a'; crowns = b'; room = c'; spare = d' }
same_sizes p q r s = rw (p, q, r, s) refl

-- ---- Taken out

-- the hold once the cell rights are out
abbrev pub take-1 : Hold → Rights → Hold
take-1 h p = minus_cells h p.cells

-- the hold once the crowns are out too
abbrev pub take-2 : Hold → Rights → Hold
take-2 h p = minus_crowns (take-1 h p) p.crowns

-- the hold once the room is out too
abbrev pub take-3 : Hold → Rights → Hold
take-3 h p = minus_room (take-2 h p) p.room

pub take-crowns : (h : Hold) (p : Rights) → (take-1 h p).crowns ≡ h.crowns
take-crowns h p = ap (λ k. k.crowns) (cells_alone h p.cells)

pub take-room : (h : Hold) (p : Rights) → (take-2 h p).room ≡ h.room
take-room h p = ap (λ k. k.room) (crowns_alone (take-1 h p) p.crowns) ∙ ap (λ k. k.room) (cells_alone h p.cells)

pub take-spare : (h : Hold) (p : Rights) → (take-3 h p).spare ≡ h.spare
take-spare h p = ap (λ k. k.spare) (room_alone (take-2 h p) p.room) ∙ ap (λ k. k.spare) (crowns_alone (take-1 h p) p.crowns) ∙ ap (λ k. k.spare) (cells_alone h p.cells)

pub record take-counts (h : Hold) (p : Rights) : Type 0 where
  pub cells : count_steps out_cell loses_cell h p.cells ≡ (lost_keys h p).cells
  pub crowns : count_steps out_crown loses_crown (take-1 h p) p.crowns ≡ (lost_keys h p).crowns
  pub room : count_steps out_room loses_room (take-2 h p) p.room ≡ (lost_keys h p).room
  pub spare : count_steps out_spare loses_spare (take-3 h p) p.spare ≡ (lost_keys h p).spare

-- taking out in turn loses as many keys of each list as are counted at the start
pub take_counts : (h : Hold) (p : Rights) → IsOrdered p → take-counts h p
take_counts h p o = record {
  cells = loses-cells h p.cells o.cells;
  crowns = loses-crowns (take-1 h p) p.crowns o.crowns ∙ ap (λ f. count_by (λ x. is_some (f x.shard)) p.crowns) (take-crowns h p);
  room = loses-room (take-2 h p) p.room o.room ∙ ap (λ f. count_by (λ x. nat_lt 0 x.amount && (f x.server == x.amount)) p.room) (take-room h p);
  spare = loses-spare (take-3 h p) p.spare o.spare ∙ ap (λ f. count_by (λ x. nat_lt 0 x.amount && (f x.shard == x.amount)) p.spare) (take-spare h p);
}

-- ---- Put in

-- the hold once the cell rights are in
abbrev pub put-1 : Hold → Rights → Hold
put-1 h p = plus_cells h p.cells

-- the hold once the crowns are in too
abbrev pub put-2 : Hold → Rights → Hold
put-2 h p = plus_crowns (put-1 h p) p.crowns

-- the hold once the room is in too
abbrev pub put-3 : Hold → Rights → Hold
put-3 h p = plus_room (put-2 h p) p.room

pub put-crowns : (h : Hold) (p : Rights) → (put-1 h p).crowns ≡ h.crowns
put-crowns h p = ap (λ k. k.crowns) (more_cells_alone h p.cells)

-- cell rights and crowns that come in leave the room as it was
pub put-room : (h : Hold) (p : Rights) → (put-2 h p).room ≡ h.room
put-room h p = ap (λ k. k.room) (more_crowns_alone (put-1 h p) p.crowns) ∙ ap (λ k. k.room) (more_cells_alone h p.cells)

-- with the room, they leave the spare replicas as they were
pub put-spare : (h : Hold) (p : Rights) → (put-3 h p).spare ≡ h.spare
put-spare h p = ap (λ k. k.spare) (more_room_alone (put-2 h p) p.room) ∙ ap (λ k. k.spare) (more_crowns_alone (put-1 h p) p.crowns) ∙ ap (λ k. k.spare) (more_cells_alone h p.cells)

pub record put-counts (h : Hold) (p : Rights) : Type 0 where
  pub cells : count_steps in_cell lacks_cell h p.cells ≡ (new_keys h p).cells
  pub crowns : count_steps in_crown lacks_crown (put-1 h p) p.crowns ≡ (new_keys h p).crowns
  pub room : count_steps in_room lacks_room (put-2 h p) p.room ≡ (new_keys h p).room
  pub spare : count_steps in_spare lacks_spare (put-3 h p) p.spare ≡ (new_keys h p).spare

-- putting in in turn brings as many new keys of each list as are counted at the start
pub put_counts : (h : Hold) (p : Rights) → IsOrdered p → put-counts h p
put_counts h p o = record {
  cells = lacks-cells h p.cells o.cells;
  crowns = lacks-crowns (put-1 h p) p.crowns o.crowns ∙ ap (λ f. count_by (λ x. is_none (f x.shard)) p.crowns) (put-crowns h p);
  room = lacks-room (put-2 h p) p.room o.room ∙ ap (λ f. count_by (λ x. nat_lt 0 x.amount && (f x.server == 0)) p.room) (put-room h p);
  spare = lacks-spare (put-3 h p) p.spare o.spare ∙ ap (λ f. count_by (λ x. nat_lt 0 x.amount && (f x.shard == 0)) p.spare) (put-spare h p);
}

-- ---- amounts

-- where a hold has all of a parcel, it has each amount of room when its turn comes
pub take_rooms : (h : Hold) (p : Rights) → IsOrdered p → HasAll h p → AllSteps out_room HasRoom (take-2 h p) p.room
take_rooms h p o all =
    let P : (ℕ → ℕ) → Type 0 = λ f. AllByRecursion (λ x. x.amount ≤ f x.server) p.room in
    let at : AllByRecursion (HasRoom (take-2 h p)) p.room = subst P (sym (take-room h p)) all.room in
    HasRoom-steps (take-2 h p) p.room o.room at

-- and each amount of spare replicas
pub take_spares : (h : Hold) (p : Rights) → IsOrdered p → HasAll h p → AllSteps out_spare HasSpare (take-3 h p) p.spare
take_spares h p o all =
    let P : (ℕ → ℕ) → Type 0 = λ f. AllByRecursion (λ x. x.amount ≤ f x.shard) p.spare in
    let at : AllByRecursion (HasSpare (take-3 h p)) p.spare = subst P (sym (take-spare h p)) all.spare in
    HasSpare-steps (take-3 h p) p.spare o.spare at
