-- The rest of a hold if all that it has was taken out.
use Rattle.std.proofs.Common.{◌≡◌, ℕ, ◌-◌, ◌≤◌, Option, Some, None, List, [], ◌∷◌, refl, ap, ◌∙◌, arith, inl, inr}
use Rattle.std.proofs.lemmas.Bool.{cases_Bool}
use Rattle.sm_reservation.specs.declared.right.Room.{Room}
use Rattle.sm_reservation.specs.declared.right.Spare.{Spare}
use Rattle.sm_reservation.specs.Rights.{Rights}
use Rattle.sm_reservation.specs.Rows.{same, amount_at}
use Rattle.sm_reservation.specs.Key.{key_of_room, key_of_spare}
use Rattle.sm_reservation.specs.Hold.{Hold, no_hold, pay_room, pay_spare, minus_cells, minus_crowns, minus_room, minus_spare, minus}
use Rattle.sm_reservation.specs.HoldOf.{hold_of}
use Rattle.sm_reservation.proofs.Places.{same_is}
use Rattle.sm_reservation.proofs.ParcelSums.{left, put_at, cells_alone, crowns_alone, room_alone, spare_alone, minus_cells_at, minus_crowns_at, same_hold}

-- Whatever the order of the rows, a server has no more room left than without the first row of it.
minus_room_below : (h : Hold) (xs : List Room) (v : ℕ) → (minus_room h xs).room v ≤ h.room v - amount_at key_of_room (λ x. x.amount) xs (v, 0)
minus_room_below h [] v = omega arith
minus_room_below h (x ∷ xs) v =
    let rest = minus_room_below (pay_room h x.server x.amount) xs v in
    let now = put_at h.room x.server (h.room x.server - x.amount) v in
    elim (cases_Bool (same (key_of_room x) (v, 0))) [
      | inl e ↦ let here = rw e at now in let had : h.room x.server ≡ h.room v = ap (λ (q : ℕ × ℕ). h.room q.0) (same_is (key_of_room x) (v, 0) e) in rw e (omega arith)
      | inr e ↦ let here = rw e at now in rw e (omega arith)
    ]

-- A shard has no more spare replicas left than without the first row of it.
minus_spare_below : (h : Hold) (xs : List Spare) (s : ℕ) → (minus_spare h xs).spare s ≤ h.spare s - amount_at key_of_spare (λ x. x.amount) xs (s, 0)
minus_spare_below h [] s = omega arith
minus_spare_below h (x ∷ xs) s =
    let rest = minus_spare_below (pay_spare h x.shard x.amount) xs s in
    let now = put_at h.spare x.shard (h.spare x.shard - x.amount) s in
    elim (cases_Bool (same (key_of_spare x) (s, 0))) [
      | inl e ↦ let here = rw e at now in let had : h.spare x.shard ≡ h.spare s = ap (λ (q : ℕ × ℕ). h.spare q.0) (same_is (key_of_spare x) (s, 0) e) in rw e (omega arith)
      | inr e ↦ let here = rw e at now in rw e (omega arith)
    ]

left_of_it : {A : Type 0} (o : Option A) → left o o ≡ None
left_of_it None = refl
left_of_it (Some x) = refl

-- rights less themselves are nothing
pub minus_all : (r : Rights) → minus (hold_of r) r ≡ no_hold
unfolding hold_of
minus_all r =
    let h = hold_of r in
    let a = minus_cells h r.cells in
    let b = minus_crowns a r.crowns in
    let d = minus_room b r.room in
    let ae = cells_alone h r.cells in
    let be = crowns_alone a r.crowns in
    let de = room_alone b r.room in
    let ee = spare_alone d r.spare in
    same_hold (minus h r) no_hold
    (λ s v. ap (λ (k : Hold). k.cells s v) ee ∙ ap (λ (k : Hold). k.cells s v) de ∙ ap (λ (k : Hold). k.cells s v) be ∙ minus_cells_at h r.cells s v ∙ left_of_it (h.cells s v))
    (λ s.
    let had : a.crowns s ≡ h.crowns s = ap (λ (k : Hold). k.crowns s) ae in
    ap (λ (k : Hold). k.crowns s) ee ∙ ap (λ (k : Hold). k.crowns s) de ∙ minus_crowns_at a r.crowns s ∙ ap (left (h.crowns s)) had ∙ left_of_it (h.crowns s))
    (λ v.
    let now : (minus h r).room v ≡ d.room v = ap (λ (k : Hold). k.room v) ee in
    let had : b.room v ≡ h.room v = ap (λ (k : Hold). k.room v) be ∙ ap (λ (k : Hold). k.room v) ae in
    let below = minus_room_below b r.room v in
    omega arith)
    (λ s.
    let had : d.spare s ≡ h.spare s = ap (λ (k : Hold). k.spare s) de ∙ ap (λ (k : Hold). k.spare s) be ∙ ap (λ (k : Hold). k.spare s) ae in
    let below = minus_spare_below d r.spare s in
    omega arith)
