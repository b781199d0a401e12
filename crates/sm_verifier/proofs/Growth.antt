-- The growth of amounts by a parcel, and the bounds of a parcel's amounts.
use Rattle.std.proofs.Common.{◌≡◌, ℕ, ◌+◌, ◌<◌, ◌≤◌, List, [], ◌∷◌, length, get_or, ap, arith, inl, inr}
use Rattle.std.specs.Prelude.{All}
use Rattle.std.specs.List.{AllByRecursion}
use Rattle.std.proofs.lemmas.Bool.{cases_Bool}
use Rattle.std.proofs.lemmas.List.Elements.{recursion_from_All}
use Rattle.sm_reservation.specs.Rights.{Rights}
use Rattle.sm_reservation.specs.Rows.{Rises, same, amount_at}
use Rattle.sm_reservation.specs.Key.{key_of_room, key_of_spare}
use Rattle.sm_reservation.specs.Hold.{Hold, plus, plus_cells, plus_crowns, plus_room}
use Rattle.sm_reservation.specs.HoldOf.{hold_of}
use Rattle.sm_reservation.proofs.ParcelSums.{more_cells_alone, more_crowns_alone, more_room_alone, more_spare_alone, plus_room_at, plus_spare_at}
use Rattle.sm_plan_code.specs.declared.limits.TheConstants.{MOST_AMOUNT}
use Rattle.sm_plan_code.specs.Plan.{IsSmallParcel}
use Rattle.sm_verifier.specs.Step.{IsAtMost, Grows}

-- an amount of a list is no more than what all its amounts are no more than
amount_most : {T : Type 0} (key_of : T → ℕ × ℕ) (amount : T → ℕ) (n : ℕ) (xs : List T) (q : ℕ × ℕ) → AllByRecursion (λ x. amount x ≤ n) xs → amount_at key_of amount xs q ≤ n
amount_most key_of amount n [] q all = omega arith
amount_most key_of amount n (x ∷ xs) q all = elim (cases_Bool (same (key_of x) q)) [
  | inl e ↦ rw e all.0
  | inr e ↦ rw e (amount_most key_of amount n xs q all.1)
]

-- what a parcel of small amounts puts in
pub plus_grows : (h : Hold) (p : Rights) → Rises key_of_room p.room → Rises key_of_spare p.spare → IsSmallParcel p → Grows MOST_AMOUNT h (plus h p)
plus_grows h p room spare small =
    let cells = more_cells_alone h p.cells in
    let crowns = more_crowns_alone (plus_cells h p.cells) p.crowns in
    let first : Hold = plus_crowns (plus_cells h p.cells) p.crowns in
    let rooms = more_room_alone first p.room in
    let spares = more_spare_alone (plus_room first p.room) p.spare in
    record {
      room = λ v.
          let a : (plus h p).room v ≡ (plus_room first p.room).room v = ap (λ (k : Hold). k.room v) spares in
          let b : (plus_room first p.room).room v ≡ first.room v + amount_at key_of_room (λ x. x.amount) p.room (v, 0) = plus_room_at first p.room v room in
          let d : first.room v ≡ (plus_cells h p.cells).room v = ap (λ (k : Hold). k.room v) crowns in
          let e : (plus_cells h p.cells).room v ≡ h.room v = ap (λ (k : Hold). k.room v) cells in
          let f : amount_at key_of_room (λ x. x.amount) p.room (v, 0) ≤ MOST_AMOUNT = amount_most key_of_room (λ x. x.amount) MOST_AMOUNT p.room (v, 0) (recursion_from_All (λ x. x.amount ≤ MOST_AMOUNT) p.room small.room_amounts) in
          omega arith;
      spare = λ s.
          let b : (plus h p).spare s ≡ (plus_room first p.room).spare s + amount_at key_of_spare (λ x. x.amount) p.spare (s, 0) = plus_spare_at (plus_room first p.room) p.spare s spare in
          let a : (plus_room first p.room).spare s ≡ first.spare s = ap (λ (k : Hold). k.spare s) rooms in
          let d : first.spare s ≡ (plus_cells h p.cells).spare s = ap (λ (k : Hold). k.spare s) crowns in
          let e : (plus_cells h p.cells).spare s ≡ h.spare s = ap (λ (k : Hold). k.spare s) cells in
          let f : amount_at key_of_spare (λ x. x.amount) p.spare (s, 0) ≤ MOST_AMOUNT = amount_most key_of_spare (λ x. x.amount) MOST_AMOUNT p.spare (s, 0) (recursion_from_All (λ x. x.amount ≤ MOST_AMOUNT) p.spare small.spare_amounts) in
          omega arith;
    }

-- what holds of all elements holds of the one at a key
pub all_at : {A : Type 0} (P : A → Type 0) (xs : List A) (k : ℕ) (x : A) → All P xs → k < length xs → x ≡ get_or xs k x → P x
all_at P xs k x all less is = rw is (all k x less)

-- the amounts of a small parcel
pub small_amounts : (p : Rights) → IsSmallParcel p → IsAtMost MOST_AMOUNT (hold_of p)
unfolding hold_of
small_amounts p small = record {
  room = λ v. let m : amount_at key_of_room (λ x. x.amount) p.room (v, 0) ≤ MOST_AMOUNT = amount_most key_of_room (λ x. x.amount) MOST_AMOUNT p.room (v, 0) (recursion_from_All (λ x. x.amount ≤ MOST_AMOUNT) p.room small.room_amounts) in omega arith;
  spare = λ s. let m : amount_at key_of_spare (λ x. x.amount) p.spare (s, 0) ≤ MOST_AMOUNT = amount_most key_of_spare (λ x. x.amount) MOST_AMOUNT p.spare (s, 0) (recursion_from_All (λ x. x.amount ≤ MOST_AMOUNT) p.spare small.spare_amounts) in omega arith;
}
