-- If no key is short, each right of a parcel is there.
use Rattle.std.proofs.Common.{◌≡◌, Bool, true, false, cond, leb, Option, Some, None, List, [], ◌∷◌, refl}
use Rattle.std.proofs.lemmas.Bool.{leb-true}
use Rattle.std.specs.Option.{option_or}
use Rattle.std.specs.List.{AllByRecursion}
use Rattle.sm_reservation.specs.Rights.{Rights}
use Rattle.sm_reservation.specs.Hold.{Hold}
use Rattle.sm_reservation.specs.Amounts.{is_cell, is_crown}
use Rattle.sm_reservation.specs.Turns.{HasRoom, HasSpare}
use Rattle.sm_reservation.specs.Short.{cell_short, crown_short, room_short, spare_short, first_answer, first_short}
use Rattle.sm_reservation.specs.declared.right.CellRight.{CellRight}
use Rattle.sm_reservation.specs.declared.right.Crown.{Crown}
use Rattle.sm_reservation.specs.declared.right.Room.{Room}
use Rattle.sm_reservation.specs.declared.right.Spare.{Spare}

-- each right of the parcel is in the hold
pub record HasAll (h : Hold) (p : Rights) : Type 0 where
  pub cells : AllByRecursion (λ x. is_cell x.state (h.cells x.shard x.server) ≡ true) p.cells
  pub crowns : AllByRecursion (λ x. is_crown x.lead x.listed (h.crowns x.shard) ≡ true) p.crowns
  pub room : AllByRecursion (HasRoom h) p.room
  pub spare : AllByRecursion (HasSpare h) p.spare

-- of two answers there is no first one only where there is neither
pub no_answer : {X : Type 0} (a b : Option X) → option_or a b ≡ None → (a ≡ None) × (b ≡ None)
no_answer None b e = (refl, e)
no_answer (Some x) b e = cc

-- where nothing is short, the test has passed
pub not_short : {X : Type 0} (b : Bool) (x : X) → cond b None (Some x) ≡ None → b ≡ true
not_short true x e = refl
not_short false x e = cc

none_along : {X Y : Type 0} (f : X → Option Y) (P : X → Type 0) → ((x : X) → f x ≡ None → P x) → (xs : List X) → first_answer f xs ≡ None → AllByRecursion P xs
none_along f P h [] e = tt
none_along f P h (x ∷ xs) e = let both = no_answer (f x) (first_answer f xs) e in (h x both.0, none_along f P h xs both.1)

has_cell : (h : Hold) (x : CellRight) → cell_short h x ≡ None → is_cell x.state (h.cells x.shard x.server) ≡ true
has_cell h x e = not_short (is_cell x.state (h.cells x.shard x.server)) _ e

has_crown : (h : Hold) (x : Crown) → crown_short h x ≡ None → is_crown x.lead x.listed (h.crowns x.shard) ≡ true
has_crown h x e = not_short (is_crown x.lead x.listed (h.crowns x.shard)) _ e

has_room : (h : Hold) (x : Room) → room_short h x ≡ None → HasRoom h x
has_room h x e = leb-true x.amount (h.room x.server) (not_short (leb x.amount (h.room x.server)) _ e)

has_spare : (h : Hold) (x : Spare) → spare_short h x ≡ None → HasSpare h x
has_spare h x e = leb-true x.amount (h.spare x.shard) (not_short (leb x.amount (h.spare x.shard)) _ e)

-- a hold that is short of nothing of a parcel has each right of it
pub has_all : (h : Hold) (p : Rights) → first_short h p ≡ None → HasAll h p
has_all h p none =
    let a = first_answer (cell_short h) p.cells in
    let b = first_answer (crown_short h) p.crowns in
    let c = first_answer (room_short h) p.room in
    let d = first_answer (spare_short h) p.spare in
    let abc = no_answer (option_or (option_or a b) c) d none in
    let ab = no_answer (option_or a b) c abc.0 in
    let ones = no_answer a b ab.0 in
    record {
      cells = none_along (cell_short h) (λ x. is_cell x.state (h.cells x.shard x.server) ≡ true) (has_cell h) p.cells ones.0;
      crowns = none_along (crown_short h) (λ x. is_crown x.lead x.listed (h.crowns x.shard) ≡ true) (has_crown h) p.crowns ones.1;
      room = none_along (room_short h) (HasRoom h) (has_room h) p.room ab.1;
      spare = none_along (spare_short h) (HasSpare h) (has_spare h) p.spare abc.1;
    }
