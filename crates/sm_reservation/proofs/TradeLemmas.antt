-- Trades: a parcel taken out, and another put in.
use Rattle.std.proofs.Common.{◌≡◌, Option, Some, None, List, [], ◌∷◌, MatchOption, ◌∙◌, ap, arith}
use Rattle.std.specs.Option.{option_to_list}
use Rattle.sm_reservation.specs.Rights.{Rights}
use Rattle.sm_reservation.specs.Hold.{minus}
use Rattle.sm_reservation.specs.HoldOf.{hold_of}
use Rattle.sm_reservation.specs.Capacity.{HoldModel, IsLess, IsMore, IsTraded, HasCapacity, HasCapacityAfter}
use Rattle.sm_reservation.proofs.ParcelMoves.{same_sizes}

-- where there is capacity for a trade, there is capacity for what is got once what is given is out
pub places_after : (k m : HoldModel) (p q : Rights) → IsLess k m p → hold_of m.rights ≡ minus (hold_of k.rights) p → HasCapacityAfter k p q → HasCapacity m q
places_after k m p q less is room = record {
  cells = rw is (omega (arith, ap (λ s. s.cells) less.sizes, less.capacity, room.cells));
  crowns = rw is (omega (arith, ap (λ s. s.crowns) less.sizes, less.capacity, room.crowns));
  room = rw is (omega (arith, ap (λ s. s.room) less.sizes, less.capacity, room.room));
  spare = rw is (omega (arith, ap (λ s. s.spare) less.sizes, less.capacity, room.spare));
}

-- lists that lose what is given and then gain what is got have traded the one for the other
pub sizes_after : (k m n : HoldModel) (p q : Rights) → IsLess k m p → hold_of m.rights ≡ minus (hold_of k.rights) p → IsMore m n q → IsTraded k n p q
sizes_after k m n p q less is more =
    let gained = rw is at more.sizes in
    record {
      sizes = same_sizes (omega (arith, ap (λ s. s.cells) less.sizes, ap (λ s. s.cells) gained)) (omega (arith, ap (λ s. s.crowns) less.sizes, ap (λ s. s.crowns) gained)) (omega (arith, ap (λ s. s.room) less.sizes, ap (λ s. s.room) gained)) (omega (arith, ap (λ s. s.spare) less.sizes, ap (λ s. s.spare) gained));
      capacity = more.capacity ∙ less.capacity;
    }

-- the rights of a portion, as a slice lends them
pub slice_is : {T : Type 0} (o : Option T) (xs : List T) → MatchOption o (xs ≡ []) (λ x. xs ≡ x ∷ []) → xs ≡ option_to_list o
slice_is None xs e = e
slice_is (Some x) xs e = e
