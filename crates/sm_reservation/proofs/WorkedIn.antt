-- Parcels worked into the lists of a hold as the code does it: sums as machine words, and what stays within a u64.
use Rattle.std.proofs.Common.{◌≡◌, ℕ, ◌+◌, ◌≤◌, ◌<◌, ◌^◌, ◌&&◌, ◌==◌, nat_lt, Bool, true, false, refl, arith}
use Rattle.std.proofs.lemmas.Bool.Decides.{nat_tests}
use Rattle.sm_placement.specs.Sums.{bit}
use Rattle.sm_reservation.specs.Rights.{Rights}
use Rattle.sm_reservation.specs.Key.{key_of_room, key_of_spare, IsOrdered, AreU64}
use Rattle.sm_reservation.specs.HoldOf.{hold_of}
use Rattle.sm_reservation.specs.Capacity.{SumsFit}
use Rattle.sm_reservation.specs.Edits.{edited_all, room_row_out, room_row_in, room_in_word, spare_row_out, spare_row_in, spare_in_word}
use Rattle.sm_reservation.proofs.TurnLemmas.{RoomFits-steps, SpareFits-steps}
use Rattle.sm_reservation.proofs.EditLemmas.{all-edited_all}
use Rattle.sm_reservation.proofs.EditedHolds.{room_stays_out, spare_stays_out}
use Rattle.sm_reservation.proofs.HoldEdits.{room_stays_in_word, spare_stays_in_word, room_out_small, spare_out_small, room_word_small, spare_word_small, rooms_in_word, spares_in_word}
use Rattle.sm_reservation.proofs.HoldSizes.{taken, given}

-- where all sums fit, the lists with machine words are those with the sums
pub room_given : (r p : Rights) → IsOrdered r → IsOrdered p → SumsFit (hold_of r) p → edited_all key_of_room room_in_word r.room p.room ≡ edited_all key_of_room room_row_in r.room p.room
room_given r p o q fits = rooms_in_word r p.room o.room (RoomFits-steps (hold_of r) p.room q.room fits.room)

-- so it is of spare replicas
pub spare_given : (r p : Rights) → IsOrdered r → IsOrdered p → SumsFit (hold_of r) p → edited_all key_of_spare spare_in_word r.spare p.spare ≡ edited_all key_of_spare spare_row_in r.spare p.spare
spare_given r p o q fits = spares_in_word r p.spare o.spare (SpareFits-steps (hold_of r) p.spare q.spare fits.spare)

-- amounts stay u64s
pub bounded-taken : (r p : Rights) → IsOrdered r → AreU64 r → AreU64 (taken r p)
bounded-taken r p o b = record {
  room = all-edited_all key_of_room room_row_out (λ x. x.amount < 2 ^ 64) r.room p.room room_stays_out o.room room_out_small b.room;
  spare = all-edited_all key_of_spare spare_row_out (λ x. x.amount < 2 ^ 64) r.spare p.spare spare_stays_out o.spare spare_out_small b.spare;
}

-- and so they do once a parcel is put in, where its sums are u64s
pub bounded-given : (r p : Rights) → IsOrdered r → IsOrdered p → SumsFit (hold_of r) p → AreU64 r → AreU64 (given r p)
bounded-given r p o q fits b = record {
  room = rw (← room_given r p o q fits) (all-edited_all key_of_room room_in_word (λ x. x.amount < 2 ^ 64) r.room p.room room_stays_in_word o.room room_word_small b.room);
  spare = rw (← spare_given r p o q fits) (all-edited_all key_of_spare spare_in_word (λ x. x.amount < 2 ^ 64) r.spare p.spare spare_stays_in_word o.spare spare_word_small b.spare);
}

-- ---- one right put in

-- there is room for one that comes in, where there is room for a new one
pub one_more : (b : Bool) (capacity : ℕ) {n : ℕ} → n ≤ capacity → (b ≡ true → n < capacity) → n + bit b ≤ capacity
one_more true capacity l more = let m = more refl in omega arith
one_more false capacity l more = omega arith

-- an amount that is new to a hold is positive, and the hold had none
pub amount_lacks : (n had : ℕ) → nat_lt 0 n && (had == 0) ≡ true → (0 < n) × (had ≡ 0)
amount_lacks n had t = ((let l : 0 < n = grind (arith, nat_tests) in l), (let z : had ≡ 0 = grind (arith, nat_tests) in z))
