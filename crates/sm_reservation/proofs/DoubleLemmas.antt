-- Keys that stand twice, found in lists that were put in order.
use Rattle.std.proofs.Common.{◌≡◌, ℕ, ◌≤◌, nat_lt, true, Option, Some, None, List, refl, arith}
use Rattle.std.proofs.lemmas.Bool.Decides.{nat_tests}
use Rattle.std.specs.Option.{option_map, option_or}
use Rattle.sm_reservation.specs.declared.right.Key.{Key}
use Rattle.sm_reservation.specs.declared.right.Key.TheVariants as key
use Rattle.sm_reservation.specs.Rights.{Rights}
use Rattle.sm_reservation.specs.Rows.{before, Climbs, Rises, first_twin}
use Rattle.sm_reservation.specs.Key.{key_of_cell, key_of_crown, key_of_room, key_of_spare, key_before, key_count, IsOnce, IsLowestDouble, IsOrdered, IsPositive, IsSortedFrom, IsInOrder, first_double}
use Rattle.std.specs.List.{filter}
use Rattle.sm_reservation.specs.declared.right.Room.{Room}
use Rattle.sm_reservation.specs.declared.right.Spare.{Spare}
use Rattle.sm_reservation.proofs.ElementLemmas.{same_elements, same_kept, rises_kept, positive_kept}
use Rattle.sm_reservation.proofs.OrderLemmas.{count_at, count_before_sort, rises, once_at, twice, lowest, flat}

-- how often a key stands, along the lists
key_at : Rights → Key → ℕ
key_at s (key.CellRight t w) = count_at key_of_cell (t, w) s.cells
key_at s (key.Crown t) = count_at key_of_crown (t, 0) s.crowns
key_at s (key.Room w) = count_at key_of_room (w, 0) s.room
key_at s (key.Spare t) = count_at key_of_spare (t, 0) s.spare

count_is : (r s : Rights) (k : Key) → IsInOrder r s → key_count r k ≡ key_at s k
unfolding key_at
count_is r s (key.CellRight t w) o = count_before_sort key_of_cell (t, w) r.cells s.cells o.cells
count_is r s (key.Crown t) o = count_before_sort key_of_crown (t, 0) r.crowns s.crowns o.crowns
count_is r s (key.Room w) o = count_before_sort key_of_room (w, 0) r.room s.room o.room
count_is r s (key.Spare t) o = count_before_sort key_of_spare (t, 0) r.spare s.spare o.spare

answer : Option (ℕ × ℕ) → Option (ℕ × ℕ) → Option (ℕ × ℕ) → Option (ℕ × ℕ) → Option Key
answer a b c d = option_or (option_or (option_or (option_map (λ p. key.CellRight p.0 p.1) a) (option_map (λ p. key.Crown p.0) b)) (option_map (λ p. key.Room p.0) c)) (option_map (λ p. key.Spare p.0) d)

record NoneOf (a b c d : Option (ℕ × ℕ)) : Type 0 where
  cells : a ≡ None
  crowns : b ≡ None
  room : c ≡ None
  spare : d ≡ None

none_of : (a b c d : Option (ℕ × ℕ)) → answer a b c d ≡ None → NoneOf a b c d
unfolding answer
none_of None None None None e = record { cells = refl; crowns = refl; room = refl; spare = refl }
none_of None None None (Some p) e = cc
none_of None None (Some p) d e = cc
none_of None (Some p) c d e = cc
none_of (Some p) b c d e = cc

no_twins : (s : Rights) → first_double s ≡ None → NoneOf (first_twin key_of_cell s.cells) (first_twin key_of_crown s.crowns) (first_twin key_of_room s.room) (first_twin key_of_spare s.spare)
unfolding answer
no_twins s e = none_of (first_twin key_of_cell s.cells) (first_twin key_of_crown s.crowns) (first_twin key_of_room s.room) (first_twin key_of_spare s.spare) e

-- no neighbours of one key: each list rises
pub ordered : (r s : Rights) → IsInOrder r s → first_double s ≡ None → IsOrdered s
ordered r s o e =
    let n = no_twins s e in
    record {
      cells = rises key_of_cell s.cells o.cells_climb n.cells;
      crowns = rises key_of_crown s.crowns o.crowns_climb n.crowns;
      room = rises key_of_room s.room o.room_climb n.room;
      spare = rises key_of_spare s.spare o.spare_climb n.spare;
    }

at_most_once : (s : Rights) (k : Key) → IsOrdered s → key_at s k ≤ 1
unfolding key_at
at_most_once s (key.CellRight t w) o = once_at key_of_cell (t, w) s.cells o.cells
at_most_once s (key.Crown t) o = once_at key_of_crown (t, 0) s.crowns o.crowns
at_most_once s (key.Room w) o = once_at key_of_room (w, 0) s.room o.room
at_most_once s (key.Spare t) o = once_at key_of_spare (t, 0) s.spare o.spare

-- where no neighbours of the lists put in order share a key, no key of the lists stands twice
pub once : (r s : Rights) → IsInOrder r s → first_double s ≡ None → IsOnce r
once r s o e k = rw (count_is r s k o) (at_most_once s k (ordered r s o e))

-- ---- the lowest key of two neighbours

lower_cell : (s : Rights) (p : ℕ × ℕ) (j : Key) → Climbs key_of_cell s.cells → first_twin key_of_cell s.cells ≡ Some p → key_before j (key.CellRight p.0 p.1) ≡ true → key_at s j ≤ 1
unfolding key_at
lower_cell s p (key.CellRight t w) c e b = lowest key_of_cell s.cells p (t, w) c e b
lower_cell s p (key.Crown t) c e b = cc
lower_cell s p (key.Room w) c e b = cc
lower_cell s p (key.Spare t) c e b = cc

below_first : (t : ℕ) (p : ℕ × ℕ) → nat_lt t p.0 ≡ true → before (t, 0) p ≡ true
below_first t p e = grind (arith, nat_tests)

lower_crown : (s : Rights) (p : ℕ × ℕ) (j : Key) → Rises key_of_cell s.cells → Climbs key_of_crown s.crowns → first_twin key_of_crown s.crowns ≡ Some p → key_before j (key.Crown p.0) ≡ true → key_at s j ≤ 1
unfolding key_at
lower_crown s p (key.CellRight t w) r c e b = once_at key_of_cell (t, w) s.cells r
lower_crown s p (key.Crown t) r c e b = lowest key_of_crown s.crowns p (t, 0) c e (below_first t p b)
lower_crown s p (key.Room w) r c e b = cc
lower_crown s p (key.Spare t) r c e b = cc

lower_room : (s : Rights) (p : ℕ × ℕ) (j : Key) → Rises key_of_cell s.cells → Rises key_of_crown s.crowns → Climbs key_of_room s.room → first_twin key_of_room s.room ≡ Some p → key_before j (key.Room p.0) ≡ true → key_at s j ≤ 1
unfolding key_at
lower_room s p (key.CellRight t w) r q c e b = once_at key_of_cell (t, w) s.cells r
lower_room s p (key.Crown t) r q c e b = once_at key_of_crown (t, 0) s.crowns q
lower_room s p (key.Room w) r q c e b = lowest key_of_room s.room p (w, 0) c e (below_first w p b)
lower_room s p (key.Spare t) r q c e b = cc

lower_spare : (s : Rights) (p : ℕ × ℕ) (j : Key) → Rises key_of_cell s.cells → Rises key_of_crown s.crowns → Rises key_of_room s.room → Climbs key_of_spare s.spare → first_twin key_of_spare s.spare ≡ Some p → key_before j (key.Spare p.0) ≡ true → key_at s j ≤ 1
unfolding key_at
lower_spare s p (key.CellRight t w) r q n c e b = once_at key_of_cell (t, w) s.cells r
lower_spare s p (key.Crown t) r q n c e b = once_at key_of_crown (t, 0) s.crowns q
lower_spare s p (key.Room w) r q n c e b = once_at key_of_room (w, 0) s.room n
lower_spare s p (key.Spare t) r q n c e b = lowest key_of_spare s.spare p (t, 0) c e (below_first t p b)

twice_flat : {T : Type 0} (key_of : T → ℕ × ℕ) (xs : List T) (p : ℕ × ℕ) → ((y : T) → (key_of y).1 ≡ 0) → first_twin key_of xs ≡ Some p → 2 ≤ count_at key_of (p.0, 0) xs
twice_flat key_of xs p h e = rw (flat key_of xs p h e) at (twice key_of xs p e)

record IsLowest (s : Rights) (k : Key) : Type 0 where
  twice : 2 ≤ key_at s k
  lowest : (j : Key) → key_before j k ≡ true → key_at s j ≤ 1

found : (s : Rights) (k : Key) (a b c d : Option (ℕ × ℕ)) → Climbs key_of_cell s.cells → Climbs key_of_crown s.crowns → Climbs key_of_room s.room → Climbs key_of_spare s.spare →
    first_twin key_of_cell s.cells ≡ a → first_twin key_of_crown s.crowns ≡ b → first_twin key_of_room s.room ≡ c → first_twin key_of_spare s.spare ≡ d → answer a b c d ≡ Some k → IsLowest s k
unfolding answer key_at
found s k (Some p) b c d u v w x ea eb ec ed e =
    let it : key.CellRight p.0 p.1 ≡ k = cc in
    rw (← it) (record { twice = twice key_of_cell s.cells p ea; lowest = λ j l. lower_cell s p j u ea l })
found s k None (Some p) c d u v w x ea eb ec ed e =
    let it : key.Crown p.0 ≡ k = cc in
    let r = rises key_of_cell s.cells u ea in
    rw (← it) (record { twice = twice_flat key_of_crown s.crowns p (λ y. refl) eb; lowest = λ j l. lower_crown s p j r v eb l })
found s k None None (Some p) d u v w x ea eb ec ed e =
    let it : key.Room p.0 ≡ k = cc in
    let r = rises key_of_cell s.cells u ea in
    let q = rises key_of_crown s.crowns v eb in
    rw (← it) (record { twice = twice_flat key_of_room s.room p (λ y. refl) ec; lowest = λ j l. lower_room s p j r q w ec l })
found s k None None None (Some p) u v w x ea eb ec ed e =
    let it : key.Spare p.0 ≡ k = cc in
    let r = rises key_of_cell s.cells u ea in
    let q = rises key_of_crown s.crowns v eb in
    let n = rises key_of_room s.room w ec in
    rw (← it) (record { twice = twice_flat key_of_spare s.spare p (λ y. refl) ed; lowest = λ j l. lower_spare s p j r q n x ed l })
found s k None None None None u v w x ea eb ec ed e = cc

-- the key that neighbours of the lists put in order share first is the lowest that stands twice
pub lowest_double : (r s : Rights) (k : Key) → IsInOrder r s → first_double s ≡ Some k → IsLowestDouble r k
unfolding answer
lowest_double r s k o e =
    let f = found s k (first_twin key_of_cell s.cells) (first_twin key_of_crown s.crowns) (first_twin key_of_room s.room) (first_twin key_of_spare s.spare) o.cells_climb o.crowns_climb o.room_climb o.spare_climb refl refl refl refl e in
    record { twice = rw (count_is r s k o) f.twice; lowest = λ j b. rw (count_is r s j o) (f.lowest j b) }

-- ---- the parcel of lists in order

-- lists that rise still do without their amounts of 0
pub parcel_ordered : (s : Rights) (n : List Room) (m : List Spare) → n ≡ filter (λ x. nat_lt 0 x.amount) s.room → m ≡ filter (λ x. nat_lt 0 x.amount) s.spare → IsOrdered s → IsOrdered (record s { room = n; spare = m })
parcel_ordered s n m en em o = record {
  cells = o.cells;
  crowns = o.crowns;
  room = rw en (rises_kept key_of_room (λ x. nat_lt 0 x.amount) s.room o.room);
  spare = rw em (rises_kept key_of_spare (λ x. nat_lt 0 x.amount) s.spare o.spare);
}

-- and all amounts are positive then
pub parcel_positive : (s : Rights) (n : List Room) (m : List Spare) → n ≡ filter (λ x. nat_lt 0 x.amount) s.room → m ≡ filter (λ x. nat_lt 0 x.amount) s.spare → IsPositive (record s { room = n; spare = m })
parcel_positive s n m en em = record {
  room = rw en (positive_kept (λ (x : Room). x.amount) s.room);
  spare = rw em (positive_kept (λ (x : Spare). x.amount) s.spare);
}

-- lists put in order, without their amounts of 0, have the rights of those that they were made of
pub parcel_sorted : (r s : Rights) (n : List Room) (m : List Spare) → n ≡ filter (λ x. nat_lt 0 x.amount) s.room → m ≡ filter (λ x. nat_lt 0 x.amount) s.spare → IsInOrder r s → IsSortedFrom r (record s { room = n; spare = m })
parcel_sorted r s n m en em o = record {
  cells = same_elements r.cells s.cells o.cells;
  crowns = same_elements r.crowns s.crowns o.crowns;
  room = rw en (same_kept (λ x. nat_lt 0 x.amount) r.room s.room o.room);
  spare = rw em (same_kept (λ x. nat_lt 0 x.amount) r.spare s.spare o.spare);
}
