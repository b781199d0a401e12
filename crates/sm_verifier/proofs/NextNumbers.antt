-- The next number at which there is something: in rows, in two lists together, and in streams.
use Rattle.std.proofs.Common.{◌≡◌, ℕ, zero, suc, ◌+◌, ◌<◌, ◌≤◌, true, false, Option, Some, None, List, [], ◌∷◌, length, get_or, refl, sym, subst, ◌∙◌, ap, inl, inr, arith}
use Rattle.std.specs.Prelude.{nat_lt, sum_by, take}
use Rattle.std.specs.List.Sorted.{IsPartitionPoint, IsPartitionedBy}
use Rattle.std.proofs.lemmas.Bool.{cases_Bool}
use Rattle.std.proofs.lemmas.Bool.Decides.{nat_tests}
use Rattle.std.proofs.lemmas.List.Sums.{sum_by_more}
use Rattle.sm_reservation.specs.Rows.{same, before, amount_at, AllAfter, Rises, HasPositive}
use Rattle.sm_reservation.proofs.Places.{same_here}
use Rattle.sm_reservation.proofs.RowLemmas.{none_after, AllAfter-trans}
use Rattle.sm_reservation.proofs.Search.{rows_before_first}
use Rattle.sm_reservation.specs.declared.right.Room.{Room}
use Rattle.sm_reservation.specs.declared.right.Spare.{Spare}
use Rattle.sm_reservation.specs.Rights.{Rights}
use Rattle.sm_reservation.specs.Key.{key_of_room, key_of_spare}
use Rattle.sm_reservation.specs.HoldOf.{hold_of}
use Rattle.sm_plan_code.specs.Plan.{StreamModel}
use Rattle.sm_verifier.specs.Admission.{declared_room, declared_spare}
use Rattle.sm_verifier.specs.Downs.{lower_number}
use Rattle.sm_verifier.specs.Next.{IsNextOrNone, next_number}

-- ---- keys of one number each

before_by_number : (a b : ℕ) → before (a, 0) (b, 0) ≡ nat_lt a b
before_by_number a b = grind (arith, nat_tests)

apart_below : (a b : ℕ) → a < b → same (a, 0) (b, 0) ≡ false
apart_below a b less = grind (arith, nat_tests)

apart_above : (a b : ℕ) → b < a → same (a, 0) (b, 0) ≡ false
apart_above a b less = grind (arith, nat_tests)

before_below : (a b : ℕ) → a < b → before (a, 0) (b, 0) ≡ true
before_below a b less = grind (arith, nat_tests)

less_from : (a b : ℕ) → nat_lt a b ≡ true → a < b
less_from a b e = grind (arith, nat_tests)

not_less_from : (a b : ℕ) → nat_lt a b ≡ false → b ≤ a
not_less_from a b e = grind (arith, nat_tests)

-- ---- rows

-- the rows below a number stand at the front
pub below_first : {T : Type 0} (number : T → ℕ) (xs : List T) (from : ℕ) → Rises (λ x. (number x, 0)) xs → IsPartitionedBy (λ x. nat_lt (number x) from) xs
below_first number xs from rises i j d le lt e =
    let parts = rows_before_first (λ x. (number x, 0)) (from, 0) xs rises i j d le lt (before_by_number (number (get_or xs j d)) from ∙ e) in
    sym (before_by_number (number (get_or xs i d)) from) ∙ parts

-- where the search ends at a row, that is the first one not below the number
pub next_at : {T : Type 0} (number : T → ℕ) (xs : List T) (from i : ℕ) (v : T) → i < length xs → v ≡ get_or xs i v → IsPartitionPoint (λ x. nat_lt (number x) from ≡ true) (λ x. nat_lt (number x) from ≡ false) xs i → Some (number v) ≡ next_number number xs from
next_at number [] from i v lt is parts = absurd (omega arith)
next_at number (x ∷ xs) from zero v lt is parts = rw (parts.1 0 x (omega arith) (omega arith)) (ap (λ y. Some (number y)) is)
next_at number (x ∷ xs) from (suc i) v lt is parts = rw (parts.0 0 x (omega arith) (omega arith)) (next_at number xs from i v (omega arith) is (λ j d low less. parts.0 (suc j) d (omega arith) (omega arith), λ j d low less. parts.1 (suc j) d (omega arith) (omega arith)))

-- where it ends behind the last row, there is none
pub next_past : {T : Type 0} (number : T → ℕ) (xs : List T) (from i : ℕ) → length xs ≤ i → IsPartitionPoint (λ x. nat_lt (number x) from ≡ true) (λ x. nat_lt (number x) from ≡ false) xs i → None ≡ next_number number xs from
next_past number [] from i past parts = refl
next_past number (x ∷ xs) from zero past parts = absurd (omega arith)
next_past number (x ∷ xs) from (suc i) past parts = rw (parts.0 0 x (omega arith) (omega arith)) (next_past number xs from i (omega arith) (λ j d low less. parts.0 (suc j) d (omega arith) (omega arith), λ j d low less. parts.1 (suc j) d (omega arith) (omega arith)))

-- nothing is at the numbers below all rows
none_below : {T : Type 0} (number amount : T → ℕ) (x : T) (xs : List T) (m : ℕ) → AllAfter (λ y. (number y, 0)) (number x, 0) xs → m < number x → amount_at (λ y. (number y, 0)) amount xs (m, 0) ≡ 0
none_below number amount x xs m after less =
    let none = none_after (λ y. (number y, 0)) (m, 0) (m, 0) xs (AllAfter-trans (λ y. (number y, 0)) (m, 0) (number x, 0) xs (before_below m (number x) less) after) (same_here (m, 0)) in
    rw none refl

-- what is the same from a number on has the same next number
same_next : (f g : ℕ → ℕ) (from : ℕ) (o : Option ℕ) → ((m : ℕ) → from ≤ m → f m ≡ g m) → IsNextOrNone f from o → IsNextOrNone g from o
same_next f g from (Some n) equal next = record {
  behind = next.behind;
  some = rw (← equal n next.behind) next.some;
  nothing = λ m le lt. sym (equal m le) ∙ next.nothing m le lt;
}
same_next f g from None equal none = λ m le. sym (equal m le) ∙ none m le

-- the first row that is not below a number is the next one
pub next_of_rows : {T : Type 0} (number amount : T → ℕ) (xs : List T) (from : ℕ) → Rises (λ x. (number x, 0)) xs → HasPositive amount xs → IsNextOrNone (λ m. amount_at (λ x. (number x, 0)) amount xs (m, 0)) from (next_number number xs from)
next_of_rows number amount [] from rises positive = λ m le. refl
next_of_rows number amount (x ∷ xs) from rises positive = elim (cases_Bool (nat_lt (number x) from)) [
  | inl less ↦
      let below = less_from (number x) from less in
      let rest = next_of_rows number amount xs from rises.1 positive.1 in
      rw less (same_next (λ m. amount_at (λ y. (number y, 0)) amount xs (m, 0)) (λ m. amount_at (λ y. (number y, 0)) amount (x ∷ xs) (m, 0)) from (next_number number xs from) (λ m le. rw (apart_below (number x) m (omega arith)) refl) rest)
  | inr past ↦ rw past (record {
    behind = not_less_from (number x) from past;
    some = rw (same_here (number x, 0)) positive.0;
    nothing = λ m le lt. rw (apart_above (number x) m lt) (none_below number amount x xs m rises.0 lt);
  })
]

-- ---- two together

-- the next number of two together is the lower one of theirs
pub next_of_both : (f g : ℕ → ℕ) (from : ℕ) (a b : Option ℕ) → IsNextOrNone f from a → IsNextOrNone g from b → IsNextOrNone (λ m. f m + g m) from (lower_number a b)
next_of_both f g from None None p q = λ m le. let x = p m le in let y = q m le in omega arith
next_of_both f g from None (Some w) p q = record {
  behind = q.behind;
  some = let x = q.some in omega arith;
  nothing = λ m le lt. let x = p m le in let y = q.nothing m le lt in omega arith;
}
next_of_both f g from (Some v) None p q = record {
  behind = p.behind;
  some = let x = p.some in omega arith;
  nothing = λ m le lt. let x = p.nothing m le lt in let y = q m le in omega arith;
}
next_of_both f g from (Some v) (Some w) p q = elim (cases_Bool (nat_lt w v)) [
  | inl less ↦
      let below = less_from w v less in
      rw less (record {
        behind = q.behind;
        some = let x = q.some in omega arith;
        nothing = λ m le lt. let x = p.nothing m le (omega arith) in let y = q.nothing m le lt in omega arith;
      })
  | inr past ↦
      let above = not_less_from w v past in
      rw past (record {
        behind = p.behind;
        some = let x = p.some in omega arith;
        nothing = λ m le lt. let x = p.nothing m le lt in let y = q.nothing m le (omega arith) in omega arith;
      })
]

-- ---- streams

-- the next number of one stream more
pub next_with : (f : StreamModel → ℕ → ℕ) (xs : List StreamModel) (i : ℕ) (stream : StreamModel) (from : ℕ) (next row : Option ℕ) → i < length xs → stream ≡ get_or xs i stream →
    IsNextOrNone (λ m. sum_by (λ s. f s m) (take i xs)) from next → IsNextOrNone (f stream) from row → IsNextOrNone (λ m. sum_by (λ s. f s m) (take (i + 1) xs)) from (lower_number next row)
next_with f xs i stream from next row lt is before here =
    same_next (λ m. sum_by (λ s. f s m) (take i xs) + f stream m) (λ m. sum_by (λ s. f s m) (take (i + 1) xs)) from (lower_number next row)
    (λ m le. sym (sum_by_more (λ s. f s m) xs i stream lt ∙ ap (λ s. sum_by (λ s. f s m) (take i xs) + f s m) (sym is)))
    (next_of_both (λ m. sum_by (λ s. f s m) (take i xs)) (f stream) from next row before here)

-- of a parcel's room, whose rows are in order and not of 0
pub next_room_of : (r : Rights) (from : ℕ) → Rises key_of_room r.room → HasPositive (λ x. x.amount) r.room → IsNextOrNone (hold_of r).room from (next_number (λ (x : Room). x.server) r.room from)
unfolding hold_of
next_room_of r from rises positive = next_of_rows (λ (x : Room). x.server) (λ x. x.amount) r.room from rises positive

-- the same of its spare replicas
pub next_spare_of : (r : Rights) (from : ℕ) → Rises key_of_spare r.spare → HasPositive (λ x. x.amount) r.spare → IsNextOrNone (hold_of r).spare from (next_number (λ (x : Spare). x.shard) r.spare from)
unfolding hold_of
next_spare_of r from rises positive = next_of_rows (λ (x : Spare). x.shard) (λ x. x.amount) r.spare from rises positive

-- of streams with one more, by the room of its parcel
pub next_room_with : (xs : List StreamModel) (i : ℕ) (stream seen : StreamModel) (from : ℕ) (next row both : Option ℕ) (rows : List Room) → i < length xs → stream ≡ get_or xs i stream → seen ≡ stream → rows ≡ seen.holds.room → Rises key_of_room rows → HasPositive (λ x. x.amount) rows →
    IsNextOrNone (declared_room (take i xs)) from next → row ≡ next_number (λ (x : Room). x.server) rows from → both ≡ lower_number next row → IsNextOrNone (declared_room (take (i + 1) xs)) from both
next_room_with xs i stream seen from next row both rows lt is same here rises positive before found lower =
    let at : rows ≡ stream.holds.room = here ∙ ap (λ (s : StreamModel). s.holds.room) same in
    let order : Rises key_of_room stream.holds.room = subst (λ r. Rises key_of_room r) at rises in
    let some : HasPositive (λ (x : Room). x.amount) stream.holds.room = subst (λ r. HasPositive (λ (x : Room). x.amount) r) at positive in
    let first : row ≡ next_number (λ (x : Room). x.server) stream.holds.room from = found ∙ ap (λ r. next_number (λ (x : Room). x.server) r from) at in
    subst (λ o. IsNextOrNone (declared_room (take (i + 1) xs)) from o) (sym (lower ∙ ap (λ r. lower_number next r) first))
    (next_with (λ s. (hold_of s.holds).room) xs i stream from next (next_number (λ (x : Room). x.server) stream.holds.room from) lt is before (next_room_of stream.holds from order some))

-- the same, by its spare replicas
pub next_spare_with : (xs : List StreamModel) (i : ℕ) (stream seen : StreamModel) (from : ℕ) (next row both : Option ℕ) (rows : List Spare) → i < length xs → stream ≡ get_or xs i stream → seen ≡ stream → rows ≡ seen.holds.spare → Rises key_of_spare rows → HasPositive (λ x. x.amount) rows →
    IsNextOrNone (declared_spare (take i xs)) from next → row ≡ next_number (λ (x : Spare). x.shard) rows from → both ≡ lower_number next row → IsNextOrNone (declared_spare (take (i + 1) xs)) from both
next_spare_with xs i stream seen from next row both rows lt is same here rises positive before found lower =
    let at : rows ≡ stream.holds.spare = here ∙ ap (λ (s : StreamModel). s.holds.spare) same in
    let order : Rises key_of_spare stream.holds.spare = subst (λ r. Rises key_of_spare r) at rises in
    let some : HasPositive (λ (x : Spare). x.amount) stream.holds.spare = subst (λ r. HasPositive (λ (x : Spare). x.amount) r) at positive in
    let first : row ≡ next_number (λ (x : Spare). x.shard) stream.holds.spare from = found ∙ ap (λ r. next_number (λ (x : Spare). x.shard) r from) at in
    subst (λ o. IsNextOrNone (declared_spare (take (i + 1) xs)) from o) (sym (lower ∙ ap (λ r. lower_number next r) first))
    (next_with (λ s. (hold_of s.holds).spare) xs i stream from next (next_number (λ (x : Spare). x.shard) stream.holds.spare from) lt is before (next_spare_of stream.holds from order some))
