-- Crowns at rest: in a list, and in the hold that the list is.
use Rattle.std.proofs.Common.{◌≡◌, ℕ, true, List, [], ◌∷◌, inl, inr}
use Rattle.std.specs.Prelude.{IfSome}
use Rattle.std.specs.List.{AllByRecursion}
use Rattle.std.proofs.lemmas.Bool.{cases_Bool}
use Rattle.sm_placement.specs.Lead.{is_at_rest}
use Rattle.sm_reservation.specs.declared.right.Crown.{Crown}
use Rattle.sm_reservation.specs.Rights.{Rights}
use Rattle.sm_reservation.specs.Rows.{same, row_at, Rises}
use Rattle.sm_reservation.specs.Key.{key_of_crown}
use Rattle.sm_reservation.specs.HoldOf.{hold_of, crown_of}
use Rattle.sm_reservation.proofs.Places.{same_here}
use Rattle.sm_reservation.proofs.RowLemmas.{none_after}
use Rattle.sm_verifier.specs.Stream.{HasCrownsAtRest}

-- the crown at a key is at rest, where there is one
abbrev RestsAt : List Crown → ℕ → Type 0
RestsAt xs s = IfSome (crown_of (row_at key_of_crown xs (s, 0))) (λ crown. is_at_rest crown.0 ≡ true)

rests_at : (xs : List Crown) (s : ℕ) → AllByRecursion (λ x. is_at_rest x.lead ≡ true) xs → RestsAt xs s
rests_at [] s all = tt
rests_at (x ∷ xs) s all = elim (cases_Bool (same (key_of_crown x) (s, 0))) [
  | inl e ↦ rw e all.0
  | inr e ↦ rw e (rests_at xs s all.1)
]

all_rest : (xs : List Crown) → Rises key_of_crown xs → ((s : ℕ) → RestsAt xs s) → AllByRecursion (λ x. is_at_rest x.lead ≡ true) xs
all_rest [] rises at = tt
all_rest (x ∷ xs) rises at =
    let rest : (s : ℕ) → RestsAt xs s = λ s. elim (cases_Bool (same (key_of_crown x) (s, 0))) [
      | inl e ↦ rw (none_after key_of_crown (key_of_crown x) (s, 0) xs rises.0 e) tt
      | inr e ↦ rw e at (at s)
    ] in
    (rw (same_here (x.shard, 0)) at (at x.shard), all_rest xs rises.1 rest)

-- where all crowns of the list are at rest, so are those of the hold
pub settled_from_rows : (r : Rights) → AllByRecursion (λ x. is_at_rest x.lead ≡ true) r.crowns → HasCrownsAtRest (hold_of r)
unfolding hold_of
settled_from_rows r all s = rests_at r.crowns s all

-- where those of the hold are, so are all of the list
pub rows_from_settled : (r : Rights) → Rises key_of_crown r.crowns → HasCrownsAtRest (hold_of r) → AllByRecursion (λ x. is_at_rest x.lead ≡ true) r.crowns
unfolding hold_of
rows_from_settled r rises settled = all_rest r.crowns rises settled
