-- The rights that nobody has are true of the placement.
use Rattle.std.proofs.Common.{◌≡◌, ℕ, Option, Some, None, IsSome, refl, sym, subst, inl, inr}
use Rattle.std.specs.Prelude.{◌==◌}
use Rattle.std.proofs.lemmas.Bool.{cases_Bool}
use Rattle.sm_placement.specs.declared.lead.Lead.{Lead}
use Rattle.sm_reservation.specs.declared.right.PlainCell.{PlainCell}
use Rattle.sm_reservation.specs.declared.right.Key.{Key}
use Rattle.sm_reservation.specs.declared.right.Key.TheVariants.{CellRight, Crown, Room, Spare}
use Rattle.sm_reservation.specs.Amounts.{Right, OfCell, OfCrown}
use Rattle.sm_reservation.specs.Pool.{true_rights, free_cell, free_crown}
use Rattle.sm_verifier.specs.Admission.{IsIn}
use Rattle.sm_protocol.specs.State.{State, pool, held}
use Rattle.sm_machine.specs.State.{Whole}
use Rattle.sm_machine.specs.Working.{IsWorking}

-- a right to a cell, or a crown, that is left is the one that there is
free_cell_is : (used : Right → ℕ) (s v : ℕ) (o : Option PlainCell) → IsSome (free_cell used s v o) → free_cell used s v o ≡ o
free_cell_is used s v None has = refl
free_cell_is used s v (Some state) has = elim (cases_Bool (used (OfCell s v state) == 0)) [
  | inl free ↦ rw free refl
  | inr not_free ↦ let h = rw not_free at has in cc
]

free_crown_is : (used : Right → ℕ) (s : ℕ) (o : Option (Lead × Option ℕ)) → IsSome (free_crown used s o) → free_crown used s o ≡ o
free_crown_is used s None has = refl
free_crown_is used s (Some crown) has = elim (cases_Bool (used (OfCrown s crown.0 crown.1) == 0)) [
  | inl free ↦ rw free refl
  | inr not_free ↦ let h = rw not_free at has in cc
]

pool_is_true : (w : State) (key : Key) → IsIn (pool w) (true_rights w.sizes w.place) key
pool_is_true w (CellRight s v) = free_cell_is (held w) s v ((true_rights w.sizes w.place).cells s v)
pool_is_true w (Crown s) = free_crown_is (held w) s ((true_rights w.sizes w.place).crowns s)
pool_is_true w (Room v) = λ has. absurd has
pool_is_true w (Spare s) = λ has. absurd has

-- each cell right and crown of a machine's pool is true of its placement
pub pool_true : (x : Whole) → IsWorking x → (key : Key) → IsIn x.pool (true_rights x.state.sizes x.state.place) key
pool_true x g = subst (λ h. (key : Key) → IsIn h (true_rights x.state.sizes x.state.place) key) (sym g.tied.pool) (pool_is_true x.state)
