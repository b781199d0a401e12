-- The opening: a state that events lead to, and what a machine has of it. And such a state with another halt flag.
use Rattle.std.proofs.Common.{◌≡◌, ℕ, Bool, refl, arith, Option, Some, None, []}
use Rattle.std.specs.Prelude.{not}
use Rattle.std.proofs.lemmas.Bool.{and_parts}
use Rattle.sm_placement.specs.declared.lead.Lead.{Lead}
use Rattle.sm_placement.specs.Setup.{Setup, Sizes, sizes_of}
use Rattle.sm_placement.specs.Place.{Place}
use Rattle.sm_reservation.specs.declared.right.PlainCell.{PlainCell}
use Rattle.sm_reservation.specs.Hold.{Hold}
use Rattle.sm_reservation.specs.Pool.{true_rights}
use Rattle.sm_protocol.specs.State.{State, opened, progress_of, is_begun, held, pool, free_cell, free_crown}
use Rattle.sm_protocol.specs.Laws.{IsOpening, IsReached}
use Rattle.sm_protocol.proofs.Reached.{reached_by}
use Rattle.sm_protocol.proofs.Keeping.{begun as begun_of}
use Rattle.sm_machine.specs.Tied.{IsTied}
use Rattle.sm_reservation.proofs.ParcelSums.{same_hold}

-- ---- the opening

-- the state of an opening is one that events lead to
pub reached_opened : (setup : Setup) (p : Place) (room : ℕ) → IsOpening setup p room → IsReached setup (opened (sizes_of setup) p room)
reached_opened setup p room o = reached_by setup p room [] o tt

-- the pool has all that is true of the placement
pub pool_opened : (c : Sizes) (p : Place) (room : ℕ) → true_rights c p ≡ pool (opened c p room)
pool_opened c p room = same_hold (true_rights c p) (pool w)
    (λ s u. cell s u ((true_rights c p).cells s u))
    (λ s. crown s ((true_rights c p).crowns s))
    (λ u. omega arith)
    (λ s. omega arith)
  where
    w : State
    w = opened c p room

    cell : (s u : ℕ) (o : Option PlainCell) → o ≡ free_cell (held w) s u o
    cell s u None = refl
    cell s u (Some state) = refl

    crown : (s : ℕ) (o : Option (Lead × Option ℕ)) → o ≡ free_crown (held w) s o
    crown s None = refl
    crown s (Some x) = refl

-- a pool of all that is true of the placement is tied to the opening, which has neither grants nor parcels
pub tied_opened : (c : Sizes) (p : Place) (room : ℕ) (g d : ℕ → ℕ → Hold) → IsTied (opened c p room) (true_rights c p) g d
tied_opened c p room g d = record {
  pool = pool_opened c p room;
  grants = λ id e. absurd (
      let w = opened c p room in
      let b = begun_of w id (and_parts (is_begun w id) (not (progress_of w id).done) e).0 in
      let l = b.plan in
      omega arith);
  parcels = λ k q l m. absurd (omega arith);
}

-- a state that events lead to is one whatever its halt flag is
pub reached_halted : (setup : Setup) (w : State) → IsReached setup w → (flag : Bool) → IsReached setup (record w { halted = flag })
reached_halted setup w reached flag = record { place = reached.place; room = reached.room; events = reached.events; opening = reached.opening; fit = reached.fit; state = reached.state }
