-- The tests by which declared rights are gone through, and the first key that does not pass.
-- The law `finds_holding` says without any of them what `first_holding` finds. `IsFree` is internal: you need not read
-- it for the public contracts.
use Rattle.std.specs.Prelude.{ℕ, Bool, ◌&&◌, not, is_some, Option, List, find, option_map}
use Rattle.std.specs.List.{list_any}
use Rattle.sm_reservation.specs.declared.right.CellRight.{CellRight}
use Rattle.sm_reservation.specs.declared.right.Crown.{Crown}
use Rattle.sm_reservation.specs.declared.right.Key.{Key}
use Rattle.sm_reservation.specs.declared.right.Key.TheVariants as key
use Rattle.sm_reservation.specs.Rights.{Rights}
use Rattle.sm_reservation.specs.Hold.{Hold}
use Rattle.sm_reservation.specs.HoldOf.{hold_of}
use Rattle.sm_reservation.specs.Amounts.{is_cell, is_crown}
use Rattle.sm_plan_code.specs.Plan.{StreamModel}
use Rattle.sm_verifier.specs.Admission.{Has, Agree, declared}

-- the hold has this cell right, in just that state
abbrev pub holds_cell : Hold → CellRight → Bool
holds_cell h x = is_cell x.state (h.cells x.shard x.server)

-- the hold has this crown, in just that state
abbrev pub holds_crown : Hold → Crown → Bool
holds_crown h x = is_crown x.lead x.listed (h.crowns x.shard)

-- the pool has this cell right in just that state, and none of the streams declares its key
abbrev pub is_free_cell : Hold → List StreamModel → CellRight → Bool
is_free_cell pool streams x = holds_cell pool x && not (list_any (λ stream. is_some ((hold_of stream.holds).cells x.shard x.server)) streams)

-- the pool has this crown in just that state, and none of the streams declares its key
abbrev pub is_free_crown : Hold → List StreamModel → Crown → Bool
is_free_crown pool streams x = holds_crown pool x && not (list_any (λ stream. is_some ((hold_of stream.holds).crowns x.shard)) streams)

-- the key of the first cell right that does not pass
abbrev pub first_cell : (CellRight → Bool) → List CellRight → Option Key
first_cell test cells = option_map (λ x. key.CellRight x.shard x.server) (find (λ x. not (test x)) cells)

-- the key of the first crown that does not pass
abbrev pub first_crown : (Crown → Bool) → List Crown → Option Key
first_crown test crowns = option_map (λ x. key.Crown x.shard) (find (λ x. not (test x)) crowns)

-- what a parcel has at a key is in the pool, and none of the streams declares that key
abbrev pub IsFree : Hold → List StreamModel → Rights → Key → Type 0
IsFree pool streams r k = Has (hold_of r) k → Agree (hold_of r) pool k × ((j : ℕ) → ¬ Has (declared streams j) k)
