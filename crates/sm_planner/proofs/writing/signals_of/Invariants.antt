use Rattle.std.proofs.Common.{◌≡◌, take, map}
use Rattle.sm_planner.specs.Basis.{basis_of}
use Rattle.sm_planner.specs.Plan.{handed_parcel}
use Rattle.sm_planner.proofs.writing.signals_of.Given as goal

abbrev pub invariant-loop-handed : goal.invariant-loop-handed
invariant-loop-handed l = l.parcels.items ≡ map (handed_parcel (basis_of l.placement l.pool) l.draft.moves.items) (take l.handed-index l.draft.signals.items)
