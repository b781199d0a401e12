use Rattle.sm_planner.specs.Basis.{basis_of}
use Rattle.sm_planner.proofs.Keys.{listed_once}
use Rattle.sm_planner.proofs.writing.holds_of.Goals as goal

pub parcel-requires : goal.parcel-requires
parcel-requires c =
    listed_once (basis_of c.args.placement.now c.args.pool.now) c.args.draft.now.moves.items c.args.numbers.now
    c.in_ok-cells_of.field-0.items c.in_ok-crowns_of.field-0.items c.in_ok-rooms_of.field-0.items c.new.result.items
    c.in_ok-cells_of.ensures c.in_ok-crowns_of.ensures c.in_ok-rooms_of.ensures c.new.ensures.items c.requires.once
