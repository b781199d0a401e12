-- A table in which nothing is wrong is a placement.
use Rattle.std.proofs.Common.{◌∙◌, sym, subst}
use Rattle.sm_placement.specs.Setup.{sizes_of}
use Rattle.sm_placement.specs.Place.{Place}
use Rattle.sm_placement.specs.Layout.{IsPlacement}
use Rattle.sm_placement.specs.Opening.{unpublished}
use Rattle.sm_placement.proofs.Openings.{stands_from, grid_placement, unpublished_is}
use Rattle.sm_placement.proofs.opening.stand.Goals as goal

pub from_parts-requires-clause-placement : goal.from_parts-requires-clause-placement
from_parts-requires-clause-placement c =
    let stands = stands_from (sizes_of c.args.table.setup) (unpublished c.args.table c.args.listed.now c.args.limit) (sym c.standing_fault.ensures ∙ c.in_default.is) in
    let is = grid_placement c.args.table c.args.listed.now c.args.limit (c.config.ensures.layout) c.requires.len c.requires.known stands in
    rw c.in_ok-listed.ensures.items (subst (λ (p : Place). IsPlacement (sizes_of c.args.table.setup) p) (sym (unpublished_is c.args.table c.args.listed.now c.in_ok-versions.versions.items _ c.args.limit (c.in_ok-versions.ensures.items_if_clones_equal (λ y h. h)))) is)

pub returns-clause-ok : goal.returns-clause-ok
returns-clause-ok c =
    rw (c.from_parts.ensures, c.in_ok-listed.ensures.items) (unpublished_is c.args.table c.args.listed.now c.in_ok-versions.versions.items _ c.args.limit (c.in_ok-versions.ensures.items_if_clones_equal (λ y h. h)))
