-- The rights that the pool is filled with are true of a settled placement.
use Rattle.std.proofs.Common.{◌≡◌, ◌+◌, length, refl, sym, ap, ◌∙◌, subst}
use Rattle.sm_server.specs.declared.call.Cell.TheVariants.{Absent}
use Rattle.sm_placement.specs.Setup.{sizes_of}
use Rattle.sm_placement.specs.Layout.{place_of}
use Rattle.sm_placement.proofs.GridLemmas.{grid_of-beside}
use Rattle.sm_reservation.specs.Hold.{Hold}
use Rattle.sm_reservation.specs.Amounts.{count, bound}
use Rattle.sm_reservation.specs.Truth.{IsTrueOf}
use Rattle.sm_reservation.specs.Pool.{pool_hold, true_rights, leads_of}
use Rattle.sm_reservation.proofs.TrueRights.{true_rights_hold, true_rights_whole}
use Rattle.sm_reservation.proofs.pool.Pool.open.Goals as goal

pub returns-clause-truth : goal.returns-clause-truth
returns-clause-truth c =
    let now = c.args.placement.now in
    let e : pool_hold c.put_spares.new.pool ≡ true_rights (sizes_of now.setup) (place_of now) = rw (c.put_spares.ensures.hold, c.put_rooms.ensures.hold, c.put_crowns.ensures.hold, c.put_cells.ensures.hold) refl in
    subst (λ (h : Hold). IsTrueOf (sizes_of now.setup) (place_of now) (leads_of (sizes_of now.setup) (place_of now)) h) (sym e) (true_rights_hold now.setup (place_of now) c.requires (λ s v l. grid_of-beside (length now.setup.servers) Absent now.cells s v l))

pub returns-clause-whole : goal.returns-clause-whole
returns-clause-whole c =
    let now = c.args.placement.now in
    let e : pool_hold c.put_spares.new.pool ≡ true_rights (sizes_of now.setup) (place_of now) = rw (c.put_spares.ensures.hold, c.put_rooms.ensures.hold, c.put_crowns.ensures.hold, c.put_cells.ensures.hold) refl in
    λ r k. ap (λ (h : Hold). count h r + bound (sizes_of now.setup) (place_of now) r) e ∙ true_rights_whole now.setup (place_of now) c.requires (λ s v l. grid_of-beside (length now.setup.servers) Absent now.cells s v l) r k
