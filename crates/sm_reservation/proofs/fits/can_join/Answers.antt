-- Each list of the rights has a test of its own, and where one of them fails nothing can be joined.
use Rattle.std.proofs.Common.{sym, ◌∙◌}
use Rattle.sm_reservation.specs.Key.{lists}
use Rattle.sm_reservation.proofs.FitLemmas.{cells_pass, crowns_pass, rooms_pass, spares_pass, passes_join}
use Rattle.sm_reservation.proofs.fits.can_join.Goals as goal

pub returns-then-not-lacks_cells : goal.returns-then-not-lacks_cells
returns-then-not-lacks_cells g c =
    let p = lists c.args.cells.now c.args.crowns.now c.args.rooms.now c.args.spares.now in
    (λ t. cc, λ can. let passes = cells_pass (g.H.ByKey.hold c.args.held.now) p c.requires can in cc)

pub returns-then-not-lacks_crowns : goal.returns-then-not-lacks_crowns
returns-then-not-lacks_crowns g c =
    let p = lists c.args.cells.now c.args.crowns.now c.args.rooms.now c.args.spares.now in
    (λ t. cc, λ can. let passes = crowns_pass (g.H.ByKey.hold c.args.held.now) p c.requires can in cc)

pub returns-then-not-adds_rooms : goal.returns-then-not-adds_rooms
returns-then-not-adds_rooms g c =
    let p = lists c.args.cells.now c.args.crowns.now c.args.rooms.now c.args.spares.now in
    (λ t. cc, λ can. let passes = rooms_pass (g.H.ByKey.hold c.args.held.now) p c.requires can in cc)

pub returns : goal.returns
returns g c =
    let p = lists c.args.cells.now c.args.crowns.now c.args.rooms.now c.args.spares.now in
    let h = g.H.ByKey.hold c.args.held.now in (
      λ t. passes_join h p c.amounts_fit.ensures.room c.amounts_fit.ensures.spare (sym c.lacks_cells.ensures ∙ c.if-not-lacks_cells.false) (sym c.lacks_crowns.ensures ∙ c.if-not-lacks_crowns.false) (sym c.adds_rooms.ensures ∙ c.if-not-adds_rooms.false) (sym c.adds_spares.ensures ∙ t),
      λ can. c.adds_spares.ensures ∙ spares_pass h p c.requires can,
    )
