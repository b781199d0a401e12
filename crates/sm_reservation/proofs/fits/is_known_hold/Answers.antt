-- Each list has a test of its own, and where one of them fails some right is of a shard or a server that isn't known.
use Rattle.std.proofs.Common.{sym, ◌∙◌}
use Rattle.sm_reservation.proofs.FitLemmas.{known_below, cells_pass_known, cells_known_by_test, pass_below, below_by_test}
use Rattle.sm_reservation.proofs.ParcelRows.{cells_known, crowns_known, rooms_known, spares_known}
use Rattle.sm_reservation.specs.declared.right.Crown.{Crown}
use Rattle.sm_reservation.specs.declared.right.Room.{Room}
use Rattle.sm_reservation.specs.declared.right.Spare.{Spare}
use Rattle.sm_reservation.proofs.fits.is_known_hold.Goals as goal

pub returns-then-not-knows_cells : goal.returns-then-not-knows_cells
returns-then-not-knows_cells c =
    let r = c.args.hold.now.rights in
    let tested = rw c.cells-cells.ensures.value at c.knows_cells.ensures in
    (λ t. cc, λ is. let passes = cells_pass_known c.args.shards c.args.servers r.cells (cells_known c.args.shards c.args.servers r c.rights_in_order.ensures.order.cells is) in cc)

pub returns-then-not-knows_crowns : goal.returns-then-not-knows_crowns
returns-then-not-knows_crowns c =
    let r = c.args.hold.now.rights in
    let tested = rw c.crowns-crowns.ensures.value at c.knows_crowns.ensures in
    (λ t. cc, λ is. let passes = pass_below (λ (x : Crown). x.shard) c.args.shards r.crowns (crowns_known c.args.shards c.args.servers r c.rights_in_order.ensures.order.crowns is) in cc)

pub returns-then-not-knows_rooms : goal.returns-then-not-knows_rooms
returns-then-not-knows_rooms c =
    let r = c.args.hold.now.rights in
    let tested = rw c.rooms-rooms.ensures.value at c.knows_rooms.ensures in
    (λ t. cc, λ is. let passes = pass_below (λ (x : Room). x.server) c.args.servers r.room (rooms_known c.args.shards c.args.servers r c.rights_in_order.ensures.order.room c.rights_in_order.ensures.positive.room is) in cc)

pub returns : goal.returns
returns c =
    let r = c.args.hold.now.rights in
    let cells = rw c.cells-cells.ensures.value at c.knows_cells.ensures in
    let crowns = rw c.crowns-crowns.ensures.value at c.knows_crowns.ensures in
    let rooms = rw c.rooms-rooms.ensures.value at c.knows_rooms.ensures in
    let spares = rw c.spares-spares.ensures.value at c.knows_spares.ensures in (
      λ t. known_below c.args.shards c.args.servers r (record {
        cells = cells_known_by_test c.args.shards c.args.servers r.cells (sym cells ∙ c.if-not-knows_cells.false);
        crowns = below_by_test (λ (x : Crown). x.shard) c.args.shards r.crowns (sym crowns ∙ c.if-not-knows_crowns.false);
        room = below_by_test (λ (x : Room). x.server) c.args.servers r.room (sym rooms ∙ c.if-not-knows_rooms.false);
        spare = below_by_test (λ (x : Spare). x.shard) c.args.shards r.spare (sym spares ∙ t);
      }),
      λ is. spares ∙ pass_below (λ (x : Spare). x.shard) c.args.shards r.spare (spares_known c.args.shards c.args.servers r c.rights_in_order.ensures.order.spare c.rights_in_order.ensures.positive.spare is),
    )
