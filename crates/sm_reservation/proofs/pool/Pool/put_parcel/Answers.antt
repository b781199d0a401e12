-- Each row of the parcel is of a known shard and server, and each amount fits.
use Rattle.std.proofs.Common.{◌≡◌, ◌∙◌, ap, refl}
use Rattle.sm_reservation.specs.Hold.{Hold, plus}
use Rattle.sm_reservation.specs.Amounts.{count}
use Rattle.sm_reservation.specs.Pool.{pool_hold}
use Rattle.sm_reservation.proofs.ParcelSums.{plus_count, apart_of}
use Rattle.sm_reservation.specs.HoldOf.{hold_of}
use Rattle.sm_reservation.proofs.ParcelRows.{ordered_by, cells_known, crowns_known, rooms_known, spares_known, rooms_fit_in, spares_fit_in}
use Rattle.sm_reservation.proofs.pool.Pool.put_parcel.Goals as goal

pub put_cells-requires : goal.put_cells-requires
put_cells-requires c =
    let p = c.args.parcel.now in
    record { known = rw c.cells-cells.ensures.value (cells_known c.args.self.now.shards c.args.self.now.servers p (rw c.cells-cells.ensures.value at c.cells-cells.ensures.order) c.requires.below) }

pub put_crowns-requires : goal.put_crowns-requires
put_crowns-requires c =
    let p = c.args.parcel.now in
    record {
      known = rw (c.crowns-crowns.ensures.value, c.put_cells.ensures.size.shards)
          (crowns_known c.args.self.now.shards c.args.self.now.servers p (rw c.crowns-crowns.ensures.value at c.crowns-crowns.ensures.order) c.requires.below);
    }

pub put_rooms-requires-clause-known : goal.put_rooms-requires-clause-known
put_rooms-requires-clause-known c =
    let p = c.args.parcel.now in
    rw (c.room-rooms.ensures.value, c.put_crowns.ensures.size.servers, c.put_cells.ensures.size.servers)
    (rooms_known c.args.self.now.shards c.args.self.now.servers p (rw c.room-rooms.ensures.value at c.room-rooms.ensures.order) (rw c.room-rooms.ensures.value at c.room-rooms.ensures.positive) c.requires.below)

pub put_rooms-requires-clause-fits : goal.put_rooms-requires-clause-fits
put_rooms-requires-clause-fits c =
    let p = c.args.parcel.now in
    rw (c.put_crowns.ensures.hold, c.put_cells.ensures.hold, c.cells-cells.ensures.value, c.crowns-crowns.ensures.value, c.room-rooms.ensures.value)
    (rooms_fit_in (pool_hold c.args.self.now) p (ordered_by p _ _ _ _ c.cells-cells.ensures.value c.crowns-crowns.ensures.value c.room-rooms.ensures.value c.spare-spares.ensures.value c.cells-cells.ensures.order c.crowns-crowns.ensures.order c.room-rooms.ensures.order c.spare-spares.ensures.order) c.requires.fits)

pub put_spares-requires-clause-known : goal.put_spares-requires-clause-known
put_spares-requires-clause-known c =
    let p = c.args.parcel.now in
    rw (c.spare-spares.ensures.value, c.put_rooms.ensures.size.shards, c.put_crowns.ensures.size.shards, c.put_cells.ensures.size.shards)
    (spares_known c.args.self.now.shards c.args.self.now.servers p (rw c.spare-spares.ensures.value at c.spare-spares.ensures.order) (rw c.spare-spares.ensures.value at c.spare-spares.ensures.positive) c.requires.below)

pub put_spares-requires-clause-fits : goal.put_spares-requires-clause-fits
put_spares-requires-clause-fits c =
    let p = c.args.parcel.now in
    rw (c.put_rooms.ensures.hold, c.put_crowns.ensures.hold, c.put_cells.ensures.hold, c.cells-cells.ensures.value, c.crowns-crowns.ensures.value, c.room-rooms.ensures.value, c.spare-spares.ensures.value)
    (spares_fit_in (pool_hold c.args.self.now) p (ordered_by p _ _ _ _ c.cells-cells.ensures.value c.crowns-crowns.ensures.value c.room-rooms.ensures.value c.spare-spares.ensures.value c.cells-cells.ensures.order c.crowns-crowns.ensures.order c.room-rooms.ensures.order c.spare-spares.ensures.order) c.requires.fits)

pub returns-clause-sums : goal.returns-clause-sums
returns-clause-sums c r =
    let p = c.args.parcel.now in
    let e : pool_hold c.put_spares.new.pool ≡ plus (pool_hold c.args.self.now) p = rw (c.put_spares.ensures.hold, c.put_rooms.ensures.hold, c.put_crowns.ensures.hold, c.put_cells.ensures.hold, c.cells-cells.ensures.value, c.crowns-crowns.ensures.value, c.room-rooms.ensures.value, c.spare-spares.ensures.value) refl in
    ap (λ (h : Hold). count h r) e ∙ plus_count (pool_hold c.args.self.now) p (ordered_by p _ _ _ _ c.cells-cells.ensures.value c.crowns-crowns.ensures.value c.room-rooms.ensures.value c.spare-spares.ensures.value c.cells-cells.ensures.order c.crowns-crowns.ensures.order c.room-rooms.ensures.order c.spare-spares.ensures.order) (apart_of (pool_hold c.args.self.now) (hold_of p) c.requires.fits) r
