-- The rights that are taken out are those of the parcel.
use Rattle.std.proofs.Common.{◌≡◌, ◌+◌, ◌∙◌, ap, refl, sym, subst}
use Rattle.sm_reservation.specs.Hold.{Hold, minus}
use Rattle.sm_reservation.specs.HoldOf.{hold_of}
use Rattle.sm_reservation.specs.Amounts.{count}
use Rattle.sm_reservation.specs.CanJoin.{CanJoin}
use Rattle.sm_reservation.specs.Pool.{pool_hold}
use Rattle.sm_reservation.proofs.ParcelRows.{ordered_by, covered_below}
use Rattle.sm_reservation.proofs.ParcelSums.{covers, minus_count, minus_joins}
use Rattle.sm_reservation.proofs.pool.Pool.take_parcel.Goals as goal

pub returns-clause-sums : goal.returns-clause-sums
returns-clause-sums c r =
    let p = c.args.parcel.now in
    let ordered = ordered_by p _ _ _ _ c.cells.ensures.value c.crowns.ensures.value c.room.ensures.value c.spare.ensures.value c.cells.ensures.order c.crowns.ensures.order c.room.ensures.order c.spare.ensures.order in
    let e : pool_hold c.take_spares.new.pool ≡ minus (pool_hold c.args.self.now) p = rw (c.take_spares.ensures.hold, c.take_rooms.ensures.hold, c.take_crowns.ensures.hold, c.take_cells.ensures.hold, c.cells.ensures.value, c.crowns.ensures.value, c.room.ensures.value, c.spare.ensures.value) refl in
    ap (λ (h : Hold). count h r + count (hold_of p) r) e ∙ minus_count (pool_hold c.args.self.now) p ordered c.requires r

pub returns-clause-fits : goal.returns-clause-fits
returns-clause-fits c =
    let p = c.args.parcel.now in
    let ordered = ordered_by p _ _ _ _ c.cells.ensures.value c.crowns.ensures.value c.room.ensures.value c.spare.ensures.value c.cells.ensures.order c.crowns.ensures.order c.room.ensures.order c.spare.ensures.order in
    let e : pool_hold c.take_spares.new.pool ≡ minus (pool_hold c.args.self.now) p = rw (c.take_spares.ensures.hold, c.take_rooms.ensures.hold, c.take_crowns.ensures.hold, c.take_cells.ensures.hold, c.cells.ensures.value, c.crowns.ensures.value, c.room.ensures.value, c.spare.ensures.value) refl in
    subst (λ (h : Hold). CanJoin h (hold_of p)) (sym e) (minus_joins (pool_hold c.args.self.now) p ordered c.requires c.entries_are_u64.ensures.room c.entries_are_u64.ensures.spare)

pub returns-clause-below : goal.returns-clause-below
returns-clause-below c =
    let now = c.args.self.now in
    rw (c.take_spares.ensures.size.shards, c.take_rooms.ensures.size.shards, c.take_crowns.ensures.size.shards, c.take_cells.ensures.size.shards, c.take_spares.ensures.size.servers, c.take_rooms.ensures.size.servers, c.take_crowns.ensures.size.servers, c.take_cells.ensures.size.servers)
    (covered_below now.shards now.servers (pool_hold now) (hold_of c.args.parcel.now) c.shard_count.ensures.within (covers (pool_hold now) c.args.parcel.now c.requires))
