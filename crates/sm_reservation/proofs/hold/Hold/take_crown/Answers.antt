use Rattle.std.proofs.Common.{◌∷◌, [], arith}
use Rattle.std.specs.Prelude.{None}
use Rattle.sm_placement.specs.declared.lead.Lead.TheVariants.{Gone}
use Rattle.sm_reservation.specs.declared.right.Crown.{Crown}
use Rattle.sm_reservation.specs.HoldView.{lists_of}
use Rattle.sm_reservation.proofs.EditedHolds.{crowns_taken, crowns_lost}
use Rattle.sm_reservation.proofs.hold.Hold.take_crown.Goals as goal

pub invariant_of-self : goal.invariant_of-self
invariant_of-self c =
    let r = lists_of c.self.inside in
    let y : Crown = record { shard = c.args.shard; lead = Gone; listed = None } in
    let lost = crowns_lost r (y ∷ []) c.edit.ensures.order in
    record {
      positive = record { room = c.self.invariant.positive.room; spare = c.self.invariant.positive.spare };
      bounded = record { room = c.self.invariant.bounded.room; spare = c.self.invariant.bounded.spare };
      fits = record { cells = c.self.invariant.fits.cells; crowns = rw c.edit.ensures.items (omega (arith, lost, c.self.invariant.fits.crowns)); room = c.self.invariant.fits.room; spare = c.self.invariant.fits.spare };
      cells = c.self.invariant.cells;
      crowns = omega (arith, c.self.invariant.crowns, c.edit.ensures.capacity);
      room = c.self.invariant.room;
      spare = c.self.invariant.spare;
    }

pub returns-clause-rights : goal.returns-clause-rights
returns-clause-rights c =
    let y : Crown = record { shard = c.args.shard; lead = Gone; listed = None } in
    rw (← c.self.view_is, c.edit.ensures.items) (crowns_taken (lists_of c.self.inside) (y ∷ []) c.edit.ensures.order)

pub returns-clause-len : goal.returns-clause-len
returns-clause-len c =
    let r = lists_of c.self.inside in
    let y : Crown = record { shard = c.args.shard; lead = Gone; listed = None } in
    let lost = crowns_lost r (y ∷ []) c.edit.ensures.order in
    rw (← c.self.view_is, c.edit.ensures.items) (omega (arith, lost))
