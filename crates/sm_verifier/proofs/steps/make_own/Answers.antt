use Rattle.std.proofs.Common.{arith}
use Rattle.sm_reservation.specs.HoldOf.{hold_of}
use Rattle.sm_plan_code.proofs.Conditions.{change_joins, change_grows_room, change_grows_spare, change_has_capacity}
use Rattle.sm_verifier.proofs.steps.make_own.Goals as goal

pub change_of-requires : goal.change_of-requires
change_of-requires c = c.requires.fits.0

pub exchange-requires-clause-fits : goal.exchange-requires-clause-fits
exchange-requires-clause-fits c =
    change_joins (hold_of c.args.hold.now.rights) c.in-Ok.change c.in-Ok.ensures.small c.in-Ok.ensures.apart c.requires.amounts.room c.requires.amounts.spare

pub exchange-requires-clause-capacity : goal.exchange-requires-clause-capacity
exchange-requires-clause-capacity c =
    let capacity = c.requires.capacity in
    change_has_capacity c.args.hold.now c.in-Ok.change capacity.cells capacity.crowns capacity.room capacity.spare

pub returns-in-Ok-clause-grows : goal.returns-in-Ok-clause-grows
returns-in-Ok-clause-grows c =
    let h = hold_of c.args.hold.now.rights in
    rw c.exchange.ensures.rights (record {
      room = λ v. change_grows_room h c.in-Ok.change c.in-Ok.ensures.small v;
      spare = λ s. let more = change_grows_spare h c.in-Ok.change c.in-Ok.ensures.small s in omega arith;
    })
