-- The driver is the controller of the fleet of `drivers_open`.
use Rattle.sm_placement.specs.Layout.{place_of}
use Rattle.sm_machine.specs.Machine.{MachineModel}
use Rattle.sm_machine.specs.State.{state_of}
use Rattle.sm_protocol.specs.Laws.{IsReached}
use Rattle.sm_driver.specs.Driver.{DriverModel, record_of}
use Rattle.std.proofs.Common.{subst}
use Rattle.laws_driver.proofs.FirstPlace.{opens_there}
use Rattle.laws_driver.proofs.Opening.{drivers_open}
use Rattle.laws_driver.proofs.first.open_with_fleet.Goals as goal

pub returns : goal.returns
returns c =
    let d : DriverModel = c.in_ok-driver.driver in
    let e = c.in_ok-driver.ensures in
    let reached = subst (λ (m : MachineModel). IsReached m.placement.setup (state_of m)) c.machine.ensures c.is_reached.ensures in
    let opens = opens_there d.machine.placement.setup c.args.placement.setup (place_of c.args.placement) c.args.log_room (record_of d) e.setup reached e.state in
    let found = drivers_open c.args.placement.setup (place_of c.args.placement) c.args.log_room d opens (record { state = e.state; setup = e.setup; permits = e.permits; restores = e.restores; copies = e.copies }) e.fence in
    (found.0, found.1)
