-- The number of free places of the log is small.
use Rattle.std.proofs.Common.{◌≤◌, arith}
use Rattle.sm_protocol.specs.State.{State, free_places}
use Rattle.sm_machine.specs.State.{state_of}
use Rattle.sm_driver.proofs.Driving.{within_places}
use Rattle.sm_driver.proofs.driver.Driver.denial.Goals as goal

pub overflow_cast-free : goal.overflow_cast-free
overflow_cast-free c =
    let w : State = state_of c.machine-machine.result.now in
    let places = (within_places _ w c.is_reached.ensures).1 in
    let few : free_places w ≤ w.room = omega arith in
    let is = c.free_places-free.ensures in
    omega arith
