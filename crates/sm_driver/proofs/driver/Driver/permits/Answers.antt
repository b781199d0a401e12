-- No two permits are alike.
use Rattle.std.proofs.Common.{◌≡◌, ◌≤◌, ◌+◌, ◌*◌, length, subst, sym, ap, ◌∙◌, arith}
use Rattle.sm_plan_code.specs.declared.limits.TheConstants.{MOST_PLACES}
use Rattle.sm_machine.specs.Machine.{MachineModel}
use Rattle.sm_machine.specs.State.{state_of}
use Rattle.sm_driver.specs.Driver.{DriverModel, base}
use Rattle.sm_driver.specs.Orders.{epoch_base}
use Rattle.sm_driver.specs.Permits.{AreEarlierPermits}
use Rattle.sm_driver.proofs.Driving.{within_places}
use Rattle.sm_driver.proofs.Given.{all_earlier}
use Rattle.sm_driver.proofs.driver.Driver.permits.Goals as goal

pub returns-clause-apart : goal.returns-clause-apart
returns-clause-apart c =
    let inside = c.self.inside in
    let d : DriverModel = record { machine = inside.director; journal = inside.journal; epoch = inside.epoch; fence = inside.fence; permits = inside.permits; carried = inside.carried; restores = inside.restores; copies = inside.copies } in
    let is : c.machine.result.now ≡ inside.director = c.machine.ensures ∙ ap (λ (x : DriverModel). x.machine) (sym c.self.view_is) in
    let places : length (state_of inside.director).log ≤ MOST_PLACES = subst (λ (m : MachineModel). length (state_of m).log ≤ MOST_PLACES) is
    (let p = within_places _ (state_of c.machine.result.now) c.is_reached.ensures in let l = p.0 in let m = p.1 in omega arith) in
    let above : base d + 2 * MOST_PLACES ≡ epoch_base (inside.epoch + 1) = omega arith in
    subst (λ (x : DriverModel). AreEarlierPermits (epoch_base (x.epoch + 1)) x.permits) c.self.view_is
    (subst (λ b. AreEarlierPermits b inside.permits) above (all_earlier (base d) (length (state_of inside.director).log) inside.permits places c.self.invariant.given))
