-- An approval.
use Rattle.std.proofs.Common.{◌≡◌, ◌≤◌, ◌<◌, ◌∙◌, ◌+◌, ℕ, List, Option, Some, None, length, set, sym, ap, subst, arith}
use Rattle.sm_plan_code.specs.declared.limits.TheConstants.{MOST_PLACES}
use Rattle.sm_protocol.specs.State.{State, free_places, pool}
use Rattle.sm_protocol.specs.Steps.{Answered, Outcome}
use Rattle.sm_protocol.specs.declared.event.Played.{Played}
use Rattle.sm_protocol.specs.declared.event.Played.TheVariants as played
use Rattle.sm_protocol.specs.Happens.{Approve, approved, denial, engaged, happens}
use Rattle.sm_machine.specs.Machine.{MachineModel}
use Rattle.sm_machine.specs.State.{state_of}
use Rattle.sm_driver.specs.Driver.{DriverModel, IsDriving, base, record_of}
use Rattle.sm_protocol.specs.declared.event.Event.TheVariants as event
use Rattle.sm_protocol.specs.declared.event.Logged.{Logged}
use Rattle.sm_protocol.proofs.Starts.{length_push}
use Rattle.sm_driver.proofs.Beside.{approval_is}
use Rattle.sm_driver.proofs.Driving.{approved_driving, within_places}
use Rattle.sm_driver.proofs.FreeSteps.{told}
use Rattle.sm_driver.proofs.driver.Driver.approve.Goals as goal

-- the restart is approved where nothing is against it
granted : (w new : State) (v : ℕ) (answer : Played) → denial w.sizes w.place (pool w) (engaged w v) (free_places w) v ≡ None → happens w (Approve v) ≡ (Answered answer, new) →
    happens w (Approve v) ≡ (Answered played.Approved, new)
granted w new v answer none event =
    let e = sym (ap (approved w v) none) ∙ event in
    event ∙ ap (λ a. (Answered a, new)) (ap (λ (o : Outcome × State). told o.0) (sym e))

pub invariant_of-self : goal.invariant_of-self
invariant_of-self c =
    let inside = c.self.inside in
    let w : State = state_of inside.director in
    let new : State = state_of c.play.new.self in
    let v = c.args.server in
    let none : denial w.sizes w.place (pool w) (engaged w v) (free_places w) v ≡ None =
    ap (λ (d : DriverModel). denial (record_of d).sizes (record_of d).place (pool (record_of d)) (engaged (record_of d) v) (free_places (record_of d)) v) c.self.view_is ∙ sym c.denial.ensures ∙ c.in_default.is in
    let happened : happens w (Approve v) ≡ (Answered played.Approved, new) = granted w new v c.play.result none c.play.ensures.event in
    let known : v < w.sizes.servers = subst (λ (d : DriverModel). v < (record_of d).sizes.servers) (sym c.self.view_is) c.requires in
    let more : length new.log ≡ length w.log + 1 =
    (let a = ap (λ (u : State). length u.log) (approval_is w new v happened) in let b = length_push w.log (record { event = event.Approve v; answer = played.Approved }) in omega arith) in
    let within : length new.log ≤ MOST_PLACES = subst (λ (m : MachineModel). length (state_of m).log ≤ MOST_PLACES) c.machine-2.ensures
    (let p = within_places _ (state_of c.machine-2.result.now) c.is_reached.ensures in let l = p.0 in let m = p.1 in omega arith) in
    let d : DriverModel = record { machine = inside.director; journal = inside.journal; epoch = inside.epoch; fence = inside.fence; permits = inside.permits; carried = inside.carried; restores = inside.restores; copies = inside.copies } in
    let log : c.log.result.now ≡ w.log = c.log.ensures ∙ ap (λ (m : MachineModel). (state_of m).log) (c.machine.ensures ∙ ap (λ (x : DriverModel). x.machine) (sym c.self.view_is)) in
    let permit : c.base.result + length c.log.result.now + 1 ≡ base d + length w.log + 1 =
    ap (λ n. n + length c.log.result.now + 1) (c.base.ensures.base ∙ ap base (sym c.self.view_is)) ∙ ap (λ (l : List Logged). base d + length l + 1) log in
    subst (λ (permits : List (Option ℕ)). IsDriving inside.room (record { machine = c.play.new.self; journal = inside.journal; epoch = inside.epoch; fence = inside.fence; permits = permits; carried = inside.carried; restores = inside.restores; copies = inside.copies }))
    (ap (λ n. set inside.permits v (Some n)) (sym permit) ∙ sym c.set.ensures) (approved_driving inside.room d v c.play.new.self happened known (omega arith) c.self.invariant)
