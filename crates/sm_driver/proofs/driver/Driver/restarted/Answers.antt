-- The end of a restart.
use Rattle.std.proofs.Common.{◌∙◌, ◌<◌, ℕ, Bool, List, Option, None, set, sym, ap, subst, refl}
use Rattle.sm_placement.specs.Setup.{Sizes}
use Rattle.sm_protocol.specs.State.{State}
use Rattle.sm_protocol.specs.Steps.{Answered}
use Rattle.sm_machine.specs.Machine.{MachineModel}
use Rattle.sm_machine.specs.State.{state_of}
use Rattle.sm_driver.specs.Driver.{DriverModel, HasEndedRestart, IsDriving}
use Rattle.sm_driver.proofs.Beside.{restart_is}
use Rattle.sm_driver.proofs.Driving.{restarted_driving}
use Rattle.sm_driver.proofs.PermitLookups.{permitted_is_down}
use Rattle.sm_driver.proofs.driver.Driver.restarted.Goals as goal

pub server-requires : goal.server-requires
server-requires c =
    c.self.invariant.permits.servers
    ∙ sym (c.server_count-servers.ensures.count ∙ ap (λ (s : Sizes). s.servers) c.config.ensures.sizes
    ∙ ap (λ (m : MachineModel). (state_of m).sizes.servers) (c.machine.ensures ∙ ap (λ (d : DriverModel). d.machine) (sym c.self.view_is)))

pub clear-requires : goal.clear-requires
clear-requires c =
    subst (λ n. c.in-Some.server < n) (sym c.self.invariant.carried.servers)
    (permitted_is_down (state_of c.self.inside.director) c.self.inside.permits c.args.permit c.in-Some.server c.self.invariant.permits (sym c.server.ensures ∙ c.in-Some.is)).0

pub set-requires : goal.set-requires
set-requires c =
    subst (λ n. c.in-Some.server < n) (sym c.self.invariant.permits.servers)
    (permitted_is_down (state_of c.self.inside.director) c.self.inside.permits c.args.permit c.in-Some.server c.self.invariant.permits (sym c.server.ensures ∙ c.in-Some.is)).0

pub invariant_of-self : goal.invariant_of-self
invariant_of-self c =
    let inside = c.self.inside in
    let known = permitted_is_down (state_of inside.director) inside.permits c.args.permit c.in-Some.server c.self.invariant.permits (sym c.server.ensures ∙ c.in-Some.is) in
    subst (λ (permits : List (Option ℕ)). IsDriving inside.room (record { machine = c.play.new.self; journal = inside.journal; epoch = inside.epoch; fence = inside.fence; permits = permits; carried = c.clear.new.self; restores = inside.restores; copies = inside.copies }))
    (sym c.set.ensures)
    (subst (λ (carried : List Bool). IsDriving inside.room (record { machine = c.play.new.self; journal = inside.journal; epoch = inside.epoch; fence = inside.fence; permits = set inside.permits c.in-Some.server None; carried = carried; restores = inside.restores; copies = inside.copies }))
    (sym c.clear.ensures)
    (restarted_driving inside.room _ c.in-Some.server c.play.result c.play.new.self c.play.ensures.event known.0 known.1 c.self.invariant))

pub returns-clause-come : goal.returns-clause-come
returns-clause-come c =
    let inside = c.self.inside in
    let w : State = state_of inside.director in
    let next : State = state_of c.play.new.self in
    let known = permitted_is_down w inside.permits c.args.permit c.in-Some.server c.self.invariant.permits (sym c.server.ensures ∙ c.in-Some.is) in
    let up = (restart_is w next c.in-Some.server c.play.result c.play.ensures.event known.1).0 in
    let new : DriverModel = record { machine = c.play.new.self; journal = inside.journal; epoch = inside.epoch; fence = inside.fence; permits = c.set.new.self; carried = c.clear.new.self; restores = inside.restores; copies = inside.copies } in
    subst (λ (old : DriverModel). HasEndedRestart c.in-Some.server c.args.permit c.args.base old new) c.self.view_is (record {
      permitted = sym c.server.ensures ∙ c.in-Some.is;
      settled = sym c.is_settled.ensures ∙ c.if-not-is_settled.false;
      event = c.play.ensures.event ∙ ap (λ a. (Answered a, next)) up;
      permits = c.set.ensures;
      journal = record { journal = refl; epoch = refl; fence = refl; setup = c.play.ensures.setup; carried = c.clear.ensures; restores = refl; copies = refl };
    })
