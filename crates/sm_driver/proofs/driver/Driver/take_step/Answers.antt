-- The facts that hold of every driver hold after an answer.
use Rattle.std.proofs.Common.{ap, subst, ◌≡◌, ◌∙◌, sym, refl, true}
use Rattle.sm_protocol.specs.State.{State}
use Rattle.sm_protocol.specs.Steps.{Answered}
use Rattle.sm_protocol.specs.Laws.{IsReached}
use Rattle.sm_machine.specs.Machine.{MachineModel}
use Rattle.sm_driver.specs.Advance.{IsFreeAlone}
use Rattle.sm_driver.specs.Driver.{DriverModel, HasTakenStep, awaits_answer}
use Rattle.sm_driver.specs.Orders.{awaits}
use Rattle.sm_machine.specs.State.{state_of}
use Rattle.sm_driver.proofs.Beside.{IsBeside, advance_beside, beside_then, step_beside}
use Rattle.sm_driver.proofs.Driving.{driving_on}
use Rattle.sm_driver.proofs.FreeSteps.{none_is_left}
use Rattle.sm_driver.proofs.LocalSteps.{free_after_answer}
use Rattle.sm_driver.proofs.Recorded.{IsLonger, advance_longer, due_is_moved, step_longer}
use Rattle.sm_driver.proofs.driver.Driver.take_step.Goals as goal

pub advance-requires : goal.advance-requires
advance-requires c =
    let inside = c.self.inside in
    let w : State = state_of inside.director in
    let waits : awaits w c.args.id ≡ true = ap (λ (d : DriverModel). awaits_answer d c.args.id) c.self.view_is ∙ c.requires in
    subst (λ (s : State). IsFreeAlone s c.args.id) (ap (λ o. o.1) c.play.ensures.event) (free_after_answer w c.args.id c.self.invariant.free waits)

pub invariant_of-self : goal.invariant_of-self
invariant_of-self c =
    let w : State = state_of c.self.inside.director in
    let between : State = state_of c.play.new.self in
    let first : IsBeside w between = subst (IsBeside w) (ap (λ o. o.1) c.play.ensures.event) (step_beside w c.args.id) in
    let longer : IsLonger w between = subst (IsLonger w) (ap (λ o. o.1) c.play.ensures.event) (step_longer w c.args.id) in
    driving_on _ _ c.advance.new.director (beside_then w between (state_of c.advance.new.director) first (advance_beside between (state_of c.advance.new.director) c.advance.ensures.advanced))
    (advance_longer w between (state_of c.advance.new.director) longer c.advance.ensures.advanced)
    (none_is_left _ _ c.advance.ensures.advanced) c.self.invariant

pub returns : goal.returns
returns c =
    let inside = c.self.inside in
    let w : State = state_of inside.director in
    let between : State = state_of c.play.new.self in
    let new : DriverModel = record { machine = c.advance.new.director; journal = inside.journal; epoch = inside.epoch; fence = inside.fence; permits = inside.permits; carried = inside.carried; restores = inside.restores; copies = inside.copies } in
    let reached : IsReached inside.director.placement.setup w = subst (λ (m : MachineModel). IsReached m.placement.setup (state_of m)) (c.machine.ensures ∙ ap (λ (d : DriverModel). d.machine) (sym c.self.view_is)) c.is_reached.ensures in
    let waits : awaits w c.args.id ≡ true = ap (λ (d : DriverModel). awaits_answer d c.args.id) c.self.view_is ∙ c.requires in
    let moved = due_is_moved inside.director.placement.setup w between c.args.id c.play.result reached c.self.invariant.unlost waits c.play.ensures.event c.play.ensures.running in
    subst (λ (old : DriverModel). HasTakenStep c.args.id old new) c.self.view_is (record {
      between = between;
      step = c.play.ensures.event ∙ ap (λ a. (Answered a, between)) moved;
      advanced = c.advance.ensures.advanced;
      permits = refl;
      journal = record { journal = refl; epoch = refl; fence = refl; setup = c.advance.ensures.setup ∙ c.play.ensures.setup; carried = refl; restores = refl; copies = refl };
    })
