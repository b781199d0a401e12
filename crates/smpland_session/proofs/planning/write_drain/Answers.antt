use Rattle.std.proofs.Common.{◌≡◌, ◌∙◌, ℕ, Option, Some, None, OnOk, ap, subst, sym}
use Rattle.sm_placement.specs.Setup.{Setup, server_named}
use Rattle.sm_machine.specs.Machine.{MachineModel}
use Rattle.smpland_session.proofs.Planned.{drain_told}
use Rattle.smpland_session.specs.Planned.{TellsDrain}
use Rattle.smpland_session.proofs.planning.write_drain.Goals as goal

-- The server is the one with this name, and the plan is for the machine as it stands.
pub returns-in-Some : goal.returns-in-Some
returns-in-Some c =
    let m = c.args.opened.now.driver.machine in
    let setup = c.config.ensures.setup ∙ ap (λ (k : MachineModel). k.placement.setup) c.machine-machine.ensures in
    let found = subst (λ (s : Setup). server_named s c.args.name.now ≡ Some c.in-Some.server) setup (sym c.server_named.ensures.named ∙ c.in-Some.is) in
    subst (λ (f : Option ℕ). OnOk c.write_answer.result (TellsDrain m f c.args.writer.now.tokens c.write_answer.new.writer.tokens)) (sym found)
    (drain_told c.write_answer.result m c.machine-machine.result.now c.config-in-Some.result.now c.drain-answer.result _ _ c.machine-machine.ensures
    c.config-in-Some.ensures.setup c.in-Some.server c.drain-answer.ensures.plan c.drain-answer.ensures.refused c.write_answer.ensures)

pub returns-in-None : goal.returns-in-None
returns-in-None c =
    let m = c.args.opened.now.driver.machine in
    let setup = c.config.ensures.setup ∙ ap (λ (k : MachineModel). k.placement.setup) c.machine-machine.ensures in
    let found = subst (λ (s : Setup). server_named s c.args.name.now ≡ None) setup (sym c.server_named.ensures.named ∙ c.in-None.is) in
    subst (λ (f : Option ℕ). OnOk c.write_bad.result (TellsDrain m f c.args.writer.now.tokens c.write_bad.new.writer.tokens)) (sym found) c.write_bad.ensures
