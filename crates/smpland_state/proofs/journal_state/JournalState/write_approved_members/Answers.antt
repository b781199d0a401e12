use Rattle.std.proofs.Common.{◌∙◌, ◌++◌, ap}
use Rattle.sm_placement.specs.Layout.{place_of}
use Rattle.sm_placement.specs.Place.{Place}
use Rattle.sm_placement.specs.Setup.{Setup}
use Rattle.sm_machine.specs.Machine.{MachineModel}
use Rattle.sm_machine.specs.State.{state_of}
use Rattle.smpland_lines.proofs.Written.{next}
use Rattle.smpland_state.specs.Unserved.{unserved_member}
use Rattle.smpland_state.proofs.journal_state.JournalState.write_approved_members.Goals as goal

-- The placement is that of the driver's machine.
pub returns : goal.returns
returns c =
    let v = c.args.server in
    let front = c.write_permit_members.new.writer.tokens in
    let permit = rw c.name_of.ensures at c.in_ok-write_permit_members.ensures in
    let setup = c.placement.ensures.setup ∙ ap (λ (m : MachineModel). m.placement.setup) c.machine.ensures in
    let place = c.placement.ensures.place ∙ ap (λ (m : MachineModel). (state_of m).place) c.machine.ensures in
    let unserved =
    c.in_ok-write_unserved.ensures
    ∙ ap (λ (s : Setup). front ++ unserved_member s (place_of c.placement.result.now) v) setup
    ∙ ap (λ (p : Place). front ++ unserved_member c.args.self.now.driver.machine.placement.setup p v) place in
    next c.args.writer.now.tokens _ _ permit unserved
