use Rattle.std.proofs.Common.{◌++◌, ◌∙◌, ap}
use Rattle.std.specs.Prelude.{is_some, slice_index_or}
use Rattle.sm_machine.specs.Machine.{MachineModel}
use Rattle.sm_placement.specs.Setup.{ServerRow, Setup, no_server}
use Rattle.sm_driver.specs.Permits.{permit_of}
use Rattle.smpland_lines.proofs.Written.{next}
use Rattle.smpland_state.specs.Document.{server_members}
use Rattle.smpland_state.proofs.document.write_server.Goals as goal

-- The row of the configuration that the driver has.
pub returns : goal.returns
returns c =
    let o = c.begin_object.new.self.tokens in
    let setup = c.config.ensures.setup ∙ ap (λ (m : MachineModel). m.placement.setup) c.machine.ensures in
    let row = c.server-row.ensures.row ∙ ap (λ (s : Setup). slice_index_or s.servers c.args.server no_server) setup in
    let members =
    (rw c.permit_of.ensures at (rw c.is_some-is_down.ensures at c.in_ok-write_server_members.ensures))
    ∙ ap (λ (r : ServerRow). o ++ server_members r (is_some (permit_of c.args.opened.now.driver.permits c.args.server))) row in
    next c.args.writer.now.tokens _ _ c.in_ok-begin_object.ensures.ok (next o _ _ members c.in_ok-end_object.ensures.ok)
