use Rattle.std.proofs.Common.{◌++◌, ◌∙◌, ap}
use Rattle.sm_machine.specs.Machine.{MachineModel}
use Rattle.sm_placement.specs.Setup.{Setup}
use Rattle.sm_placement.specs.declared.entry.Entry.{Entry}
use Rattle.smpland_lines.proofs.Written.{next}
use Rattle.smpland_state.specs.Published.{map_entry_members}
use Rattle.smpland_state.proofs.published.write_entry.Goals as goal

-- The members by the names and the entry that the driver has.
pub returns : goal.returns
returns c =
    let o = c.begin_object.new.self.tokens in
    let setup = c.config-config.ensures.setup ∙ ap (λ (m : MachineModel). m.placement.setup) c.machine.ensures in
    let members =
    c.in_ok-write_entry_members.ensures
    ∙ ap (λ (s : Setup). o ++ map_entry_members s c.args.shard c.recorded_entry-entry.result) setup
    ∙ ap (λ (e : Entry). o ++ map_entry_members c.args.opened.now.driver.machine.placement.setup c.args.shard e) c.recorded_entry-entry.ensures in
    next c.args.writer.now.tokens _ _ c.in_ok-begin_object.ensures.ok (next o _ _ members c.in_ok-end_object.ensures.ok)
