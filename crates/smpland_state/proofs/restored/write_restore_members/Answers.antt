use Rattle.std.proofs.Common.{◌++◌, ◌∙◌, ap}
use Rattle.sm_placement.specs.Setup.{Setup}
use Rattle.sm_machine.specs.Machine.{MachineModel}
use Rattle.smpland_state.specs.Cells.{slots_member}
use Rattle.smpland_lines.proofs.Written.{next}
use Rattle.smpland_state.proofs.restored.write_restore_members.Goals as goal

pub returns : goal.returns
returns c =
    let o = c.args.writer.now.tokens in
    let server = rw c.name_of.ensures at c.in_ok-write_text.ensures in
    let nonce = rw c.nonce.ensures at c.in_ok-write_bits.ensures in
    let journal = rw c.journal.ensures at c.in_ok-write_bits-2.ensures in
    let fence = rw c.fence.ensures at c.in_ok-write_number.ensures in
    let base = rw c.number.ensures at c.in_ok-write_number-2.ensures in
    let slots =
    (rw c.cells.ensures at c.in_ok-write_slots.ensures)
    ∙ ap (λ (s : Setup). c.write_number-2.new.writer.tokens ++ slots_member s c.args.restore.now.cells)
    (c.config.ensures.setup ∙ ap (λ (m : MachineModel). m.placement.setup) c.machine.ensures) in
    next o _ _ (next o _ _ (next o _ _ (next o _ _ (next o _ _ server nonce) journal) fence) base) slots
