use Rattle.std.proofs.Common.{◌++◌, ◌∙◌, ℕ, List, ap}
use Rattle.json.specs.Token.{Token}
use Rattle.sm_placement.specs.Setup.{Setup}
use Rattle.sm_machine.specs.Machine.{MachineModel}
use Rattle.smpland_state.specs.Audit.{recorded_cell}
use Rattle.smpland_state.specs.State.{cell_row}
use Rattle.smpland_state.proofs.Written.{number_written}
use Rattle.smpland_state.proofs.state.shards.write_each_cell.Goals as goal

-- The servers so far, and the next.
pub loop-number-preserved : goal.loop-number-preserved
loop-number-preserved c =
    let d = c.args.opened.now.driver in
    let before = c.loop-number.writer.tokens in
    let f : ℕ → List Token = λ v. cell_row d.machine.placement.setup v (recorded_cell d c.args.shard v) in
    let setup = c.config-config.ensures.setup ∙ ap (λ (m : MachineModel). m.placement.setup) c.machine.ensures in
    (rw (c.cell.ensures, c.new-server.ensures) at c.in_ok-write_cell_row.ensures)
    ∙ ap (λ (x : Setup). before ++ cell_row x c.loop-number.number (recorded_cell d c.args.shard c.loop-number.number)) setup
    ∙ ap (λ xs. xs ++ f c.loop-number.number) c.loop-number.invariant
    ∙ number_written f c.args.writer.now.tokens c.loop-number.number
