-- The cells that are told.
use Rattle.std.proofs.Common.{◌∙◌, ℕ, ap}
use Rattle.sm_server.specs.declared.call.Cell.{Cell}
use Rattle.sm_protocol.specs.State.{State}
use Rattle.laws_network.specs.Net.{cell_above}
use Rattle.sm_machine.specs.State.{state_of}
use Rattle.sm_driver.proofs.Lists.{pushed_more}
use Rattle.sm_driver.proofs.restores.cells_told.Goals as goal

pub loop-number-preserved : goal.loop-number-preserved
loop-number-preserved c =
    let w : State = state_of c.args.machine.now in
    let f : ℕ → Cell = λ s. cell_above c.args.base (w.place.cells s c.args.server) in
    pushed_more f c.loop-number.cells.items c.push.new.self.items c.loop-number.number c.recorded_cell.result c.in_ok-push.ensures.items
    (c.recorded_cell.ensures ∙ ap f c.new-shard.ensures) c.loop-number.invariant
