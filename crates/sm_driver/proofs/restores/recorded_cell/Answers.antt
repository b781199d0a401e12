-- The handover number in a cell that is recorded is small.
use Rattle.std.proofs.Common.{◌∙◌, ◌≤◌, sym, ap, subst}
use Rattle.sm_placement.specs.Place.{Place}
use Rattle.sm_protocol.specs.State.{numbers_end}
use Rattle.sm_machine.specs.State.{state_of}
use Rattle.sm_driver.specs.Restores.{handover_in_cell}
use Rattle.sm_driver.proofs.SmallCells.{cell_is_small}
use Rattle.sm_driver.proofs.restores.recorded_cell.Goals as goal

pub cell_above-requires-clause-number : goal.cell_above-requires-clause-number
cell_above-requires-clause-number c =
    subst (λ x. handover_in_cell x ≤ numbers_end) (sym (c.cell.ensures ∙ ap (λ (p : Place). p.cells c.args.shard c.args.server) c.placement.ensures.place))
    (cell_is_small _ (state_of c.args.machine.now) c.is_reached.ensures c.args.shard c.args.server)
