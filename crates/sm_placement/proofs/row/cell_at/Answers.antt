-- Beyond the row there is nothing, and within it the cell stands at its slot.
use Rattle.std.proofs.Common.{◌+◌, ◌*◌, ◌<◌, ◌∙◌, ℕ, sym, ap, arith}
use Rattle.sm_server.specs.declared.call.Cell.TheVariants.{Absent}
use Rattle.sm_placement.specs.Layout.{entries_of}
use Rattle.sm_placement.proofs.GridLemmas.{grid_of-beside, grid_of-within, entries_of-is}
use Rattle.sm_placement.proofs.row.cell_at.Goals as goal

pub returns-then-column-row : goal.returns-then-column-row
returns-then-column-row c = sym (grid_of-beside c.args.row.servers Absent c.args.row.cells.now c.args.row.shard c.args.server (omega (arith, c.if-column-row.true, c.number-column.ensures)))

pub returns : goal.returns
returns c =
    let l : c.args.server < c.args.row.servers = omega (arith, c.if-column-row.false, c.number-column.ensures) in
    c.get.ensures ∙ ap (λ (k : ℕ). entries_of Absent c.args.row.cells.now (c.args.row.shard * c.args.row.servers + k)) c.number-column.ensures
    ∙ entries_of-is Absent c.args.row.cells.now (c.args.row.shard * c.args.row.servers + c.args.server)
    ∙ sym (grid_of-within c.args.row.servers Absent c.args.row.cells.now c.args.row.shard c.args.server l)
