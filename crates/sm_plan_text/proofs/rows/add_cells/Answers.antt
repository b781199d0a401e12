use Rattle.std.proofs.Common.{◌++◌, ◌∷◌, [], ◌∙◌, ap}
use Rattle.sm_server.specs.Cell.{cell_in}
use Rattle.sm_plan_text.specs.Shards.{cell_faults, named_cell}
use Rattle.sm_plan_text.proofs.WalkLemmas.{mapped_step, walked_step}
use Rattle.sm_plan_text.proofs.rows.add_cells.Goals as goal

pub loop-tree-preserved : goal.loop-tree-preserved
loop-tree-preserved c =
    let servers = c.args.cursor.now.scope.servers.now in
    let items = c.entries-items.result.now in
    let i = c.loop-tree.tree-index in
    let tree = c.tree-item.result in
    record {
      cells = mapped_step (named_cell servers c.args.shard) items i tree c.args.cells.now.items c.loop-tree.cells.items _ c.loop-tree-test.true c.tree-item.is
          (c.in_ok-push.ensures.items ∙ (λ j. c.loop-tree.cells.items ++ (c.args.shard, c.server.ensures j, (c.cell_of-state.ensures ∙ ap cell_in c.role.ensures) j) ∷ [])) c.loop-tree.invariant.cells;
      faults = walked_step (cell_faults servers) items i tree _ _ c.loop-tree-test.true c.tree-item.is c.in_ok-note_own.ensures ∙ c.loop-tree.invariant.faults;
    }
