-- Each part is the same.
use Rattle.std.proofs.Common.{◌∙◌}
use Rattle.sm_placement.proofs.TableLemmas.{same_table, same_totals, IsCounted-same}
use Rattle.sm_placement.proofs.table.Table.copy.Goals as goal

pub invariant_of-result : goal.invariant_of-result
invariant_of-result c =
    IsCounted-same c.self.invariant
    (same_table c.in_ok-config.ensures c.in_ok-cells.ensures c.in_ok-lasts.ensures (c.in_ok-down.ensures.down ∙ c.deref.ensures.value))
    (same_totals c.self.inside.down_count (c.in_ok-down.ensures.loads ∙ c.deref-2.ensures.value) (c.in_ok-lives.ensures.lives ∙ c.deref-3.ensures.value) (c.in_ok-lives.ensures.servings ∙ c.deref-4.ensures.value) c.in_ok-replicas.ensures)

pub returns : goal.returns
returns c = same_table c.in_ok-config.ensures c.in_ok-cells.ensures c.in_ok-lasts.ensures (c.in_ok-down.ensures.down ∙ c.deref.ensures.value) ∙ c.self.view_is
