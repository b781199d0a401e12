use Rattle.std.proofs.Common.{◌∙◌, ap, replicate}
use Rattle.sm_planner.proofs.Ranges.{replicate_is}
use Rattle.sm_planner.proofs.marks.Amounts.none.Goals as goal

pub returns-clause-none : goal.returns-clause-none
returns-clause-none c = c.in_ok-by_server.ensures.items_if_clones_equal (λ y h. h) ∙ ap (λ n. replicate n 0) c.server_count.ensures.count ∙ replicate_is _ 0
