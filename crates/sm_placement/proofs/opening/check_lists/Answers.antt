-- If no double is found, each pair is named once at most.
use Rattle.std.proofs.Common.{◌∙◌, sym, length}
use Rattle.sm_placement.proofs.Openings.{once_from}
use Rattle.sm_placement.proofs.opening.check_lists.Goals as goal

pub first_bad_lead-requires-clause-once : goal.first_bad_lead-requires-clause-once
first_bad_lead-requires-clause-once c =
    once_from (length c.args.config.now.shards) (length c.args.config.now.servers) c.args.cells.now (sym c.has_unknown_cell.ensures ∙ c.if-has_unknown_cell.false) (sym c.in_ok-fault.ensures ∙ c.in_default.is)
