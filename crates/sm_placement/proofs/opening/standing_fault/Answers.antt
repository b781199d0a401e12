-- A listed server is known.
use Rattle.std.proofs.Common.{◌∙◌, sym, length, None}
use Rattle.sm_placement.proofs.GridLemmas.{entries_of-is}
use Rattle.sm_placement.proofs.Openings.{listed_known}
use Rattle.sm_placement.proofs.opening.standing_fault.Goals as goal

pub first_bad_listing-requires-clause-known : goal.first_bad_listing-requires-clause-known
first_bad_listing-requires-clause-known c = λ s v e. listed_known (length c.args.table.now.setup.servers) c.args.listed.now s v c.requires.known (sym (entries_of-is None c.args.listed.now s) ∙ e)
