-- An entry is an element of the list, or 0.
use Rattle.std.proofs.Common.{arith}
use Rattle.sm_placement.proofs.GridLemmas.{entries_of-is}
use Rattle.sm_reservation.proofs.pool.entries_fit.Goals as goal

pub returns : goal.returns
returns c k = let e = entries_of-is 0 c.args.entries.now k in let f = c.type_inv.entries k in omega arith
