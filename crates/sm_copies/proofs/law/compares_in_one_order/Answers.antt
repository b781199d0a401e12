-- The law is the lemma.
use Rattle.sm_copies.proofs.Laws.{compares-in-one-order}
use Rattle.sm_copies.proofs.law.compares_in_one_order.Goals as goal

pub returns : goal.returns
returns g = compares-in-one-order
