use Rattle.std.proofs.Common.{take}
use Rattle.sm_planner.specs.Basis.{basis_of}
use Rattle.sm_planner.specs.Draft.{ArePayments}
use Rattle.sm_planner.proofs.writing.payments.Given as goal

abbrev pub invariant-loop-k : goal.invariant-loop-k
invariant-loop-k l = ArePayments (basis_of l.placement l.pool) l.draft.moves.items (take l.k-index l.numbers) l.paid
