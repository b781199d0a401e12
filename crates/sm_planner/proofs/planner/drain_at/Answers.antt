use Rattle.std.proofs.Common.{sym, subst}
use Rattle.sm_planner.specs.Basis.{basis_of}
use Rattle.sm_planner.specs.Drain.{AreDepartures}
use Rattle.sm_planner.proofs.Answering.{drain_refused}
use Rattle.sm_planner.proofs.planner.drain_at.Goals as goal

pub returns-clause-refused : goal.returns-clause-refused
returns-clause-refused c =
    let b = basis_of c.args.placement.now c.args.pool.now in
    let go = subst (λ ms. AreDepartures b c.args.server ms) (sym c.deref.ensures.value) c.in_ok-moves.ensures.leaving in
    drain_refused b c.args.server c.deref.result.now c.moves_at.result c.in_ok-moves.ensures.setup go c.moves_at.ensures.refused
