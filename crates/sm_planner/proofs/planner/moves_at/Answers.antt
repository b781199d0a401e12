use Rattle.std.proofs.Common.{sym, subst}
use Rattle.sm_planner.specs.Basis.{basis_of}
use Rattle.sm_planner.specs.Laws.{IsUsable}
use Rattle.sm_planner.proofs.law.Usable.{draft_is_usable}
use Rattle.sm_planner.proofs.planner.moves_at.Goals as goal

pub write-requires-clause-limits : goal.write-requires-clause-limits
write-requires-clause-limits c =
    (draft_is_usable (basis_of c.args.placement.now c.args.pool.now) c.args.moves.now c.in_ok-draft.draft c.requires.scene c.requires.known c.in_ok-draft.ensures.drafted).checked.parts

pub checked-requires : goal.checked-requires
checked-requires c =
    subst (λ p. IsUsable (basis_of c.args.placement.now c.args.pool.now) p) (sym c.in_ok-plan.ensures.plan)
    (draft_is_usable (basis_of c.args.placement.now c.args.pool.now) c.args.moves.now c.in_ok-draft.draft c.requires.scene c.requires.known c.in_ok-draft.ensures.drafted)
