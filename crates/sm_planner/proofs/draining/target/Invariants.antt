use Rattle.std.proofs.Common.{get_or}
use Rattle.sm_planner.specs.Basis.{basis_of}
use Rattle.sm_planner.specs.Drain.{has_place, IsBestOf}
use Rattle.sm_planner.proofs.draining.target.Given as goal

-- the best of the servers so far
abbrev pub invariant-loop-number : goal.invariant-loop-number
invariant-loop-number l = IsBestOf (has_place (basis_of l.placement l.pool) l.from (λ w. get_or l.room w 0) l.shard) (λ w. get_or l.room w 0) l.number l.best
