use Rattle.std.proofs.Common.{◌≡◌, take, map}
use Rattle.std.specs.List.{range_with_len}
use Rattle.sm_planner.specs.Basis.{basis_of}
use Rattle.sm_planner.specs.Stretches.{stretch}
use Rattle.sm_planner.proofs.Stretching.{IsSummed}
use Rattle.sm_planner.proofs.payment.stretches.Given as goal

-- the stretches so far, and where the next ones begin at each server
abbrev pub invariant-loop-wanted : goal.invariant-loop-wanted
invariant-loop-wanted l = record {
  stretches : l.stretches.items ≡ map (stretch (basis_of l.placement l.pool) l.order) (range_with_len 0 l.wanted-index);
  sums : IsSummed (basis_of l.placement l.pool) (take l.wanted-index l.order) l.taken l.freed;
}
