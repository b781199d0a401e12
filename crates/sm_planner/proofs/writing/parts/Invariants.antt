use Rattle.std.proofs.Common.{◌≡◌, ◌≤◌, ◌*◌, ◌^◌, map}
use Rattle.std.specs.Prelude.{sum_by}
use Rattle.std.specs.List.{range_with_len}
use Rattle.sm_plan_code.specs.Plan.{StreamModel}
use Rattle.sm_planner.specs.Basis.{basis_of}
use Rattle.sm_planner.specs.Plan.{stream}
use Rattle.sm_planner.proofs.writing.parts.Given as goal

abbrev pub invariant-loop-number : goal.invariant-loop-number
invariant-loop-number l = record {
  streams : l.streams.items ≡ map (stream (basis_of l.placement l.pool) l.draft.moves.items) (range_with_len 0 l.number);
  budget : l.budget ≡ sum_by (λ (s : StreamModel). s.budget) (map (stream (basis_of l.placement l.pool) l.draft.moves.items) (range_with_len 0 l.number));
  small : l.budget ≤ l.number * 2 ^ 22;
}
