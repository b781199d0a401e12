use Rattle.std.proofs.Common.{◌≡◌, ◌≤◌, ◌+◌, ◌*◌, ◌^◌}
use Rattle.std.specs.Prelude.{take, sum_by}
use Rattle.sm_verifier.proofs.checking.total_budget.Given as goal

abbrev pub invariant-loop-stream : goal.invariant-loop-stream
invariant-loop-stream l = record {
  total : l.total ≡ sum_by (λ stream. stream.budget + stream.retries) (take l.stream-index l.streams);
  small : l.total ≤ l.stream-index * 2 ^ 33;
}
