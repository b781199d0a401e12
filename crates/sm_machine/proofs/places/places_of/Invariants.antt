use Rattle.std.proofs.Common.{◌≡◌, ◌≤◌, ◌+◌, ◌*◌, take, sum_by}
use Rattle.std.specs.Prelude.{count_by}
use Rattle.sm_plan_code.specs.Plan.{StreamModel}
use Rattle.sm_plan_code.specs.declared.limits.TheConstants.{MOST_ALLOWANCE, MOST_INSTRUCTIONS}
use Rattle.sm_protocol.specs.State.{is_no_call}
use Rattle.sm_machine.proofs.places.places_of.Given as goal

abbrev pub invariant-loop-stream : goal.invariant-loop-stream
invariant-loop-stream l = record {
  sum : l.places ≡ sum_by (λ (stream : StreamModel). stream.budget + stream.retries + count_by is_no_call stream.code + 1) (take l.stream-index l.streams);
  within : l.places ≤ l.stream-index * (MOST_ALLOWANCE + MOST_INSTRUCTIONS + 1);
}
