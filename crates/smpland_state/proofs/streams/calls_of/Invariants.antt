use Rattle.std.proofs.Common.{◌≡◌, ◌≤◌, ◌*◌}
use Rattle.std.specs.Prelude.{take, sum_by, count_by}
use Rattle.sm_plan_code.specs.Instr.{is_call}
use Rattle.smpland_state.proofs.streams.calls_of.Given as goal

abbrev pub invariant-loop-stream : goal.invariant-loop-stream
invariant-loop-stream l = record {
  count : l.count ≡ sum_by (λ stream. count_by is_call stream.code) (take l.stream-index l.streams);
  small : l.count ≤ l.stream-index * 4096;
}
