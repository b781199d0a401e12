use Rattle.std.specs.Prelude.{take, count_by, sum_by}
use Rattle.sm_verifier.specs.Counts.{IsRaised}
use Rattle.sm_verifier.specs.Plan.{is_post, is_wait}
use Rattle.sm_verifier.proofs.signals.count_streams.Given as goal

abbrev pub invariant-loop-stream : goal.invariant-loop-stream
invariant-loop-stream l = record {
  posts : IsRaised l.fn.posts l.posts (λ k. sum_by (λ stream. count_by (is_post k) stream.code) (take l.stream-index l.streams));
  waits : IsRaised l.fn.waits l.waits (λ k. sum_by (λ stream. count_by (is_wait k) stream.code) (take l.stream-index l.streams));
}
