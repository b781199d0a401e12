use Rattle.std.specs.Prelude.{take, count_by}
use Rattle.sm_verifier.specs.Counts.{IsRaised}
use Rattle.sm_verifier.specs.Plan.{is_post, is_wait}
use Rattle.sm_verifier.proofs.signals.count_code.Given as goal

abbrev pub invariant-loop-instr : goal.invariant-loop-instr
invariant-loop-instr l = record {
  posts : IsRaised l.fn.posts l.posts (λ k. count_by (is_post k) (take l.instr-index l.code));
  waits : IsRaised l.fn.waits l.waits (λ k. count_by (is_wait k) (take l.instr-index l.code));
}
