use Rattle.std.proofs.Common.{◌==◌}
use Rattle.std.proofs.lemmas.Bool.{eq-eqb, ne_eqb}
use Rattle.sm_planner.specs.Payment.{stream_of}
use Rattle.sm_planner.proofs.Ranges.{passed_push, passed_kept}
use Rattle.sm_planner.proofs.writing.moves_of.Goals as goal
use Rattle.sm_planner.proofs.writing.moves_of.Goals.{then-k-stream+in_ok-push, else-k-stream}

pub loop-k-preserved : goal.loop-k-preserved
loop-k-preserved c =
    let stream = c.args.stream in
    let k = c.loop-k.k in
    elim c.if-k-stream.branch [
      | then-k-stream+in_ok-push w ↦ rw w.numbers-is (passed_push c.loop-k.numbers.items w.push.new.self.items (λ k. stream_of k == stream) k w.in_ok-push.ensures.items (eq-eqb (stream_of k) stream w.if-k-stream.true) c.loop-k.invariant)
      | else-k-stream w ↦ rw w.numbers-is (passed_kept c.loop-k.numbers.items (λ k. stream_of k == stream) k (ne_eqb (stream_of k) stream w.if-k-stream.false) c.loop-k.invariant)
    ]
