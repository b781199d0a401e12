use Rattle.sm_verifier.proofs.Walks.{sweep_kept, sweep_moved}
use Rattle.sm_verifier.proofs.order.sweep.Goals as goal
use Rattle.sm_verifier.proofs.order.sweep.Goals.{then-branch, else-branch}

pub loop-stream-preserved : goal.loop-stream-preserved
loop-stream-preserved c =
    let plan = c.args.plan.now in
    let first = c.args.walk.now in
    record {
      walk = c.in_ok-go_far.ensures.walk;
      swept = elim c.if-branch.branch [
        | then-branch w ↦ rw w.moved-is (sweep_moved plan c.loop-stream.stream c.loop-stream.moved first c.loop-stream.walk c.go_far.new.walk c.loop-stream.invariant.swept (rw w.if-branch.true at c.in_ok-go_far.ensures.moved))
        | else-branch w ↦ rw w.moved-is (sweep_kept plan c.loop-stream.stream c.loop-stream.moved first c.loop-stream.walk c.go_far.new.walk c.loop-stream.invariant.swept (rw w.if-branch.false at c.in_ok-go_far.ensures.moved) c.in_ok-go_far.ensures.stuck)
      ];
    }
