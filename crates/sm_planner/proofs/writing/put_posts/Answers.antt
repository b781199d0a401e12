use Rattle.std.proofs.Common.{◌==◌}
use Rattle.std.proofs.lemmas.Bool.{eq-eqb, ne_eqb}
use Rattle.sm_plan_code.specs.declared.instruction.Instr.TheVariants.{Signal}
use Rattle.sm_planner.specs.Plan.{signal_at}
use Rattle.sm_planner.proofs.Ranges.{behind_push, behind_kept}
use Rattle.sm_planner.proofs.writing.put_posts.Goals as goal
use Rattle.sm_planner.proofs.writing.put_posts.Goals.{then-handed-k+in_ok-push, else-handed-k}

pub loop-number-preserved : goal.loop-number-preserved
loop-number-preserved c =
    let signals = c.args.signals.now in
    let k = c.args.k in
    let q = c.loop-number.number in
    elim c.if-handed-k.branch [
      | then-handed-k+in_ok-push w ↦ rw w.code-is (behind_push c.args.code.now.items c.loop-number.code.items w.push.new.self.items Signal (λ q. (signal_at signals q).source == k) q w.in_ok-push.ensures.items (eq-eqb (signal_at signals q).source k w.if-handed-k.true) c.loop-number.invariant)
      | else-handed-k w ↦ rw w.code-is (behind_kept c.args.code.now.items c.loop-number.code.items Signal (λ q. (signal_at signals q).source == k) q (ne_eqb (signal_at signals q).source k w.if-handed-k.false) c.loop-number.invariant)
    ]
