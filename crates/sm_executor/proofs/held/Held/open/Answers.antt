-- A new board.
use Rattle.std.proofs.Common.{sym, subst, arith}
use Rattle.sm_protocol.specs.State.{State}
use Rattle.sm_executor.specs.Closed.{GoesOn, Stays}
use Rattle.sm_executor.specs.Counting.{IsBooked}
use Rattle.sm_executor.specs.Tied.{IsPublished}
use Rattle.sm_executor.proofs.Keeps.{counted_opened}
use Rattle.sm_executor.proofs.held.Held.open.Goals as goal

pub invariant_of-result : goal.invariant_of-result
invariant_of-result g c =
    let o = g.N.Naming.opened in
    let counted = subst (λ n. IsBooked o o n 0 0) (sym c.open-steps.ensures.total) (counted_opened o) in
    let counted2 = subst (λ n. IsBooked o o c.open-steps.result.0.total n 0) (sym c.open-executed.ensures.total) counted in
    let counted3 = subst (λ n. IsBooked o o c.open-steps.result.0.total c.open-executed.result.0.total n) (sym c.open-refused.ensures.total) counted2 in (
      subst (λ (w : State). IsPublished g.N.Naming.words o w c.args.publisher) (sym c.requires.opened) c.requires.tied,
      subst (λ (w : State). IsBooked o w c.open-steps.result.0.total c.open-executed.result.0.total c.open-refused.result.0.total) (sym c.requires.opened) counted3,
      omega (arith, c.open-steps.ensures.parts),
      c.open-steps.ensures.amount,
      c.requires.steps.1.1,
      omega (arith, c.open-executed.ensures.parts),
      c.open-executed.ensures.amount,
      c.requires.executed.1.1,
      omega (arith, c.open-refused.ensures.parts),
      c.open-refused.ensures.amount,
      c.requires.refused.1.1,
      omega arith,
      c.requires.setup,
      omega arith,
      subst (GoesOn o) (sym c.requires.opened) Stays,
    )
