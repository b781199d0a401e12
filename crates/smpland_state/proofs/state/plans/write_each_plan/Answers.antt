use Rattle.std.proofs.Common.{◌++◌, ◌∙◌, ℕ, List, ap}
use Rattle.json.specs.Token.{Token}
use Rattle.smpland_state.specs.State.{plan_state}
use Rattle.smpland_state.proofs.Written.{number_written}
use Rattle.smpland_state.proofs.state.plans.write_each_plan.Goals as goal

-- The plans so far, and the next.
pub loop-number-preserved : goal.loop-number-preserved
loop-number-preserved c =
    let f : ℕ → List Token = plan_state c.args.opened.now c.args.is_reopening in
    c.in_ok-write_plan.ensures
    ∙ ap (λ xs. xs ++ f c.loop-number.number) c.loop-number.invariant
    ∙ number_written f c.args.writer.now.tokens c.loop-number.number
