use Rattle.std.proofs.Common.{◌++◌, ◌∙◌, ℕ, List, [], ap}
use Rattle.smpland_state.specs.Restores.{told_to}
use Rattle.smpland_state.specs.Told.{ToldModel}
use Rattle.smpland_state.proofs.Written.{number_written}
use Rattle.smpland_state.proofs.restored.last_restores.Goals as goal

-- The servers so far, and the next.
pub loop-number-preserved : goal.loop-number-preserved
loop-number-preserved c =
    let f : ℕ → List ToldModel = told_to c.args.opened.now.driver in
    (rw c.new.ensures at c.in_ok-push_told.ensures)
    ∙ ap (λ xs. xs ++ f c.loop-number.number) c.loop-number.invariant
    ∙ number_written f [] c.loop-number.number
