use Rattle.std.proofs.Common.{◌++◌, ◌∙◌, ℕ, List, ap}
use Rattle.json.specs.Token.{Token}
use Rattle.smpland_state.specs.Known.{unknown_text}
use Rattle.smpland_state.proofs.Written.{number_written}
use Rattle.smpland_state.proofs.journal_state.JournalState.write_each_unknown.Goals as goal

-- The servers so far, and the next.
pub loop-number-preserved : goal.loop-number-preserved
loop-number-preserved c =
    let f : ℕ → List Token = unknown_text c.args.self.now.driver in
    (rw c.new.ensures at c.in_ok-write_unknown_name.ensures)
    ∙ ap (λ xs. xs ++ f c.loop-number.number) c.loop-number.invariant
    ∙ number_written f c.args.writer.now.tokens c.loop-number.number
