use Rattle.std.proofs.Common.{◌++◌, ◌∙◌, ℕ, List, ap}
use Rattle.json.specs.Token.{Token}
use Rattle.smpland_state.specs.Published.{entry_text}
use Rattle.smpland_state.proofs.Written.{number_written}
use Rattle.smpland_state.proofs.published.write_each_entry.Goals as goal

-- The shards so far, and the next.
pub loop-number-preserved : goal.loop-number-preserved
loop-number-preserved c =
    let f : ℕ → List Token = entry_text c.args.opened.now.driver in
    (rw c.new.ensures at c.in_ok-write_entry.ensures)
    ∙ ap (λ xs. xs ++ f c.loop-number.number) c.loop-number.invariant
    ∙ number_written f c.args.writer.now.tokens c.loop-number.number
