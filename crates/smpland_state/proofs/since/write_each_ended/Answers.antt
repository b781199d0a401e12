use Rattle.std.proofs.Common.{◌++◌, ◌∙◌, ℕ, List, ap}
use Rattle.json.specs.Token.{Token}
use Rattle.smpland_state.specs.History.{ended_at}
use Rattle.smpland_state.specs.Since.{number_if_later}
use Rattle.smpland_state.proofs.Written.{number_written}
use Rattle.smpland_state.proofs.since.write_each_ended.Goals as goal

-- The plans so far, and the next.
pub loop-number-preserved : goal.loop-number-preserved
loop-number-preserved c =
    let f : ℕ → List Token = λ k. number_if_later c.args.place k (ended_at c.args.history.now k) in
    (rw c.ended.ensures at c.in_ok-write_if_later.ensures)
    ∙ ap (λ xs. xs ++ f c.loop-number.number) c.loop-number.invariant
    ∙ number_written f c.args.writer.now.tokens c.loop-number.number
