use Rattle.std.proofs.Common.{◌++◌, ◌∙◌, ℕ, List, ap}
use Rattle.json.specs.Token.{Token}
use Rattle.smpland_state.specs.State.{shard_state}
use Rattle.smpland_state.proofs.Written.{number_written}
use Rattle.smpland_state.proofs.state.shards.write_each_shard.Goals as goal

-- The shards so far, and the next.
pub loop-number-preserved : goal.loop-number-preserved
loop-number-preserved c =
    let f : ℕ → List Token = shard_state c.args.opened.now.driver in
    (rw c.new.ensures at c.in_ok-write_shard.ensures)
    ∙ ap (λ xs. xs ++ f c.loop-number.number) c.loop-number.invariant
    ∙ number_written f c.args.writer.now.tokens c.loop-number.number
