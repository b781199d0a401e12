use Rattle.std.proofs.Common.{◌++◌, ◌∙◌, ℕ, List, ap}
use Rattle.json.specs.Token.{Token}
use Rattle.sm_placement.specs.Layout.{place_of}
use Rattle.smpland_state.specs.Unserved.{unserved_text}
use Rattle.smpland_state.proofs.Written.{number_written}
use Rattle.smpland_state.proofs.unserved.write_each_unserved.Goals as goal

-- The shards so far, and the next.
pub loop-shard-preserved : goal.loop-shard-preserved
loop-shard-preserved c =
    let f : ℕ → List Token = unserved_text c.args.placement.now.setup (place_of c.args.placement.now) c.args.server in
    (rw c.new.ensures at c.in_ok-write_unserved_shard.ensures)
    ∙ ap (λ xs. xs ++ f c.loop-shard.shard) c.loop-shard.invariant
    ∙ number_written f c.args.writer.now.tokens c.loop-shard.shard
