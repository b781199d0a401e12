use Rattle.std.proofs.Common.{◌++◌, ◌∙◌, ℕ, List, ap}
use Rattle.json.specs.Token.{Token}
use Rattle.sm_placement.specs.Layout.{place_of}
use Rattle.smpland_state.specs.Document.{document_shard}
use Rattle.smpland_state.proofs.Written.{number_written}
use Rattle.smpland_state.proofs.document.write_each_shard.Goals as goal

-- The shards so far, and the next.
pub loop-number-preserved : goal.loop-number-preserved
loop-number-preserved c =
    let f : ℕ → List Token = document_shard c.args.placement.now.setup (place_of c.args.placement.now) in
    (rw c.new.ensures at c.in_ok-write_shard.ensures)
    ∙ ap (λ xs. xs ++ f c.loop-number.number) c.loop-number.invariant
    ∙ number_written f c.args.writer.now.tokens c.loop-number.number
