use Rattle.std.proofs.Common.{◌++◌, ◌∙◌, ℕ, List, ap}
use Rattle.json.specs.Token.{Token}
use Rattle.sm_placement.specs.Layout.{place_of}
use Rattle.smpland_state.specs.Document.{replica_row}
use Rattle.smpland_state.proofs.Written.{number_written}
use Rattle.smpland_state.proofs.document.write_each_replica_row.Goals as goal

-- The servers so far, and the next.
pub loop-number-preserved : goal.loop-number-preserved
loop-number-preserved c =
    let f : ℕ → List Token = replica_row c.args.placement.now.setup ((place_of c.args.placement.now).cells c.args.shard) in
    (rw c.new.ensures at c.in_ok-write_replica_row.ensures)
    ∙ ap (λ xs. xs ++ f c.loop-number.number) c.loop-number.invariant
    ∙ number_written f c.args.writer.now.tokens c.loop-number.number
