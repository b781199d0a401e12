use Rattle.std.proofs.Common.{◌++◌, ◌∙◌, ℕ, List, ap}
use Rattle.json.specs.Token.{Token}
use Rattle.sm_placement.specs.Layout.{place_of}
use Rattle.smpland_state.specs.Messages.{replica_text}
use Rattle.smpland_state.proofs.Written.{number_written}
use Rattle.smpland_state.proofs.holders.write_each_replica.Goals as goal

-- The servers so far, and the next.
pub loop-server-preserved : goal.loop-server-preserved
loop-server-preserved c =
    let f : ℕ → List Token = replica_text c.args.placement.now.setup ((place_of c.args.placement.now).cells c.args.shard) in
    (rw c.new.ensures at c.in_ok-write_replica.ensures)
    ∙ ap (λ xs. xs ++ f c.loop-server.server) c.loop-server.invariant
    ∙ number_written f c.args.writer.now.tokens c.loop-server.server
