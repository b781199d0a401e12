use Rattle.std.proofs.Common.{◌++◌, ◌∙◌, ℕ, List, ap}
use Rattle.json.specs.Token.{Token}
use Rattle.smpland_state.specs.State.{server_state}
use Rattle.smpland_state.proofs.Written.{number_written}
use Rattle.smpland_state.proofs.state.servers.write_each_server.Goals as goal

-- The servers so far, and the next.
pub loop-number-preserved : goal.loop-number-preserved
loop-number-preserved c =
    let f : ℕ → List Token = server_state c.args.opened.now.driver c.args.is_reopening in
    (rw c.new.ensures at c.in_ok-write_server.ensures)
    ∙ ap (λ xs. xs ++ f c.loop-number.number) c.loop-number.invariant
    ∙ number_written f c.args.writer.now.tokens c.loop-number.number
