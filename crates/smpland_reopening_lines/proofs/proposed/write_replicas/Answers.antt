use Rattle.std.proofs.Common.{◌++◌, ◌∙◌, ℕ, List, ap}
use Rattle.json.specs.Token.{Token}
use Rattle.smpland_reopening.specs.Proposed.{proposal_role}
use Rattle.smpland_reopening_lines.specs.Proposals.{proposed_replica_text}
use Rattle.smpland_reopening_lines.proofs.Written.{number_written}
use Rattle.smpland_reopening_lines.proofs.proposed.write_replicas.Goals as goal

-- The servers so far, and the next.
pub loop-number-preserved : goal.loop-number-preserved
loop-number-preserved c =
    let f : ℕ → List Token = λ v. proposed_replica_text c.args.numbering.now v (proposal_role c.args.proposal.now c.args.shard v) in
    (rw (c.role.ensures, c.new-server.ensures) at c.in_ok-write_replica.ensures)
    ∙ ap (λ xs. xs ++ f c.loop-number.number) c.loop-number.invariant
    ∙ number_written f c.args.writer.now.tokens c.loop-number.number
