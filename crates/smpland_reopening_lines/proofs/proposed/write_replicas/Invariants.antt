use Rattle.std.proofs.Common.{◌≡◌, ◌++◌}
use Rattle.std.specs.List.{flat_map, range_with_len}
use Rattle.smpland_reopening.specs.Proposed.{proposal_role}
use Rattle.smpland_reopening_lines.specs.Proposals.{proposed_replica_text}
use Rattle.smpland_reopening_lines.proofs.proposed.write_replicas.Given as goal

-- the servers so far
abbrev pub invariant-loop-number : goal.invariant-loop-number
invariant-loop-number l =
    l.writer.tokens ≡ l.initial.writer.tokens
    ++ flat_map (λ v. proposed_replica_text l.numbering v (proposal_role l.proposal l.shard v)) (range_with_len 0 l.number)
