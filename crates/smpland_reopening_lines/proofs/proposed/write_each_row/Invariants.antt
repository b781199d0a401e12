use Rattle.std.proofs.Common.{◌≡◌, ◌++◌, drop}
use Rattle.std.specs.List.{flat_map}
use Rattle.smpland_reopening.specs.Proposed.{proposal_role}
use Rattle.smpland_reopening_lines.specs.Proposals.{row_text}
use Rattle.smpland_reopening_lines.proofs.proposed.write_each_row.Given as goal

-- what is written, and what is left
abbrev pub invariant-loop-shard : goal.invariant-loop-shard
invariant-loop-shard l =
    l.writer.tokens ++ flat_map (row_text l.numbering (proposal_role l.proposal)) (drop l.shard-index l.shards)
    ≡ l.fn.writer.tokens ++ flat_map (row_text l.numbering (proposal_role l.proposal)) l.shards
