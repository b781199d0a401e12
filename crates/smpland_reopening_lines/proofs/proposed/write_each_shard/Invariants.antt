use Rattle.std.proofs.Common.{◌≡◌, ◌++◌, drop}
use Rattle.std.specs.List.{flat_map}
use Rattle.smpland_reopening_lines.specs.Proposals.{shard_name_text}
use Rattle.smpland_reopening_lines.proofs.proposed.write_each_shard.Given as goal

-- what is written, and what is left
abbrev pub invariant-loop-shard : goal.invariant-loop-shard
invariant-loop-shard l =
    l.writer.tokens ++ flat_map (shard_name_text l.numbering) (drop l.shard-index l.shards)
    ≡ l.fn.writer.tokens ++ flat_map (shard_name_text l.numbering) l.shards
