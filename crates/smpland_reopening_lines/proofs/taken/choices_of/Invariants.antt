use Rattle.std.proofs.Common.{◌≡◌, map, take}
use Rattle.smpland_reopening_lines.specs.Taken.{choice_made, choice_said}
use Rattle.smpland_reopening_lines.proofs.taken.choices_of.Given as goal

-- the choices so far
abbrev pub invariant-loop-shard : goal.invariant-loop-shard
invariant-loop-shard l = map choice_made l.choices.items ≡ map choice_said (take l.shard-index l.shards)
