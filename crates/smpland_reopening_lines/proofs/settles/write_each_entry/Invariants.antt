use Rattle.std.proofs.Common.{◌≡◌, ◌++◌, ℕ, drop}
use Rattle.std.specs.List.{flat_map}
use Rattle.sm_placement.specs.Layout.{place_of}
use Rattle.smpland_lines.specs.Members.{object}
use Rattle.smpland_reopening_lines.specs.Settles.{entry_members}
use Rattle.smpland_reopening_lines.proofs.settles.write_each_entry.Given as goal

-- what is written, and what is left
abbrev pub invariant-loop-shard : goal.invariant-loop-shard
invariant-loop-shard l =
    l.writer.tokens ++ flat_map (λ (s : ℕ). object (entry_members l.settlement.setup (place_of l.settlement) l.version s)) (drop l.shard-index l.shards)
    ≡ l.fn.writer.tokens ++ flat_map (λ (s : ℕ). object (entry_members l.settlement.setup (place_of l.settlement) l.version s)) l.shards
