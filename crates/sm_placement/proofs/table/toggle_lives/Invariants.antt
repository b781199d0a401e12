use Rattle.std.proofs.Common.{◌≡◌, ℕ, ◌+◌, ◌-◌, ◌<◌, ◌≤◌, not, length}
use Rattle.sm_placement.specs.Layout.{entries_of}
use Rattle.sm_placement.specs.Counts.{part_of}
use Rattle.sm_placement.specs.Replicas.{replicas_by}
use Rattle.sm_placement.proofs.table.toggle_lives.Given as goal

-- the shards before this one have their new counts, and the others their old ones
abbrev pub invariant-loop-shard : goal.invariant-loop-shard
invariant-loop-shard l = record {
  done : (r : ℕ) → r < l.shard → entries_of 0 l.lives r ≡ entries_of 0 l.fn.lives r + part_of l.down (replicas_by l.replicas l.server r) - part_of (not l.down) (replicas_by l.replicas l.server r);
  rest : (r : ℕ) → l.shard ≤ r → r < length l.lives → entries_of 0 l.lives r ≡ entries_of 0 l.fn.lives r;
}
