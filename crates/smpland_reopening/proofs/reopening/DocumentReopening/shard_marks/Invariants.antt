use Rattle.std.proofs.Common.{◌≡◌, ◌<◌, ℕ, false, length, take}
use Rattle.std.specs.Prelude.{◌==◌, slice_index_or}
use Rattle.std.specs.List.{list_any}
use Rattle.smpland_reopening.proofs.reopening.DocumentReopening.shard_marks.Given as goal

-- the shards so far are marked
abbrev pub invariant-loop-shard : goal.invariant-loop-shard
invariant-loop-shard l = record {
  count : length l.marks.items ≡ length l.self.numbering.shards;
  marked : (k : ℕ) → k < length l.self.numbering.shards → slice_index_or l.marks.items k false ≡ list_any (λ s. s == k) (take l.shard-index l.self.shards);
}
