use Rattle.std.proofs.Common.{◌≡◌, ◌<◌, ℕ, false, length, take}
use Rattle.std.specs.Prelude.{slice_index_or}
use Rattle.std.specs.List.{list_any}
use Rattle.sm_reopening.specs.Ongoing.{net_reopening}
use Rattle.smpland_reopening.specs.Proposal.{is_silent_primary}
use Rattle.smpland_reopening.proofs.reopening.DocumentReopening.silent_marks.Given as goal

-- those of the shards so far are marked
abbrev pub invariant-loop-shard : goal.invariant-loop-shard
invariant-loop-shard l = record {
  count : length l.marks.items ≡ (net_reopening l.self.ongoing).servers;
  marked : (v : ℕ) → v < (net_reopening l.self.ongoing).servers
      → slice_index_or l.marks.items v false ≡ list_any (is_silent_primary l.self v) (take l.shard-index l.self.shards);
}
