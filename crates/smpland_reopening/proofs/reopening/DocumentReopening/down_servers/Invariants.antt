use Rattle.std.proofs.Common.{◌≡◌, ◌<◌, ℕ, false, length, take}
use Rattle.std.specs.Prelude.{◌||◌, slice_get, slice_index_or}
use Rattle.std.specs.List.{list_any}
use Rattle.sm_reopening.specs.Ongoing.{net_reopening}
use Rattle.sm_reopening.specs.Proposal.{is_the}
use Rattle.smpland_reopening.specs.Confirmed.{is_still_down}
use Rattle.smpland_reopening.proofs.reopening.DocumentReopening.down_servers.Given as goal

-- those that are recorded so, and those that the document has called so yet
abbrev pub invariant-loop-server : goal.invariant-loop-server
invariant-loop-server l = record {
  count : length l.down.items ≡ (net_reopening l.self.ongoing).servers;
  marked : (v : ℕ) → v < (net_reopening l.self.ongoing).servers → slice_index_or l.down.items v false
      ≡ (is_still_down l.self v || list_any (λ k. is_the (slice_get l.self.servers k) v) (take l.server-index l.self.document.down.items));
}
