-- A shard that a reopening does not name, and of which more copies are kept than the primary's own: its new primary has
-- all that is acknowledged.
use Rattle.std.specs.Prelude.{◌≡◌, ◌≤◌, ◌⊎◌, ℕ, true, false, not, List, Some, is_some}
use Rattle.sm_server.specs.Cell.{is_absent}
use Rattle.sm_placement.specs.Opening.{first_below}
use Rattle.sm_copies.specs.Lists.{ListEntry, begins, told_of}
use Rattle.laws_network.specs.Reopening.{Server}
use Rattle.sm_reopening.specs.declared.ongoing.OngoingReopening.{OngoingReopening}
use Rattle.sm_reopening.specs.Losses.{has_gone, is_named_lost, tells_whole}
use Rattle.sm_reopening.specs.Ongoing.{net_reopening, recorded_place, told_copies}
use Rattle.sm_reopening.specs.Proposal.{Documented}
use Rattle.sm_reopening.specs.Survivors.{IsSuccessorOf, standing_of}
use Rattle.laws_data.specs.Shard.{IsShardReached, Shard}

-- What a reopening knows of a shard is so: the shard's replicas are those that are recorded, each whole copy is as it
-- was told, no lost server has told anything, and each server has no claim, or a secondary's.
pub record KnowsShard (x : OngoingReopening) (s : ℕ) (w : Shard) : Type 0 where
  pub servers : w.servers ≡ (net_reopening x).servers
  pub replicas : (v : ℕ) → w.replicas v ≡ not (is_absent ((recorded_place x).cells s v))
  pub copies : (v : ℕ) → tells_whole x s v ≡ true
      → (copy : List ListEntry) × (w.copies v ≡ Some copy) × (told_copies x s v ≡ told_of copy)
  pub lost : (v : ℕ) → (net_reopening x).lost v ≡ true → is_some ((net_reopening x).told (Server v)) ≡ false
  pub secondaries : (v : ℕ) → ((standing_of x s v).claim ≡ 0) ⊎ ((standing_of x s v).claim ≡ 2)

-- The primary of a shard is gone, at most as many copies are kept as each acknowledged write had, and the shard is not
-- named: the server that inherits the shard has all that is acknowledged.
abbrev pub UnnamedIsWhole : Type 0
UnnamedIsWhole = (x : OngoingReopening) (d : Documented) (kept s u : ℕ) (w : Shard) → IsShardReached w
    → KnowsShard x s w
    → 2 ≤ kept → kept ≤ w.needed → is_some (first_below (net_reopening x).servers (has_gone x s)) ≡ true
    → IsSuccessorOf x s u → is_named_lost x d kept s ≡ false
    → (copy : List ListEntry) × (w.copies u ≡ Some copy) × (begins w.acknowledged copy ≡ true)
