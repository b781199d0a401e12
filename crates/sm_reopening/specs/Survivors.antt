-- The successors of a shard: the survivors, by what they told or are recorded to have.
-- `slot_claim` is internal: you need not read it for the public contracts.
use Rattle.std.specs.Prelude.{◌≡◌, ◌<◌, ℕ, ◌&&◌, ◌||◌, ◌==◌, Bool, true, false, Option, Some, None, if◌then◌else◌}
use Rattle.std.specs.Prelude.{is_none, nat_lt}
use Rattle.sm_placement.specs.Opening.{first_below}
use Rattle.laws_network.specs.ReopeningLaws.{claim, claim_of}
use Rattle.sm_reopening.specs.declared.ongoing.OngoingReopening.{OngoingReopening}
use Rattle.sm_reopening.specs.declared.survivors.Standing.{Standing}
use Rattle.sm_reopening.specs.Ongoing.{told_copies, past_state, net_reopening}
use Rattle.sm_reopening.specs.declared.party.FoundSlot.{FoundSlot}

-- The rank of a claim counts before copies do: a primary stays, and a server that has something comes before one that
-- has nothing.
abbrev pub rank_of : ℕ → ℕ
rank_of claim = if nat_lt 3 claim then 2 else if nat_lt 0 claim then 1 else 0

-- The first number is greater, or it is the same and this decides.
abbrev pub exceeds : ℕ → ℕ → Bool → Bool
exceeds a b deeper = nat_lt b a || ((a == b) && deeper)

-- The first of two copies of one view is longer, or as long with the better claim. A server that tells no view has
-- view 0: there the claim comes first, since a former primary may have gone on alone with the longer list.
abbrev pub has_more_in_view : Standing → Standing → Bool
has_more_in_view a b =
    if a.copy.view == 0 then exceeds a.claim b.claim (nat_lt b.copy.position a.copy.position)
    else exceeds a.copy.position b.copy.position (nat_lt b.claim a.claim)

-- The first stands above the second: by its rank; in one rank by the view of its copy; and in one view by the copy and
-- the claim.
abbrev pub stands_above : Standing → Standing → Bool
stands_above a b = exceeds (rank_of a.claim) (rank_of b.claim) (exceeds a.copy.view b.copy.view (has_more_in_view a b))

-- the claim that what was told of a shard gives
abbrev pub slot_claim : Option FoundSlot → ℕ
slot_claim (Some slot) = claim slot.cell slot.reached
slot_claim None = 0

-- The standing of a server for a shard. If it is carried over, no copy is known.
abbrev pub standing_of : OngoingReopening → ℕ → ℕ → Standing
standing_of x s v = record { claim = claim_of (net_reopening x) (past_state x) s v; copy = told_copies x s v }

-- The server inherits the shard: it has a claim, nobody stands above it, and it is the lowest of those that stand as
-- high.
pub record IsSuccessorOf (x : OngoingReopening) (s u : ℕ) : Type 0 where
  pub known : u < (net_reopening x).servers
  pub claims : 0 < (standing_of x s u).claim
  pub best : (v : ℕ) → stands_above (standing_of x s v) (standing_of x s u) ≡ false
  pub first : (v : ℕ) → v < u → stands_above (standing_of x s u) (standing_of x s v) ≡ true

-- nobody has a claim to the shard
abbrev pub HasNoSurvivor : OngoingReopening → ℕ → Type 0
HasNoSurvivor x s = (v : ℕ) → (standing_of x s v).claim ≡ 0

-- the server has a claim to the shard, and nobody stands above it
abbrev pub is_best : OngoingReopening → ℕ → ℕ → Bool
is_best x s u =
    nat_lt 0 (standing_of x s u).claim && is_none (first_below (net_reopening x).servers (λ v. stands_above (standing_of x s v) (standing_of x s u)))

-- who inherits the shard, if there is a survivor: the lowest of these
abbrev pub successor_of : OngoingReopening → ℕ → Option ℕ
successor_of x s = first_below (net_reopening x).servers (is_best x s)
