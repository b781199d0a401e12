-- Laws of holds, as the machine uses them: what is below the counts, what can be put together, and how much capacity a
-- change takes.
use Rattle.std.specs.Prelude.{◌≡◌, ◌≤◌, ◌<◌, ◌+◌, ℕ, None, length}
use Rattle.std.specs.List.{All}
use Rattle.sm_placement.specs.declared.lead.Lead.{Lead}
use Rattle.sm_placement.specs.Setup.{Setup, IsSetup, sizes_of}
use Rattle.sm_placement.specs.Place.{Place}
use Rattle.sm_reservation.specs.Rights.{Rights, no_rights}
use Rattle.sm_reservation.specs.Key.{IsOrdered, IsPositive}
use Rattle.sm_reservation.specs.Hold.{Hold, no_hold, minus, plus}
use Rattle.sm_reservation.specs.HoldOf.{hold_of}
use Rattle.sm_reservation.specs.Amounts.{Right, count, stock}
use Rattle.sm_reservation.specs.CanJoin.{CanJoin}
use Rattle.sm_reservation.specs.Covers.{Covers}
use Rattle.sm_reservation.specs.Short.{first_short}
use Rattle.sm_reservation.specs.Capacity.{HoldModel, most_keys, HasCapacity, HasCapacityAfter}
use Rattle.sm_reservation.specs.Pool.{IsKnownHold, IsKnownRight}

-- no rights are a hold of nothing
abbrev pub NoRightsAreNoHold : Type 0
NoRightsAreNoHold = hold_of no_rights ≡ no_hold

-- Rights less themselves are nothing: so a grant that was given back, or joined to another one, has nothing left.
abbrev pub SpentIsNothing : Type 0
SpentIsNothing = (r : Rights) → minus (hold_of r) r ≡ no_hold

-- ---- what is short, and what is there

-- a hold is short of nothing of a parcel exactly if it has all of it
pub record NotShortIsCovered : Type 0 where
  pub covered : (h : Hold) (p : Rights) → first_short h p ≡ None → Covers h (hold_of p)
  pub not_short : (h : Hold) (p : Rights) → IsOrdered p → Covers h (hold_of p) → first_short h p ≡ None

-- ---- known shards and servers

-- Rights stay of known shards and servers: lists whose rows are of known ones say such a hold, a parcel that can be
-- taken out of such a hold is one, and what is left, and what two such holds are together, are such holds.
pub record RightsStayKnown : Type 0 where
  pub rows : (shards servers : ℕ) (r : Rights) → All (λ x. (x.shard < shards) × (x.server < servers)) r.cells
      → All (λ x. x.shard < shards) r.crowns → All (λ x. x.server < servers) r.room
      → All (λ x. x.shard < shards) r.spare → IsKnownHold shards servers (hold_of r)
  pub taken : (shards servers : ℕ) (h : Hold) (p : Rights) → first_short h p ≡ None → IsKnownHold shards servers h
      → IsKnownHold shards servers (hold_of p)
  pub left : (shards servers : ℕ) (h : Hold) (p : Rights) → IsOrdered p → IsKnownHold shards servers h
      → IsKnownHold shards servers (minus h p)
  pub joined : (shards servers : ℕ) (h : Hold) (p : Rights) → IsOrdered p → IsKnownHold shards servers h
      → IsKnownHold shards servers (hold_of p) → IsKnownHold shards servers (plus h p)

-- ---- holds that can be put together

-- two holds of known shards and servers that have together no more of each known right than there is in a placement
abbrev pub JoinsInPlacement : Type 0
JoinsInPlacement = (setup : Setup) (p : Place) (leads : ℕ → Lead) (h k : Hold) → IsSetup setup
    → IsKnownHold (length setup.shards) (length setup.servers) h
    → IsKnownHold (length setup.shards) (length setup.servers) k
    → ((r : Right) → IsKnownRight (sizes_of setup) r → count h r + count k r ≤ stock (sizes_of setup) p leads r)
    → CanJoin h k

-- ---- capacity for a change, from what is held then

-- If lists in order of what there is then have no more keys than the capacity, there is capacity to put a parcel in,
-- and for a trade.
pub record CapacityByHold : Type 0 where
  pub put : (k : HoldModel) (p q : Rights) → IsOrdered k.rights → IsPositive k.rights → IsOrdered p → IsOrdered q
      → IsPositive q → hold_of q ≡ plus (hold_of k.rights) p → most_keys q ≤ k.capacity → HasCapacity k p
  pub trade : (k : HoldModel) (out got q : Rights) → IsOrdered k.rights → IsPositive k.rights → IsOrdered out
      → IsOrdered got → first_short (hold_of k.rights) out ≡ None → IsOrdered q → IsPositive q
      → hold_of q ≡ plus (minus (hold_of k.rights) out) got → most_keys q ≤ k.capacity → HasCapacityAfter k out got
