-- Facts that hold of the map's entries in each state that events lead to.
use Rattle.std.proofs.Common.{◌≡◌, ◌<◌, ℕ, Option, Some, None, refl, subst}
use Rattle.std.specs.Prelude.{IfSome}
use Rattle.sm_placement.specs.Setup.{Setup}
use Rattle.sm_placement.specs.Place.{entry_at}
use Rattle.sm_reservation.specs.declared.stream_id.StreamId.{StreamId}
use Rattle.sm_plan_code.specs.declared.instruction.Instr.{Instr}
use Rattle.sm_plan_code.specs.Instr.{shard_of}
use Rattle.sm_map.specs.Entry.{IsInRange, IsKnownServer}
use Rattle.sm_protocol.specs.State.{State}
use Rattle.sm_protocol.specs.Laws.{IsReached}
use Rattle.sm_protocol.proofs.Cases.{IsBefore}
use Rattle.sm_protocol.proofs.SmallNumbers.{numbers_stay_small}
use Rattle.sm_machine.proofs.ties.Before.{kept, can_reach}

-- the listed server is known, and the version small
pub in_range : (setup : Setup) (w : State) → IsReached setup w → (s : ℕ) → s < w.sizes.shards → IsInRange w.sizes.servers (entry_at w.place s)
in_range setup w r s l = (known (w.place.listed s) refl, (numbers_stay_small setup w r).versions s l)
  where
    known : (o : Option ℕ) → w.place.listed s ≡ o → IsKnownServer w.sizes.servers o
    known None e = tt
    known (Some u) e = (kept setup w r).stage.placement.listed s u e

-- an instruction that a stream makes is of a known shard
pub known_shard : (setup : Setup) (w : State) → IsReached setup w → (id : StreamId) (i : Instr) (s : ℕ) → IsBefore w id (Some i) → shard_of i ≡ Some s → s < w.sizes.shards
known_shard setup w r id i s b e = subst (λ o. IfSome o (λ s. s < w.sizes.shards)) e (can_reach w (kept setup w r) id i b).shard

-- an entry in range lists a known server
pub known_server : (count : ℕ) (o : Option ℕ) → IsKnownServer count o → IfSome o (λ s. s < count)
known_server count None k = tt
known_server count (Some s) k = k
