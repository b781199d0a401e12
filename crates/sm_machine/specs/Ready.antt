-- The conditions of each kind of step.
-- Internal definitions: you need not read them for the public contracts.
use Rattle.std.specs.Prelude.{◌≡◌, ◌<◌, ◌^◌, ℕ, ◌-◌, Option, None, IfSome, true, false, length}
use Rattle.std.specs.Option.{ForSome}
use Rattle.sm_reservation.specs.HoldOf.{hold_of}
use Rattle.sm_reservation.specs.CanJoin.{CanJoin}
use Rattle.sm_reservation.specs.Short.{first_short}
use Rattle.sm_reservation.specs.Pool.{IsKnownHold}
use Rattle.sm_reservation.specs.declared.stream_id.StreamId.{StreamId}
use Rattle.sm_plan_code.specs.declared.instruction.Instr.{Instr}
use Rattle.sm_plan_code.specs.declared.call.ServerCall.{ServerCall}
use Rattle.sm_plan_code.specs.Instr.{shard_of, IsOwn}
use Rattle.sm_placement.specs.declared.limits.TheConstants.{VERSIONS_END}
use Rattle.sm_protocol.specs.State.{State, is_begun, progress_of, signal_count, parcel_at, numbers_end}
use Rattle.sm_machine.specs.Course.{hold_in, rights_in, HasCapacityIn}
use Rattle.sm_machine.specs.State.{Whole}
use Rattle.sm_machine.specs.Trade.{CanTrade, CanTradeUnless, CanServe}

-- the stream can come behind its instruction, and the log has a place for the step
pub record IsReadyToGo (w : State) (id : StreamId) : Type 0 where
  pub begun : is_begun w id ≡ true
  pub running : (progress_of w id).done ≡ false
  pub at : (progress_of w id).at < numbers_end
  pub room : length w.log < w.room

-- the stream tries a call, which comes to its server
pub record IsReadyToCall (x : Whole) (id : StreamId) (i : Instr) (c : ServerCall) : Type 0 where
  pub go : IsReadyToGo x.state id
  pub known : IfSome (shard_of i) (λ s. s < x.state.sizes.shards)
  pub own : IsOwn i
  pub can : CanTradeUnless (progress_of x.state id).ahead x.state.sizes i (x.grants id.plan id.stream)
  pub call : CanServe x.state (progress_of x.state id) c
  pub numbers : (s : ℕ) → x.state.numbers s < numbers_end
  pub next : x.state.next_number < numbers_end
  pub tries : (progress_of x.state id).tries < 2 ^ 64 - 1
  pub effects : (progress_of x.state id).effects < numbers_end

-- the stream gives up what its instruction needs
pub record IsReadyToTrade (x : Whole) (id : StreamId) (i : Instr) : Type 0 where
  pub begun : is_begun x.state id ≡ true
  pub running : (progress_of x.state id).done ≡ false
  pub known : IfSome (shard_of i) (λ s. s < x.state.sizes.shards)
  pub own : IsOwn i
  pub can : CanTrade x.state.sizes i (x.grants id.plan id.stream)

-- the published map has another entry of the shard
pub record IsReadyToPublish (w : State) (id : StreamId) (s : ℕ) (server : Option ℕ) : Type 0 where
  pub go : IsReadyToGo w id
  pub shard : s < w.sizes.shards
  pub listed : ForSome server (λ u. u < w.sizes.servers)
  pub version : w.place.version s < VERSIONS_END

-- the stream posts a signal
pub record IsReadyToPost (x : Whole) (id : StreamId) (q : ℕ) : Type 0 where
  pub go : IsReadyToGo x.state id
  pub signal : q < signal_count x.state id.plan
  pub there : (x.state.marks id.plan q).awaited ≡ false
  pub held : first_short (hold_in (x.grants id.plan id.stream)) (parcel_at x.state id.plan q) ≡ None
  pub fits : CanJoin (hold_in (x.parcels id.plan q)) (hold_of (parcel_at x.state id.plan q))
  pub capacity : HasCapacityIn (x.parcels id.plan q) (parcel_at x.state id.plan q)

-- the stream takes the parcel of a signal
pub record IsReadyToTake (x : Whole) (id : StreamId) (q : ℕ) : Type 0 where
  pub go : IsReadyToGo x.state id
  pub signal : q < signal_count x.state id.plan
  pub there : (x.state.marks id.plan q).awaited ≡ false
  pub fits : CanJoin (hold_in (x.grants id.plan id.stream)) (hold_in (x.parcels id.plan q))
  pub capacity : HasCapacityIn (x.grants id.plan id.stream) (rights_in (x.parcels id.plan q))

-- the stream finishes
pub record IsReadyToEnd (x : Whole) (id : StreamId) : Type 0 where
  pub begun : is_begun x.state id ≡ true
  pub running : (progress_of x.state id).done ≡ false
  pub below : IsKnownHold x.state.sizes.shards x.state.sizes.servers (hold_in (x.grants id.plan id.stream))
  pub fits : CanJoin x.pool (hold_in (x.grants id.plan id.stream))
  pub room : length x.state.log < x.state.room
