-- The rights that a stream gives up and gets with an instruction.
-- Internal definitions: you need not read them for the public contracts.
use Rattle.std.specs.Prelude.{◌≡◌, ◌<◌, ◌≤◌, ℕ, Bool, true, false, Option, IsOk}
use Rattle.sm_placement.specs.Setup.{Sizes}
use Rattle.sm_reservation.specs.Rights.{Rights}
use Rattle.sm_reservation.specs.Hold.{Hold, minus, plus}
use Rattle.sm_reservation.specs.HoldOf.{hold_of}
use Rattle.sm_reservation.specs.Capacity.{HoldModel}
use Rattle.sm_reservation.specs.CanJoin.{CanJoin}
use Rattle.sm_reservation.specs.Change.{portion_rights}
use Rattle.sm_plan_code.specs.declared.instruction.Instr.{Instr}
use Rattle.sm_plan_code.specs.After.{after}
use Rattle.sm_plan_code.specs.Table.{needs_of, gives_of}
use Rattle.sm_placement.specs.Rows.{IsKnownCall}
use Rattle.sm_placement.specs.Place.{called_numbered}
use Rattle.sm_plan_code.specs.declared.call.ServerCall.{ServerCall}
use Rattle.sm_protocol.specs.State.{State, Progress}
use Rattle.sm_protocol.specs.Steps.{call_number}
use Rattle.sm_machine.specs.Course.{hold_in, capacity_in, HasCapacityAfterIn}

-- The instruction may be made with what a grant holds: what it gives can be put in, and there is capacity for it.
pub record CanTrade (c : Sizes) (i : Instr) (grant : Option HoldModel) : Type 0 where
  pub signals : ℕ → Rights
  pub made : IsOk (after c signals i (hold_in grant))
  pub joins : CanJoin (minus (hold_in grant) (portion_rights (needs_of c i (hold_in grant)))) (hold_of (portion_rights (gives_of c i (hold_in grant))))
  pub capacity : HasCapacityAfterIn grant (portion_rights (needs_of c i (hold_in grant))) (portion_rights (gives_of c i (hold_in grant)))

-- the hold after an instruction: what it needs is out, and what it gives is in
abbrev pub traded : Sizes → Instr → Hold → Hold
traded c i h = plus (minus h (portion_rights (needs_of c i h))) (portion_rights (gives_of c i h))

-- A grant after the instruction, with as much capacity.
pub record IsTradedBy (c : Sizes) (i : Instr) (old new : Option HoldModel) : Type 0 where
  pub hold : hold_in new ≡ traded c i (hold_in old)
  pub capacity : capacity_in new ≡ capacity_in old

-- The same, unless the call has had its effect before.
abbrev pub IsTradedUnless : Bool → Sizes → Instr → Option HoldModel → Option HoldModel → Type 0
IsTradedUnless true c i old new = new ≡ old
IsTradedUnless false c i old new = IsTradedBy c i old new

-- The instruction may be made with what the grant holds; a call that has had its effect before asks for nothing.
abbrev pub CanTradeUnless : Bool → Sizes → Instr → Option HoldModel → Type 0
CanTradeUnless true c i grant = Unit {0}
CanTradeUnless false c i grant = CanTrade c i grant

-- A call of a stream that stands so comes to a known server, which serves it.
pub record CanServe (w : State) (progress : Progress) (x : ServerCall) : Type 0 where
  pub shard : x.shard < w.sizes.shards
  pub server : x.server < w.sizes.servers
  pub party : IsKnownCall w.sizes.servers x.call
  pub number : 1 ≤ call_number w progress
  pub served : IsOk (called_numbered w.sizes w.place x.shard x.server x.call (call_number w progress))
