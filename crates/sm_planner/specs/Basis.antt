-- The basis that a plan is made from, and the moves that it is to make.
-- `basis_of` is internal: you need not read it for the public contracts.
use Rattle.std.specs.Prelude.{ℕ, ◌||◌, Bool, List, length, slice_index_or}
use Rattle.sm_server.specs.declared.call.Cell.{Cell}
use Rattle.sm_server.specs.Cell.{is_primary, is_secondary}
use Rattle.sm_placement.specs.Setup.{Setup, sizes_of}
use Rattle.sm_placement.specs.Place.{Place}
use Rattle.sm_placement.specs.Layout.{PlacementModel, place_of}
use Rattle.sm_reservation.specs.Hold.{Hold}
use Rattle.sm_reservation.specs.Pool.{PoolModel, pool_hold}
use Rattle.sm_protocol.specs.State.{State, pool}
use Rattle.sm_plan_code.specs.declared.moves.Move.{Move}
use Rattle.sm_plan_code.specs.Move.{IsKnownMove}
use Rattle.sm_plan_code.specs.Plan.{PlanModel}
use Rattle.sm_verifier.specs.Admission.{IsAdmitted}
use Rattle.sm_machine.specs.Machine.{MachineModel}
use Rattle.sm_machine.specs.State.{state_of}

-- a configuration, a placement of it, and the rights that nobody has
pub record Basis : Type 0 where
  pub setup : Setup
  pub place : Place
  pub pool : Hold

-- what a plan is made from, of these parts
abbrev pub basis : Setup → Place → Hold → Basis
basis setup place pool = record { setup = setup; place = place; pool = pool }

-- what a plan is made from that is to be admitted at a placement with its pool
abbrev pub basis_of : PlacementModel → PoolModel → Basis
basis_of placement pool = basis placement.setup (place_of placement) (pool_hold pool)

-- what a plan is made from at a state: its placement, and the rights that no stream has there
abbrev pub basis_at : Setup → State → Basis
basis_at setup w = basis setup w.place (pool w)

-- what a plan is made from that is to start at a machine as it stands
abbrev pub basis_now : MachineModel → Basis
basis_now m = basis_at m.placement.setup (state_of m)

-- the plan may start at a machine as it stands
abbrev pub MayStartNow : MachineModel → PlanModel → Type 0
MayStartNow m = IsAdmitted (state_of m).sizes (state_of m).place (pool (state_of m))

-- the default if the list has no such move
abbrev pub no_move : Move
no_move = record { shard = 0; from = 0; to = 0 }

-- the move at a place of the list
abbrev pub move_at : List Move → ℕ → Move
move_at moves i = slice_index_or moves i no_move

-- the load of a move: what its replica weighs
abbrev pub move_load : Setup → Move → ℕ
move_load setup m = (sizes_of setup).load m.shard

-- the shard and both servers are of the configuration
abbrev pub IsMoveOf : Setup → Move → Type 0
IsMoveOf setup m = IsKnownMove (length setup.shards) (length setup.servers) m

-- the cell that a move leaves
abbrev pub left_cell : Place → Move → Cell
left_cell p m = p.cells m.shard m.from

-- the server has a replica of the shard: a primary or a secondary
abbrev pub is_replica : Cell → Bool
is_replica cell = is_primary cell || is_secondary cell
