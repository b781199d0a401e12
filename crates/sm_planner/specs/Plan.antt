-- The plan of moves that are placed in an order.
use Rattle.std.specs.Prelude.{ℕ, ◌==◌, min, Option, Some, None, List, [], ◌∷◌, ◌++◌, length, count_by, sum_by, filter}
use Rattle.std.specs.Prelude.{map, slice_index_or, if◌then◌else◌}
use Rattle.std.specs.List.{flat_map}
use Rattle.std.specs.List.{range_with_len}
use Rattle.sm_server.specs.declared.call.Role.TheVariants as role
use Rattle.sm_server.specs.Cell.{is_primary}
use Rattle.sm_placement.specs.declared.lead.Lead.TheVariants.{At}
use Rattle.sm_placement.specs.Setup.{sizes_of}
use Rattle.sm_placement.specs.Place.{Place}
use Rattle.sm_reservation.specs.declared.right.PlainCell.TheVariants.{Absent, Secondary}
use Rattle.sm_reservation.specs.declared.right.CellRight.{CellRight}
use Rattle.sm_reservation.specs.declared.right.Crown.{Crown}
use Rattle.sm_reservation.specs.declared.right.Room.{Room}
use Rattle.sm_reservation.specs.Rights.{Rights}
use Rattle.sm_reservation.specs.InOrder.{in_order}
use Rattle.sm_plan_code.specs.declared.instruction.Instr.{Instr}
use Rattle.sm_plan_code.specs.declared.instruction.Instr.TheVariants.{PrepareAdd, PrepareDrop, Add, Drop, Publish}
use Rattle.sm_plan_code.specs.declared.instruction.Instr.TheVariants.{Signal, Wait}
use Rattle.sm_plan_code.specs.declared.limits.TheConstants.{MOST_STREAMS}
use Rattle.sm_plan_code.specs.Instr.{is_call}
use Rattle.sm_plan_code.specs.Plan.{StreamModel, PlanModel}
use Rattle.sm_plan_code.specs.declared.moves.Move.{Move}
use Rattle.sm_planner.specs.Basis.{Basis, move_at, left_cell}
use Rattle.sm_planner.specs.Payment.{HandedRoom, handed, from_pool, from_move, stream_of, signals_of}

-- ---- instructions

-- the published map is told, if it names a server
abbrev pub publication : Option ℕ → ℕ → List Instr
publication None s = []
publication (Some v) s = Publish s ∷ []

-- a primary is handed over, in the five steps of a handover (SM 2021); the fourth is left out if no server is listed
abbrev pub handing_over : Option ℕ → Move → List Instr
handing_over listed m =
    PrepareAdd m.shard m.to m.from ∷ PrepareDrop m.shard m.from m.to ∷ Add m.shard m.to role.Primary
    ∷ (publication listed m.shard ++ Drop m.shard m.from ∷ [])

-- a secondary is added at the new server, then dropped at the old one
abbrev pub copying : Move → List Instr
copying m = Add m.shard m.to role.Secondary ∷ Drop m.shard m.from ∷ []

-- how a move is made: a primary is handed over, and a secondary added and dropped
abbrev pub instructions : Place → Move → List Instr
instructions p m = if is_primary (left_cell p m) then handing_over (p.listed m.shard) m else copying m

-- what the signal of this number hands on
abbrev pub signal_at : List HandedRoom → ℕ → HandedRoom
signal_at signals q = slice_index_or signals q (handed 0 0)

-- the k-th placed move waits for the signals that carry room with which it pays
abbrev pub waits_of : List HandedRoom → ℕ → List Instr
waits_of signals k = map Wait (filter (λ q. (signal_at signals q).payer == k) (range_with_len 0 (length signals)))

-- the k-th placed move posts the signals that carry room which it freed
abbrev pub posts_of : List HandedRoom → ℕ → List Instr
posts_of signals k = map Signal (filter (λ q. (signal_at signals q).source == k) (range_with_len 0 (length signals)))

-- the code of the k-th placed move, where these are the signals: its waits, its instructions, its posts
abbrev pub drafted_code : Place → List Move → List HandedRoom → ℕ → List Instr
drafted_code p order signals k = waits_of signals k ++ (instructions p (move_at order k) ++ posts_of signals k)

-- the code of the k-th placed move, where the signals are those of all moves that are placed in this order
abbrev pub move_code : Basis → List Move → ℕ → List Instr
move_code b order k = drafted_code b.place order (signals_of b order) k

-- ---- what a stream declares

-- the placed moves of a stream
abbrev pub moves_of : List Move → ℕ → List ℕ
moves_of order i = filter (λ k. stream_of k == i) (range_with_len 0 (length order))

-- the rights to cells that a move needs: to the new cell, and for a secondary to the old one too
abbrev pub cells_needed : Place → Move → List CellRight
cells_needed p m =
    record { shard = m.shard; server = m.to; state = Absent }
    ∷ (if is_primary (left_cell p m) then [] else record { shard = m.shard; server = m.from; state = Secondary } ∷ [])

-- a primary's move needs the crown of its shard, and a secondary's none
abbrev pub crowns_of : Place → Move → List Crown
crowns_of p m =
    if is_primary (left_cell p m) then record { shard = m.shard; lead = At m.from; listed = p.listed m.shard } ∷ [] else []

-- how much of the pool's room of a server these placed moves pay with
abbrev pub paid_by : Basis → List Move → List ℕ → ℕ → ℕ
paid_by b order numbers v = sum_by (λ k. if (move_at order k).to == v then from_pool b order k else 0) numbers

-- the amount of room of a server that these placed moves pay from the pool
abbrev pub room_by : Basis → List Move → List ℕ → ℕ → Room
room_by b order numbers v = record { server = v; amount = paid_by b order numbers v }

-- the rights that these placed moves need, move by move, and what they pay from the pool's room, server by server
abbrev pub needs_by : Basis → List Move → List ℕ → Rights
needs_by b order numbers = record {
  cells = flat_map (λ k. cells_needed b.place (move_at order k)) numbers;
  crowns = flat_map (λ k. crowns_of b.place (move_at order k)) numbers;
  room = map (room_by b order numbers) (range_with_len 0 (sizes_of b.setup).servers);
  spare = [];
}

-- what a stream of these placed moves declares: those rights in the order of their keys, without amounts of 0
abbrev pub holds_by : Basis → List Move → List ℕ → Rights
holds_by b order numbers = in_order (needs_by b order numbers)

-- what the i-th stream declares, for the moves that it makes
abbrev pub holds_of : Basis → List Move → ℕ → Rights
holds_of b order i = holds_by b order (moves_of order i)

-- ---- streams and signals

-- the code of a stream: that of each of its moves, in the order in which they are placed
abbrev pub stream_code : Basis → List Move → ℕ → List Instr
stream_code b order i = flat_map (move_code b order) (moves_of order i)

-- a stream makes its moves one after another, and may make just their calls
abbrev pub stream : Basis → List Move → ℕ → StreamModel
stream b order i = record {
  budget = count_by is_call (stream_code b order i);
  retries = 0;
  holds = holds_of b order i;
  code = stream_code b order i;
}

-- as many streams as moves, at most as many as a plan may have
abbrev pub streams_of : Basis → List Move → List StreamModel
streams_of b order = map (stream b order) (range_with_len 0 (min (length order) MOST_STREAMS))

-- a signal carries the room that is handed on, and nothing else
abbrev pub handed_parcel : Basis → List Move → HandedRoom → Rights
handed_parcel b order h = record {
  cells = [];
  crowns = [];
  room = record { server = (move_at order h.payer).to; amount = from_move b order h.payer h.source } ∷ [];
  spare = [];
}

-- the plan of moves that are placed in this order; its budget is the sum of its streams' budgets
abbrev pub planned : Basis → List Move → PlanModel
planned b order = record {
  budget = sum_by (λ s. s.budget) (streams_of b order);
  streams = streams_of b order;
  signals = map (handed_parcel b order) (signals_of b order);
}
