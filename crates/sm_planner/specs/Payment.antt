-- The payment for the room that a move takes. The room of a server is used up from its front: first what the pool has,
-- then what placed moves free there, in their order. Each move that goes there takes a stretch of it, and begins where
-- the moves placed before it ended.
use Rattle.std.specs.Prelude.{ℕ, ◌+◌, ◌-◌, ◌%◌, ◌&&◌, ◌==◌, not, nat_lt, min, max, Bool, List, length, take, sum_by}
use Rattle.std.specs.Prelude.{filter, map, if◌then◌else◌}
use Rattle.std.specs.List.{flat_map}
use Rattle.std.specs.List.{range_with_len}
use Rattle.sm_planner.specs.declared.payment.HandedRoom as code
use Rattle.sm_plan_code.specs.declared.limits.TheConstants.{MOST_STREAMS}
use Rattle.sm_plan_code.specs.declared.moves.Move.{Move}
use Rattle.sm_planner.specs.Basis.{Basis, move_at, move_load}
use Rattle.sm_planner.specs.Placing.{taken_by, freed_by}

-- how much of a stretch of n from a on lies in a stretch of m from b on
abbrev pub overlap : ℕ → ℕ → ℕ → ℕ → ℕ
overlap a n b m = min (a + n) (b + m) - max a b

-- where the stretch begins that the k-th placed move takes at the server to which it goes
abbrev pub takes_from : Basis → List Move → ℕ → ℕ
takes_from b order k = sum_by (taken_by b.setup (move_at order k).to) (take k order)

-- where the stretch begins that the j-th placed move frees at the server from which it comes
abbrev pub frees_from : Basis → List Move → ℕ → ℕ
frees_from b order j = b.pool.room (move_at order j).from + sum_by (freed_by b.setup (move_at order j).from) (take j order)

-- what the k-th placed move pays from the pool
abbrev pub from_pool : Basis → List Move → ℕ → ℕ
from_pool b order k = overlap (takes_from b order k) (move_load b.setup (move_at order k)) 0 (b.pool.room (move_at order k).to)

-- what it pays from the room that the j-th placed move freed
abbrev pub from_move : Basis → List Move → ℕ → ℕ → ℕ
from_move b order k j =
    if nat_lt j k && ((move_at order j).from == (move_at order k).to)
    then overlap (takes_from b order k) (move_load b.setup (move_at order k)) (frees_from b order j) (move_load b.setup (move_at order j))
    else 0

-- the stream of the k-th placed move
abbrev pub stream_of : ℕ → ℕ
stream_of k = k % MOST_STREAMS

-- Room that one placed move hands on to another by a signal: who pays with it, and whose it was.
abbrev pub HandedRoom : Type 0
HandedRoom = code.HandedRoom

-- the k-th placed move pays with room of the j-th
abbrev pub handed : ℕ → ℕ → HandedRoom
handed k j = record { payer = k; source = j }

-- the k-th placed move pays with room of the j-th, which is of another stream
abbrev pub is_handed : Basis → List Move → ℕ → ℕ → Bool
is_handed b order k j = nat_lt 0 (from_move b order k j) && not (stream_of k == stream_of j)

-- the signals, each at its number: by the move that pays, then by the one whose room it is
abbrev pub signals_of : Basis → List Move → List HandedRoom
signals_of b order =
    flat_map (λ k. map (handed k) (filter (is_handed b order k) (range_with_len 0 k))) (range_with_len 0 (length order))
