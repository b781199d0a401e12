-- A placed move, with the stretches of room that it takes and frees.
-- Internal definitions: you need not read them for the public contracts.
use Rattle.std.specs.Prelude.{◌≡◌, ◌<◌, ◌≤◌, ℕ, ◌&&◌, ◌==◌, not, nat_lt, Bool, List, length, map, filter}
use Rattle.std.specs.Prelude.{slice_index_or, if◌then◌else◌}
use Rattle.std.specs.List.{range_with_len}
use Rattle.sm_plan_code.specs.declared.moves.Move.{Move}
use Rattle.sm_planner.specs.declared.payment.Placed.{Placed}
use Rattle.sm_planner.specs.Basis.{Basis, no_move, move_at, move_load}
use Rattle.sm_planner.specs.Payment.{HandedRoom, handed, overlap, takes_from, frees_from, from_move, stream_of}

-- the k-th placed move, what it weighs, what the pool has where it goes, and where its stretches begin
abbrev pub stretch : Basis → List Move → ℕ → Placed
stretch b order k = record {
  wanted = move_at order k;
  load = move_load b.setup (move_at order k);
  pool = b.pool.room (move_at order k).to;
  takes_from = takes_from b order k;
  frees_from = frees_from b order k;
}

-- what a placed move pays from the stretch that an earlier one frees
abbrev pub paid_from : Placed → Placed → ℕ
paid_from payer source =
    if source.wanted.from == payer.wanted.to then overlap payer.takes_from payer.load source.frees_from source.load else 0

-- the room of each signal is handed on by an earlier move, and there is some
pub record IsGiven (b : Basis) (order : List Move) (h : HandedRoom) : Type 0 where
  pub payer : h.payer < length order
  pub source : h.source < h.payer
  pub amount : 0 < from_move b order h.payer h.source

-- the default if there is no such placed move
abbrev pub no_stretch : Placed
no_stretch = record { wanted = no_move; load = 0; pool = 0; takes_from = 0; frees_from = 0 }

-- the k-th placed move, with its stretches
abbrev pub placed_at : List Placed → ℕ → Placed
placed_at placed k = slice_index_or placed k no_stretch

-- the k-th placed move pays with room of an earlier one, which is of another stream
abbrev pub is_paid_by : List Placed → ℕ → ℕ → Bool
is_paid_by placed k j = nat_lt 0 (paid_from (placed_at placed k) (placed_at placed j)) && not (stream_of k == stream_of j)

-- the signals that hand room on to the k-th placed move
abbrev pub handed_to : List Placed → ℕ → List HandedRoom
handed_to placed k = map (handed k) (filter (is_paid_by placed k) (range_with_len 0 k))

-- the stretches that placed moves free at a server lie behind the room that the pool has there
abbrev pub IsFreedBehindPool : List Placed → Type 0
IsFreedBehindPool placed =
    (k j : ℕ) → k < length placed → j < length placed
    → (placed_at placed j).wanted.from ≡ (placed_at placed k).wanted.to
    → (placed_at placed k).pool ≤ (placed_at placed j).frees_from
