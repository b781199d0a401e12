-- The order in which moves are placed: always the first of the list that is not placed yet and whose load fits. A
-- placed move takes room where it goes, and frees room where it comes from.
use Rattle.std.specs.Prelude.{◌≡◌, ◌<◌, ℕ, ◌+◌, ◌-◌, ◌&&◌, ◌==◌, not, nat_le, Bool, Option, Some, None, List, length}
use Rattle.std.specs.Prelude.{take, sum_by, slice_index, if◌then◌else◌}
use Rattle.std.specs.List.{list_any}
use Rattle.sm_placement.specs.Opening.{first_below}
use Rattle.sm_placement.specs.Setup.{Setup}
use Rattle.sm_plan_code.specs.declared.moves.Move.{Move}
use Rattle.sm_planner.specs.Basis.{Basis, move_at, move_load}

-- how much room of a server a move takes
abbrev pub taken_by : Setup → ℕ → Move → ℕ
taken_by setup v m = if m.to == v then move_load setup m else 0

-- how much room of a server a move frees
abbrev pub freed_by : Setup → ℕ → Move → ℕ
freed_by setup v m = if m.from == v then move_load setup m else 0

-- The room of a server that is free once these moves are placed. They are named by their places in the list.
abbrev pub room_left : Basis → List Move → List ℕ → ℕ → ℕ
room_left b moves placed v =
    b.pool.room v
    + sum_by (λ i. freed_by b.setup v (move_at moves i)) placed
    - sum_by (λ i. taken_by b.setup v (move_at moves i)) placed

-- the move at this place of the list is among those that are placed
abbrev pub is_placed : List ℕ → ℕ → Bool
is_placed placed i = list_any (λ j. j == i) placed

-- the move is not placed yet, and its load fits
abbrev pub fits : Basis → List Move → List ℕ → ℕ → Bool
fits b moves placed i =
    not (is_placed placed i) && nat_le (move_load b.setup (move_at moves i)) (room_left b moves placed (move_at moves i).to)

-- the first move of the list that is not placed yet and whose load fits
abbrev pub first_fit : Basis → List Move → List ℕ → Option ℕ
first_fit b moves placed = first_below (length moves) (fits b moves placed)

-- each placed move is the first that fits once those before it are placed, and no further one fits
pub record IsPlacing (b : Basis) (moves : List Move) (placed : List ℕ) : Type 0 where
  pub greedy : (k : ℕ) → k < length placed → first_fit b moves (take k placed) ≡ Some (slice_index placed k)
  pub complete : first_fit b moves placed ≡ None

-- the first move of the list that is not placed
abbrev pub first_left : List Move → List ℕ → Option ℕ
first_left moves placed = first_below (length moves) (λ i. not (is_placed placed i))
