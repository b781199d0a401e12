-- How placed moves are kept account of: by marks, and by the amounts of room that are left.
-- Internal definitions: you need not read them for the public contracts.
use Rattle.std.specs.Prelude.{◌≡◌, ◌<◌, ◌⊎◌, ℕ, ◌+◌, ◌-◌, ◌&&◌, not, nat_le, Bool, true, false, List, map, slice_index}
use Rattle.std.specs.Prelude.{slice_index_or, slice_set, if◌then◌else◌}
use Rattle.std.specs.List.{range_with_len}
use Rattle.sm_placement.specs.Setup.{Setup}
use Rattle.sm_plan_code.specs.declared.moves.Move.{Move}
use Rattle.sm_planner.specs.Basis.{move_at, move_load}

-- nothing of any of this many servers
abbrev pub no_amounts : ℕ → List ℕ
no_amounts n = map (λ v. 0) (range_with_len 0 n)

-- the move at a place isn't marked
abbrev pub is_left : List Bool → ℕ → Bool
is_left marks i = not (slice_index_or marks i false)

-- nor is its load above the room where it goes
abbrev pub is_next : Setup → List Move → List Bool → List ℕ → ℕ → Bool
is_next setup moves marks room i =
    is_left marks i && nat_le (move_load setup (move_at moves i)) (slice_index room (move_at moves i).to)

-- the room of each server, of which one has this much more
abbrev pub room_freed : List ℕ → ℕ → ℕ → List ℕ
room_freed room v amount = slice_set room v (slice_index room v + amount)

-- the room of each server once a move takes its load where it goes, and then frees it where it comes from
abbrev pub room_after : Setup → Move → List ℕ → List ℕ
room_after setup m room =
    room_freed (slice_set room m.to (slice_index room m.to - move_load setup m)) m.from (move_load setup m)

-- the servers where moves wait for room once the move at a place is passed over that goes to this server
abbrev pub awaited_with : List Bool → ℕ → ℕ → List Bool → List Bool
awaited_with marks i to awaited = if is_left marks i then slice_set awaited to true else awaited

-- of the first n moves none is next, and those that are not marked wait for room where they go
abbrev pub ArePassedOver : Setup → List Move → List Bool → List ℕ → List Bool → ℕ → Type 0
ArePassedOver setup moves marks room awaited n =
    (j : ℕ) → j < n
    → (is_next setup moves marks room j ≡ false)
    × (is_left marks j ≡ true → slice_index_or awaited (move_at moves j).to false ≡ true)

-- the search goes on behind the i-th move, if none waits for room at this server, and otherwise begins anew
abbrev pub IsStart : ℕ → ℕ → List Bool → List Bool → ℕ → Type 0
IsStart i from awaited later start =
    ((slice_index_or awaited from false ≡ false) × (later ≡ awaited) × (start ≡ i + 1)) ⊎ (start ≡ 0)
