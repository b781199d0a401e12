-- Carried servers: those that were recorded down, did not answer a reopening, and have taken no settle since.
use Rattle.std.specs.Prelude.{◌≡◌, ◌<◌, ℕ, ◌&&◌, Bool, true, false, List, length, map, slice_index_or}
use Rattle.std.specs.List.{range_with_len}
use Rattle.sm_protocol.specs.State.{State}

-- a server is carried over, by these marks by the servers' numbers
abbrev pub was_carried : List Bool → ℕ → Bool
was_carried carried v = slice_index_or carried v false

-- the marks of this many servers, of which only those that are down count
abbrev pub carried_down : List Bool → ℕ → (ℕ → Bool) → List Bool
carried_down carried servers down = map (λ v. was_carried carried v && down v) (range_with_len 0 servers)

-- Each server has a mark, and those that are carried over are down.
pub record AreCarriedDown (w : State) (carried : List Bool) : Type 0 where
  pub servers : length carried ≡ w.sizes.servers
  pub down : (v : ℕ) → v < w.sizes.servers → was_carried carried v ≡ true → w.place.down v ≡ true
