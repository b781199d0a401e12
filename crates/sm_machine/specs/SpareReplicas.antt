-- Conditions of the loops over the shards of a server that goes down or comes up.
-- Internal definitions: you need not read them for the public contracts.
use Rattle.std.specs.Prelude.{◌≡◌, ◌<◌, ◌≤◌, ◌+◌, ◌^◌, ℕ, Bool, true}
use Rattle.sm_placement.specs.Place.{Place, is_live_at}
use Rattle.sm_reservation.specs.Hold.{Hold}
use Rattle.sm_machine.specs.Tied.{pay_live, get_live}

-- which shards are live at a server
abbrev pub live_there : Place → ℕ → ℕ → Bool
live_there p v s = is_live_at p s v

-- at each live shard in its turn there is a spare replica
abbrev pub CanPayLive : Hold → (ℕ → Bool) → ℕ → Type 0
CanPayLive h live shards = (n : ℕ) → n < shards → live n ≡ true → 1 ≤ (pay_live h live n).spare n

-- at each live shard in its turn one more spare replica fits
abbrev pub CanGetLive : Hold → (ℕ → Bool) → ℕ → Type 0
CanGetLive h live shards = (n : ℕ) → n < shards → live n ≡ true → (get_live h live n).spare n + 1 < 2 ^ 64
