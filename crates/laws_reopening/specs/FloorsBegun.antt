-- Floors from the beginning of a reopening until a settlement is confirmed: a fence takes no replica away.
use Rattle.std.specs.Prelude.{◌≡◌, ◌≢◌, ◌≤◌, ◌<◌, ℕ, ◌&&◌, true, false, None, is_none}
use Rattle.sm_placement.specs.Sums.{count_below}
use Rattle.sm_placement.specs.Place.{Place, is_live_at}
use Rattle.laws_network.specs.Reopening.{Server, Settling}

-- no server was sent a settle: none was confirmed, by this reopening or by one that it replaced
abbrev pub HasSettledNone : Settling → Type 0
HasSettledNone x = (v : ℕ) → x.reopening.promised v ≡ false

-- only servers that are recorded as down have lost their slots
abbrev pub AreOthersKnown : Settling → Type 0
AreOthersKnown x = (v : ℕ) → v < x.world.net.w.sizes.servers → (x.bases (Server v)).nonce ≢ None
    → x.world.net.w.place.down v ≡ true

-- the placement as the servers have it, with those as down that are recorded so
abbrev pub present_place : Settling → Place
present_place x = record x.world.net.w.place { cells = x.world.net.cells }

-- how many replicas of a shard are live at servers that are neither recorded as down nor have lost their slots
abbrev pub live_in_fact : Settling → ℕ → ℕ
live_in_fact x k = count_below x.world.net.w.sizes.servers (λ v. is_live_at (present_place x) k v && is_none (x.bases (Server v)).nonce)

-- Until a settlement is confirmed no fewer replicas are live than the floor of the record that the reopening began
-- over, whatever comes, as long as only servers that are recorded as down have lost their slots.
abbrev pub FloorsRemain : Settling → Type 0
FloorsRemain x = HasSettledNone x → AreOthersKnown x → (k : ℕ) → k < x.world.net.w.sizes.shards
    → x.world.net.w.sizes.floor k ≤ live_in_fact x k
