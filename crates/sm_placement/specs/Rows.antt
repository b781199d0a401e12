-- One shard's cells, by server: who serves it, and who is live.
-- `serving_in` is internal: you need not read it for the public contracts.
use Rattle.std.specs.Prelude.{ℕ, ◌<◌, Bool, true, false, not, ◌&&◌, ◌||◌, ◌==◌, List, [], ◌∷◌, filter, length}
use Rattle.std.specs.List.{range_with_len}
use Rattle.sm_server.specs.declared.call.Cell.{Cell}
use Rattle.sm_server.specs.declared.call.Cell.TheVariants.{Prepared, Primary, Forwarding}
use Rattle.sm_server.specs.declared.call.Call.{Call}
use Rattle.sm_server.specs.declared.call.Call.TheVariants.{PrepareAdd, PrepareDrop}
use Rattle.sm_server.specs.Cell.{is_secondary}
use Rattle.sm_placement.specs.declared.placement.Serving.{Serving}
use Rattle.sm_placement.specs.declared.placement.Serving.TheVariants.{Nobody, One, Several}
use Rattle.sm_placement.specs.Sums.{count_below}

-- the other server of a cell's handover is below n
abbrev pub IsKnownCell : ℕ → Cell → Type 0
IsKnownCell n (Prepared from number) = from < n
IsKnownCell n (Forwarding to number) = to < n
IsKnownCell n _ = Unit {0}

-- the other server that a call names is below n
abbrev pub IsKnownCall : ℕ → Call → Type 0
IsKnownCall n (PrepareAdd owner number) = owner < n
IsKnownCall n (PrepareDrop new_owner number) = new_owner < n
IsKnownCall n _ = Unit {0}

-- the cell forwards to the server v under the number n
abbrev pub forwards : Cell → ℕ → ℕ → Bool
forwards (Forwarding to number) v n = (to == v) && (number == n)
forwards _ v n = false

-- a cell of v serves the shard of the row: a primary does, and a prepared server to which the owner forwards under its
-- number
abbrev pub serves_as : (ℕ → Cell) → ℕ → Cell → Bool
serves_as row v Primary = true
serves_as row v (Prepared from number) = forwards (row from) v number
serves_as row v _ = false

-- v serves the shard of the row
abbrev pub serves : (ℕ → Cell) → ℕ → Bool
serves row v = serves_as row v (row v)

-- v is up and has a replica that counts: a secondary, or one that serves
abbrev pub is_live : (ℕ → Cell) → (ℕ → Bool) → ℕ → Bool
is_live row down v = not (down v) && (is_secondary (row v) || serves row v)

-- how many of the servers below n are live
abbrev pub live_in : ℕ → (ℕ → Cell) → (ℕ → Bool) → ℕ
live_in n row down = count_below n (is_live row down)

-- how many of the servers below n serve, up or down
abbrev pub serving_in : ℕ → (ℕ → Cell) → ℕ
serving_in n row = count_below n (serves row)

-- these servers serve, and no other
abbrev pub serving_among : List ℕ → Serving
serving_among [] = Nobody
serving_among (v ∷ []) = One v
serving_among (v ∷ vs) = Several (length (v ∷ vs))

-- who of the servers below n serves, up or down
abbrev pub serving_of : ℕ → (ℕ → Cell) → Serving
serving_of n row = serving_among (filter (serves row) (range_with_len 0 n))
