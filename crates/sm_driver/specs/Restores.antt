-- The messages to servers that have lost all they had.
-- `handover_in_cell` is internal: you need not read it for the public contracts.
use Rattle.std.specs.Prelude.{ℕ, ◌+◌, ◌==◌, Bool, false, Option, Some, None, List, length, map, slice_index_or}
use Rattle.std.specs.List.{range_with_len}
use Rattle.sm_server.specs.declared.call.Cell.{Cell}
use Rattle.sm_server.specs.declared.call.Cell.TheVariants.{Prepared, Forwarding}
use Rattle.sm_protocol.specs.State.{State}
use Rattle.laws_network.specs.Net.{cell_above}

-- The message to a server: under which nonce it asked, the number at or below which orders are old to it from then on,
-- and its cells, by the shards' numbers.
pub record RestoreModel : Type 0 where
  pub nonce : ℕ
  pub number : ℕ
  pub cells : List Cell

-- what a server was told last, of these by the servers' numbers
abbrev pub restore_at : List (Option RestoreModel) → ℕ → Option RestoreModel
restore_at restores v = slice_index_or restores v None

-- it was told under this nonce
abbrev pub is_under : ℕ → Option RestoreModel → Bool
is_under nonce None = false
is_under nonce (Some restore) = restore.nonce == nonce

-- a server was told under this nonce last
abbrev pub is_last_restore : List (Option RestoreModel) → ℕ → ℕ → Bool
is_last_restore restores v nonce = is_under nonce (restore_at restores v)

-- what is recorded of a server's cells, with the base in handover numbers
abbrev pub cells_told : ℕ → State → ℕ → List Cell
cells_told base w v = map (λ s. cell_above base (w.place.cells s v)) (range_with_len 0 w.sizes.shards)

-- what a server is told now that asks under this nonce: all that was ever sent to it is at or below the number
abbrev pub restore_now : ℕ → State → ℕ → ℕ → RestoreModel
restore_now base w v nonce = record { nonce = nonce; number = base + length w.log; cells = cells_told base w v }

-- the handover number in a cell, 0 if it has none
abbrev pub handover_in_cell : Cell → ℕ
handover_in_cell (Prepared from number) = number
handover_in_cell (Forwarding to number) = number
handover_in_cell _ = 0
