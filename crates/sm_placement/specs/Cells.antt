-- A cell as a state and a party, and a list of cells as their states and parties.
-- Internal definitions: you need not read them for the public contracts.
use Rattle.std.specs.Prelude.{ℕ, Bool, true, false, List, length, map, Option, Some, None}
use Rattle.std.specs.List.{range_with_len}
use Rattle.sm_server.specs.declared.call.Cell.{Cell}
use Rattle.sm_server.specs.declared.call.Cell.TheVariants.{Absent, Prepared, Secondary, Primary, Forwarding}
use Rattle.sm_placement.specs.declared.cells.State.{State}
use Rattle.sm_placement.specs.declared.cells.State.TheVariants as state
use Rattle.sm_placement.specs.declared.parties.Party.{Party}
use Rattle.sm_placement.specs.Layout.{entries_of}

-- what a cell is, without its party
abbrev pub state_of_cell : Cell → State
state_of_cell Absent = state.Absent
state_of_cell (Prepared from number) = state.Prepared
state_of_cell Secondary = state.Secondary
state_of_cell Primary = state.Primary
state_of_cell (Forwarding to number) = state.Forwarding

-- the other server and the number of a cell's handover, if it is in one
abbrev pub named_party : Cell → Option Party
named_party (Prepared from number) = Some (record { server = from; number = number })
named_party (Forwarding to number) = Some (record { server = to; number = number })
named_party _ = None

-- the cell of a state is in a handover
abbrev pub has_party : State → Bool
has_party state.Prepared = true
has_party state.Forwarding = true
has_party _ = false

-- the cell of a state, with a party if it has one
abbrev pub cell_of : State → Party → Cell
cell_of state.Absent party = Absent
cell_of state.Prepared party = Prepared party.server party.number
cell_of state.Secondary party = Secondary
cell_of state.Primary party = Primary
cell_of state.Forwarding party = Forwarding party.server party.number

-- the cells of these states, whose parties stand beside them
unfoldable pub with_parties : List State → (ℕ → Party) → List Cell
with_parties states at = map (λ k. cell_of (entries_of state.Absent states k) (at k)) (range_with_len 0 (length states))
