-- How much there is of each right: in a hold, and in a placement.
use Rattle.std.specs.Prelude.{ℕ, ◌==◌, ◌&&◌, Bool, true, false, Option, Some, None}
use Rattle.sm_server.specs.declared.call.Cell.{Cell}
use Rattle.sm_server.specs.declared.call.Cell.TheVariants as cell
use Rattle.sm_placement.specs.declared.lead.Lead.{Lead}
use Rattle.sm_placement.specs.declared.lead.Lead.TheVariants.{Gone, At, Ready, Handing, Handed}
use Rattle.sm_placement.specs.Sums.{bit}
use Rattle.sm_placement.specs.Setup.{Sizes}
use Rattle.sm_placement.specs.Place.{Place, load_at, live_at}
use Rattle.sm_reservation.specs.declared.right.PlainCell.{PlainCell}
use Rattle.sm_reservation.specs.declared.right.PlainCell.TheVariants.{Absent, Secondary}
use Rattle.sm_reservation.specs.Hold.{Hold}

-- One right: a key, with the state of its cell, or with its lead and listed server.
pub data Right : Type 0 where
  OfCell : (s v : ℕ) (state : PlainCell) → Right
  OfCrown : (s : ℕ) (lead : Lead) (listed : Option ℕ) → Right
  OfRoom : (v : ℕ) → Right
  OfSpare : (s : ℕ) → Right

-- a cell is given, and it is in this state
abbrev pub is_cell : PlainCell → Option PlainCell → Bool
is_cell Absent (Some Absent) = true
is_cell Secondary (Some Secondary) = true
is_cell _ _ = false

-- the same server is listed both times, or none is
abbrev pub same_listed : Option ℕ → Option ℕ → Bool
same_listed None None = true
same_listed (Some x) (Some y) = x == y
same_listed _ _ = false

-- the two leads are the same: of one kind, with the same servers
abbrev pub same_lead : Lead → Lead → Bool
same_lead Gone Gone = true
same_lead (At x) (At u) = x == u
same_lead (Ready x y) (Ready u v) = (x == u) && (y == v)
same_lead (Handing x y) (Handing u v) = (x == u) && (y == v)
same_lead (Handed x y) (Handed u v) = (x == u) && (y == v)
same_lead _ _ = false

-- a crown is given, and it has this lead and this listed server
abbrev pub is_crown : Lead → Option ℕ → Option (Lead × Option ℕ) → Bool
is_crown lead listed None = false
is_crown lead listed (Some c) = same_lead lead c.0 && same_listed listed c.1

-- how much of a right a hold has
abbrev pub count : Hold → Right → ℕ
count h (OfCell s v state) = bit (is_cell state (h.cells s v))
count h (OfCrown s lead listed) = bit (is_crown lead listed (h.crowns s))
count h (OfRoom v) = h.room v
count h (OfSpare s) = h.spare s

-- the cell, if there is a right to it
abbrev pub plain_of : Cell → Option PlainCell
plain_of cell.Absent = Some Absent
plain_of cell.Secondary = Some Secondary
plain_of _ = None

-- how much of a right there is in a placement with these leads: one if it is true, all room, all live replicas
abbrev pub stock : Sizes → Place → (ℕ → Lead) → Right → ℕ
stock c p leads (OfCell s v state) = bit (is_cell state (plain_of (p.cells s v)))
stock c p leads (OfCrown s lead listed) = bit (is_crown lead listed (Some (leads s, p.listed s)))
stock c p leads (OfRoom v) = c.room v
stock c p leads (OfSpare s) = live_at c p s

-- how much of it nobody may use: the load of a server, the floor of a shard
abbrev pub bound : Sizes → Place → Right → ℕ
bound c p (OfCell s v state) = 0
bound c p (OfCrown s lead listed) = 0
bound c p (OfRoom v) = load_at c p v
bound c p (OfSpare s) = c.floor s
