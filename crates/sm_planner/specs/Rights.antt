-- The rights that a move needs: to the new cell, and the crown of a primary's shard or the right to a secondary's old
-- cell.
use Rattle.std.specs.Prelude.{ℕ, ◌&&◌, ◌||◌, ◌==◌, not, Bool, List}
use Rattle.std.specs.List.{list_any}
use Rattle.sm_server.specs.Cell.{is_primary, is_secondary}
use Rattle.sm_placement.specs.declared.lead.Lead.TheVariants.{At}
use Rattle.sm_placement.specs.Place.{Place}
use Rattle.sm_reservation.specs.declared.right.PlainCell.TheVariants.{Absent, Secondary}
use Rattle.sm_reservation.specs.Amounts.{is_cell, is_crown}
use Rattle.sm_plan_code.specs.declared.moves.Move.{Move}
use Rattle.sm_planner.specs.Basis.{Basis, left_cell}

-- the pool has the crown of a shard whose primary stands at the server, as the published map has it
abbrev pub has_crown_at : Basis → ℕ → ℕ → Bool
has_crown_at b s v = is_crown (At v) (b.place.listed s) (b.pool.crowns s)

-- the pool has the rights that the move needs
abbrev pub has_rights : Basis → Move → Bool
has_rights b m =
    (is_cell Absent (b.pool.cells m.shard m.to)
    && (not (is_secondary (left_cell b.place m)) || is_cell Secondary (b.pool.cells m.shard m.from)))
    && (not (is_primary (left_cell b.place m)) || has_crown_at b m.shard m.from)

-- the move needs the right to its shard's cell at this server: the new one, or the old one of a secondary
abbrev pub needs_cell : Place → Move → ℕ → Bool
needs_cell p m v = (m.to == v) || ((m.from == v) && is_secondary (left_cell p m))

-- there is a right that both moves need: to a cell, or the crown
abbrev pub shares_right : Place → Move → Move → Bool
shares_right p m n =
    (n.shard == m.shard)
    && ((needs_cell p n m.to || (is_secondary (left_cell p m) && needs_cell p n m.from))
    || (is_primary (left_cell p m) && is_primary (left_cell p n)))

-- one of the earlier moves needs a right that the move needs
abbrev pub is_forestalled : Place → List Move → Move → Bool
is_forestalled p earlier m = list_any (shares_right p m) earlier
