use Rattle.std.proofs.Common.{◌≡◌, ◌+◌, ◌≤◌, ◌++◌, take, drop, vec_len, vec_capacity}
use Rattle.sm_reservation.specs.Rows.{Rises}
use Rattle.sm_reservation.specs.Edits.{edited_all, new_rows}
use Rattle.sm_reservation.proofs.merge.merge.Given as goal

-- what is written, and what is read from here on with the rest of the list worked in, is what is wanted
abbrev pub invariant-loop-row : goal.invariant-loop-row
invariant-loop-row g l = record {
  total : take l.write l.rows.items ++ edited_all g.T.Row.key g.E.Edit.edit (drop l.read l.rows.items) (drop l.row-index l.list) ≡ edited_all g.T.Row.key g.E.Edit.edit (drop l.gap l.fn.rows.items) l.list;
  order : Rises g.T.Row.key (drop l.read l.rows.items);
  left : Rises g.T.Row.key (drop l.row-index l.list);
  room : l.write + new_rows g.T.Row.key g.E.Edit.edit (drop l.read l.rows.items) (drop l.row-index l.list) ≤ l.read;
  within : l.read ≤ vec_len l.rows;
  len : vec_len l.rows ≡ vec_len l.fn.rows;
  capacity : vec_capacity l.rows ≡ vec_capacity l.fn.rows;
}
