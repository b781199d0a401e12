use Rattle.std.proofs.Common.{sym}
use Rattle.sm_reservation.proofs.RowLemmas.{found, not_found, not_found_past}
use Rattle.sm_reservation.proofs.rows.row_at.Goals as goal

pub returns-then-is_same : goal.returns-then-is_same
returns-then-is_same g c = sym (found g.T.Row.key c.args.rows.now c.args.key c.count_before-i.result c.index-rows-i.result c.count_before-i.ensures c.if-i-rows.false c.index-rows-i.is (rw (← c.key.ensures) (cc)))

pub returns-else-is_same : goal.returns-else-is_same
returns-else-is_same g c = sym (not_found g.T.Row.key c.args.rows.now c.args.key c.count_before-i.result c.index-rows-i.result c.requires c.count_before-i.ensures c.index-rows-i.is (rw (← c.key.ensures) (cc)))

pub returns-then-i-rows : goal.returns-then-i-rows
returns-then-i-rows g c = sym (not_found_past g.T.Row.key c.args.rows.now c.args.key c.count_before-i.result c.requires c.count_before-i.ensures c.if-i-rows.true)
