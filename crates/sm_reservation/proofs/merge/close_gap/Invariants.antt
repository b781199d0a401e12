use Rattle.std.proofs.Common.{◌≡◌, ◌+◌, ◌-◌, ◌≤◌, ◌++◌, take, drop, vec_len, vec_capacity}
use Rattle.sm_reservation.proofs.merge.close_gap.Given as goal

-- the rows up to here stand further down
abbrev pub invariant-loop-count : goal.invariant-loop-count
invariant-loop-count g l = record {
  done : take (l.write + l.count) l.rows.items ≡ take l.write l.fn.rows.items ++ take l.count (drop l.read l.fn.rows.items);
  rest : drop (l.read + l.count) l.rows.items ≡ drop l.count (drop l.read l.fn.rows.items);
  within : l.read + l.count ≤ vec_len l.rows;
  len : vec_len l.rows ≡ vec_len l.fn.rows;
  capacity : vec_capacity l.rows ≡ vec_capacity l.fn.rows;
}

abbrev pub decreases-loop-count : goal.decreases-loop-count
decreases-loop-count g l = vec_len l.rows - (l.read + l.count)
