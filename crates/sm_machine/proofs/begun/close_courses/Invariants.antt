use Rattle.std.proofs.Common.{◌≡◌, ◌+◌, length}
use Rattle.std.specs.Prelude.{sum_by}
use Rattle.sm_reservation.specs.Amounts.{Right, count}
use Rattle.sm_reservation.specs.Pool.{pool_hold, SameSize}
use Rattle.sm_machine.specs.Returns.{held_in_course, CanTakeBack}
use Rattle.sm_machine.proofs.begun.close_courses.Given as goal

-- what was taken back and what is left are together what there was
abbrev pub invariant-loop : goal.invariant-loop
invariant-loop l = record {
  left : length l.courses.items + l.counter ≡ l.end;
  fits : CanTakeBack l.pool (λ r. sum_by (held_in_course r) l.courses.items);
  counts : (r : Right) → count (pool_hold l.pool) r + sum_by (held_in_course r) l.courses.items ≡ count (pool_hold l.fn.pool) r + sum_by (held_in_course r) l.fn.courses.items;
  size : SameSize l.fn.pool l.pool;
}
