use Rattle.std.proofs.Common.{◌≡◌}
use Rattle.sm_reservation.specs.Pool.{pool_hold, SameSize}
use Rattle.sm_machine.specs.Tied.{pool_left}
use Rattle.sm_machine.specs.Starts.{AreFilled}
use Rattle.sm_machine.proofs.begun.Begun.fill.Given as goal

abbrev pub invariant-loop-stream : goal.invariant-loop-stream
invariant-loop-stream l = record {
  filled : AreFilled l.streams l.stream l.initial.courses.items l.courses.items;
  taken : pool_hold l.pool ≡ pool_left (pool_hold l.fn.pool) l.streams l.stream;
  size : SameSize l.fn.pool l.pool;
}
