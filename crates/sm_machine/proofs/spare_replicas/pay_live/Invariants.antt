use Rattle.std.proofs.Common.{◌≡◌}
use Rattle.sm_placement.specs.Layout.{place_of}
use Rattle.sm_reservation.specs.Pool.{pool_hold, SameSize}
use Rattle.sm_machine.specs.Tied.{pay_live}
use Rattle.sm_machine.specs.SpareReplicas.{live_there}
use Rattle.sm_machine.proofs.spare_replicas.pay_live.Given as goal

abbrev pub invariant-loop-number : goal.invariant-loop-number
invariant-loop-number l = record {
  hold : pool_hold l.pool ≡ pay_live (pool_hold l.fn.pool) (live_there (place_of l.placement) l.server) l.number;
  size : SameSize l.fn.pool l.pool;
}
