use Rattle.std.proofs.Common.{◌≡◌, ◌<◌, ◌^◌, map}
use Rattle.std.specs.Prelude.{All}
use Rattle.std.specs.List.{range_with_len}
use Rattle.sm_reservation.specs.Pool.{pool_hold}
use Rattle.sm_planner.proofs.marks.Amounts.of_pool.Given as goal

abbrev pub invariant-loop-number : goal.invariant-loop-number
invariant-loop-number l = (l.by_server.items ≡ map (pool_hold l.pool).room (range_with_len 0 l.number)) × All (λ x. x < 2 ^ 64) l.by_server.items
