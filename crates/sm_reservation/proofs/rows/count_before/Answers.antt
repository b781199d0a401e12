use Rattle.std.proofs.Common.{rules}
use Rattle.std.proofs.lemmas.List.Sorted.{IsPartitionPoint-from_clause}
use Rattle.sm_reservation.specs.Rows.{before}
use Rattle.sm_reservation.proofs.Search.{rows_before_first, count_at_partition}
use Rattle.sm_reservation.proofs.rows.count_before.Goals as goal

pub returns : goal.returns
returns g c =
    count_at_partition g.T.Row.key c.args.key c.args.rows.now c.partition_point.result c.partition_point.ensures.bound
    (IsPartitionPoint-from_clause (λ x. before (g.T.Row.key x) c.args.key) c.args.rows.now c.partition_point.result c.partition_point.ensures.partitioned (rows_before_first g.T.Row.key c.args.key c.args.rows.now c.requires) (λ a r f' k. search rules))
