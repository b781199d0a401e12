use Rattle.std.proofs.Common.{rules}
use Rattle.std.specs.Prelude.{nat_lt}
use Rattle.std.proofs.lemmas.List.Sorted.{IsPartitionPoint-from_clause}
use Rattle.sm_verifier.proofs.NextNumbers.{below_first, next_at, next_past}
use Rattle.sm_verifier.proofs.next.next_row.Goals as goal

pub returns-then-i-rows : goal.returns-then-i-rows
returns-then-i-rows g c =
    next_past g.T.Numbered.number c.args.rows.now c.args.from c.partition_point-i.result c.if-i-rows.true
    (IsPartitionPoint-from_clause (λ x. nat_lt (g.T.Numbered.number x) c.args.from) c.args.rows.now c.partition_point-i.result c.partition_point-i.ensures.partitioned (below_first g.T.Numbered.number c.args.rows.now c.args.from c.requires) (λ a r f' k. search rules))

pub returns : goal.returns
returns g c =
    rw c.number.ensures
    (next_at g.T.Numbered.number c.args.rows.now c.args.from c.partition_point-i.result c.index-rows-i.result c.if-i-rows.false c.index-rows-i.is
    (IsPartitionPoint-from_clause (λ x. nat_lt (g.T.Numbered.number x) c.args.from) c.args.rows.now c.partition_point-i.result c.partition_point-i.ensures.partitioned (below_first g.T.Numbered.number c.args.rows.now c.args.from c.requires) (λ a r f' k. search rules)))
