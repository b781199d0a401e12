-- The row is the shard's.
use Rattle.std.proofs.Common.{◌≡◌, ◌∙◌, length, rules}
use Rattle.sm_placement.proofs.TableLemmas.{row_within, row_of-read}
use Rattle.sm_placement.proofs.table.Table.row_of.Goals as goal

pub row-requires : goal.row-requires
row-requires c =
    let wide : c.len.result ≡ length c.self.inside.down.items = search rules in
    row_within c.args.shard c.number.result c.len.result c.self.invariant c.self.view_is c.requires c.number.ensures wide

pub returns : goal.returns
returns c =
    let wide : c.len.result ≡ length c.self.inside.down.items = search rules in
    row_of-read c.args.shard c.row.result.shard c.row.result.servers c.row.result.cells.now c.self.invariant c.self.view_is (c.row.ensures.shard ∙ c.number.ensures) (c.row.ensures.servers ∙ wide) c.row.ensures.cells
