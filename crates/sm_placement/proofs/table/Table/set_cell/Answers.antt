-- The totals are corrected with the cell.
use Rattle.std.proofs.Common.{◌≡◌, ◌<◌, ◌+◌, ◌-◌, ℕ, length, get_or, sym, ap, subst, ◌∙◌, arith}
use Rattle.sm_server.specs.declared.call.Cell.{Cell}
use Rattle.sm_placement.specs.Rows.{IsKnownCell}
use Rattle.sm_placement.specs.Setup.{sizes_of}
use Rattle.sm_placement.specs.Place.{weight, load_of}
use Rattle.sm_placement.specs.Sums.{put2}
use Rattle.sm_placement.specs.Grid.{TableModel, Totals, IsCounted, cells_of}
use Rattle.sm_placement.proofs.TableLemmas.{counts_in-read, row_set-is, IsCorrected, load_of-corrected, IsCounted-set, cells_of-set}
use Rattle.sm_placement.proofs.ReplicaLemmas.{replicas_shard, replicas_count, replicas_by-column, AreSet-is}
use Rattle.sm_placement.proofs.table.Table.set_cell.Goals as goal

-- what the steps of the code say of the load, with the table as its callers saw it
corrected : {g old : TableModel} {t : Totals} (s v : ℕ) (next cell : Cell) (load size added removed : ℕ) → IsCounted g t → g ≡ old → s < length old.setup.shards → v < length old.setup.servers →
    cell ≡ cells_of old s v → size ≡ (sizes_of g.setup).load s → removed ≡ weight cell size → added ≡ weight next size → load ≡ get_or t.loads v load →
    IsCorrected load added removed (load_of (sizes_of g.setup) (put2 (cells_of g) s v next) v)
corrected {g} {old} {t} s v next cell load size added removed h e l m ce se re ae le =
    let c : cell ≡ cells_of g s v = ce ∙ ap (λ (n : TableModel). cells_of n s v) (sym e) in
    load_of-corrected s v next load added removed h (omega (arith, ap (λ (n : TableModel). length n.setup.shards) e)) (omega (arith, ap (λ (n : TableModel). length n.setup.servers) e)) le
    (ae ∙ ap (λ (k : ℕ). weight next k) se) (re ∙ ap (λ (x : Cell). weight x size) c ∙ ap (λ (k : ℕ). weight (cells_of g s v) k) se)

pub set_cell-counts-requires-clause-counts : goal.set_cell-counts-requires-clause-counts
set_cell-counts-requires-clause-counts c =
    counts_in-read c.args.shard c.index.result.now c.index-2.result.now c.deref.result.now c.self.invariant
    (omega (arith, ap (λ (g : TableModel). length g.setup.shards) c.self.view_is, c.requires.shard)) c.deref.ensures.value
    (rw (← c.number-row.ensures) c.index.ensures) (rw (← c.number-row.ensures) c.index-2.ensures)

pub set_cell-counts-requires-clause-replicas_shard : goal.set_cell-counts-requires-clause-replicas_shard
set_cell-counts-requires-clause-replicas_shard c = replicas_shard c.args.shard c.self.invariant c.self.view_is c.requires.shard

pub set_cell-counts-requires-clause-replicas_length : goal.set_cell-counts-requires-clause-replicas_length
set_cell-counts-requires-clause-replicas_length c = replicas_count c.deref.result.now c.self.invariant c.deref.ensures.value

pub set_cell-counts-requires-clause-replicas : goal.set_cell-counts-requires-clause-replicas
set_cell-counts-requires-clause-replicas c = replicas_by-column c.args.shard c.deref.result.now c.self.invariant c.deref.ensures.value

pub overflow_add-index : goal.overflow_add-index
overflow_add-index c =
    let k = corrected c.args.shard c.args.server c.args.cell c.cell.result c.index-3.result.now c.load-load.result c.weight.result c.weight-removed.result c.self.invariant c.self.view_is c.requires.shard c.requires.server
    c.cell.ensures c.load-load.ensures.load c.weight-removed.ensures c.weight.ensures (rw (← c.number-column.ensures) c.index-3.ensures) in
    omega (arith, k.fits)

pub overflow_sub-index : goal.overflow_sub-index
overflow_sub-index c =
    let k = corrected c.args.shard c.args.server c.args.cell c.cell.result c.index-3.result.now c.load-load.result c.weight.result c.weight-removed.result c.self.invariant c.self.view_is c.requires.shard c.requires.server
    c.cell.ensures c.load-load.ensures.load c.weight-removed.ensures c.weight.ensures (rw (← c.number-column.ensures) c.index-3.ensures) in
    k.enough

pub invariant_of-self : goal.invariant_of-self
invariant_of-self c =
    let l : c.args.shard < length c.self.inside.config.shards = omega (arith, ap (λ (g : TableModel). length g.setup.shards) c.self.view_is, c.requires.shard) in
    let m : c.args.server < length c.self.inside.config.servers = omega (arith, ap (λ (g : TableModel). length g.setup.servers) c.self.view_is, c.requires.server) in
    let known : IsKnownCell (length c.self.inside.config.servers) c.args.cell = subst (λ (g : TableModel). IsKnownCell (length g.setup.servers) c.args.cell) (sym c.self.view_is) c.requires.known in
    let k = corrected c.args.shard c.args.server c.args.cell c.cell.result c.index-3.result.now c.load-load.result c.weight.result c.weight-removed.result c.self.invariant c.self.view_is c.requires.shard c.requires.server
    c.cell.ensures c.load-load.ensures.load c.weight-removed.ensures c.weight.ensures (rw (← c.number-column.ensures) c.index-3.ensures) in
    let row = row_set-is c.args.shard c.args.server c.args.cell c.set_cell-counts.result c.set_cell-counts.new.cells c.deref.result.now c.self.invariant
    c.deref.ensures.value c.set_cell-counts.ensures.cells c.set_cell-counts.ensures.counts in
    let set = AreSet-is c.args.shard c.args.server c.args.cell c.set_cell-counts.new.replicas c.deref.result.now c.self.invariant c.deref.ensures.value
    c.set_cell-counts.ensures.replicas c.set_cell-counts.ensures.replicas_length c.set_cell-counts.ensures.replicas_shards in
    rw (row.0, c.number-row.ensures, c.number-column.ensures)
    (IsCounted-set c.args.shard c.args.server c.args.cell (c.index-3.result.now + c.weight.result - c.weight-removed.result) c.set_cell-counts.result c.set_cell-counts.new.replicas c.self.invariant l m known k.is row.1 set)

pub returns-clause-cells : goal.returns-clause-cells
returns-clause-cells c =
    let row = row_set-is c.args.shard c.args.server c.args.cell c.set_cell-counts.result c.set_cell-counts.new.cells c.deref.result.now c.self.invariant
    c.deref.ensures.value c.set_cell-counts.ensures.cells c.set_cell-counts.ensures.counts in
    rw row.0 (cells_of-set c.args.shard c.args.server c.args.cell c.self.invariant c.self.view_is c.requires.shard c.requires.server)
