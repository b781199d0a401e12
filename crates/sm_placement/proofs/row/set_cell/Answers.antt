-- The parts of the two servers are exchanged, and their entries are set.
use Rattle.std.proofs.Common.{◌≡◌, ◌≤◌, ◌<◌, ◌∙◌, ◌+◌, ◌*◌, ℕ, length, set, false, arith}
use Rattle.std.proofs.lemmas.Nat.{row_fits}
use Rattle.sm_server.specs.declared.call.Cell.{Cell}
use Rattle.sm_server.specs.declared.call.Cell.TheVariants.{Absent}
use Rattle.sm_placement.specs.Sums.{put}
use Rattle.sm_placement.specs.Layout.{grid_of, entries_of}
use Rattle.sm_placement.specs.Replicas.{replicas_by}
use Rattle.sm_placement.proofs.GridLemmas.{same_row, row-set}
use Rattle.sm_placement.proofs.RowLemmas.{CanCorrect-steps, held-steps, party_of-steps}
use Rattle.sm_placement.proofs.row.set_cell.Goals as goal

pub corrected-requires : goal.corrected-requires
corrected-requires c =
    let n : ℕ = length c.args.down.now in
    let row : ℕ → Cell = grid_of (length c.args.down.now) Absent c.args.cells.now c.args.shard in
    let first : grid_of c.row-row.result.servers Absent c.row-row.result.cells.now c.row-row.result.shard ≡ grid_of (length c.args.down.now) Absent c.args.cells.now c.args.shard =
    same_row Absent c.row-row.ensures.servers c.row-row.ensures.cells (c.row-row.ensures.shard ∙ c.number.ensures) in
    let written : c.set.new.self ≡ set c.args.cells.now (c.args.shard * length c.args.down.now + c.args.server) c.args.cell = rw (← c.number-2.ensures, ← c.number-3.ensures) c.set.ensures in
    let second : grid_of c.row-row-2.result.servers Absent c.row-row-2.result.cells.now c.row-row-2.result.shard ≡ put (grid_of (length c.args.down.now) Absent c.args.cells.now c.args.shard) c.args.server c.args.cell =
    same_row Absent c.row-row-2.ensures.servers (c.row-row-2.ensures.cells ∙ written) (c.row-row-2.ensures.shard ∙ c.number-4.ensures) ∙ row-set n Absent c.args.cells.now c.args.shard c.args.server c.args.cell c.requires.shard c.requires.server in
    (CanCorrect-steps n row (grid_of c.row-row.result.servers Absent c.row-row.result.cells.now c.row-row.result.shard) (grid_of c.row-row-2.result.servers Absent c.row-row-2.result.cells.now c.row-row-2.result.shard) (entries_of false c.args.down.now) c.args.server
    c.party_of-other.result c.cell_at.result c.args.cell c.args.counts c.counts_at-before.result c.counts_at-after.result
    c.requires.bound c.requires.server c.requires.known c.requires.next c.requires.one_forwards c.requires.counts first second
    c.cell_at.ensures c.party_of-other.ensures c.counts_at-before.ensures c.counts_at-after.ensures).0

pub returns-clause-counts : goal.returns-clause-counts
returns-clause-counts c =
    let n : ℕ = length c.args.down.now in
    let row : ℕ → Cell = grid_of (length c.args.down.now) Absent c.args.cells.now c.args.shard in
    let first : grid_of c.row-row.result.servers Absent c.row-row.result.cells.now c.row-row.result.shard ≡ grid_of (length c.args.down.now) Absent c.args.cells.now c.args.shard =
    same_row Absent c.row-row.ensures.servers c.row-row.ensures.cells (c.row-row.ensures.shard ∙ c.number.ensures) in
    let written : c.set.new.self ≡ set c.args.cells.now (c.args.shard * length c.args.down.now + c.args.server) c.args.cell = rw (← c.number-2.ensures, ← c.number-3.ensures) c.set.ensures in
    let second : grid_of c.row-row-2.result.servers Absent c.row-row-2.result.cells.now c.row-row-2.result.shard ≡ put (grid_of (length c.args.down.now) Absent c.args.cells.now c.args.shard) c.args.server c.args.cell =
    same_row Absent c.row-row-2.ensures.servers (c.row-row-2.ensures.cells ∙ written) (c.row-row-2.ensures.shard ∙ c.number-4.ensures) ∙ row-set n Absent c.args.cells.now c.args.shard c.args.server c.args.cell c.requires.shard c.requires.server in
    c.corrected.ensures ∙ (CanCorrect-steps n row (grid_of c.row-row.result.servers Absent c.row-row.result.cells.now c.row-row.result.shard) (grid_of c.row-row-2.result.servers Absent c.row-row-2.result.cells.now c.row-row-2.result.shard) (entries_of false c.args.down.now) c.args.server
    c.party_of-other.result c.cell_at.result c.args.cell c.args.counts c.counts_at-before.result c.counts_at-after.result
    c.requires.bound c.requires.server c.requires.known c.requires.next c.requires.one_forwards c.requires.counts first second
    c.cell_at.ensures c.party_of-other.ensures c.counts_at-before.ensures c.counts_at-after.ensures).1

pub set_replicas-requires-clause-other : goal.set_replicas-requires-clause-other
set_replicas-requires-clause-other c =
    let row : ℕ → Cell = grid_of (length c.args.down.now) Absent c.args.cells.now c.args.shard in
    let first : grid_of c.row-row.result.servers Absent c.row-row.result.cells.now c.row-row.result.shard ≡ grid_of (length c.args.down.now) Absent c.args.cells.now c.args.shard =
    same_row Absent c.row-row.ensures.servers c.row-row.ensures.cells (c.row-row.ensures.shard ∙ c.number.ensures) in
    let known : c.party_of-other.result < length c.args.down.now =
    party_of-steps (length c.args.down.now) row (grid_of c.row-row.result.servers Absent c.row-row.result.cells.now c.row-row.result.shard) c.args.server c.party_of-other.result c.cell_at.result c.args.cell
    c.requires.server c.requires.known c.requires.next first c.cell_at.ensures c.party_of-other.ensures in
    let within : c.party_of-other.result * c.args.replicas.now.shards + c.args.replicas.now.shards ≤ length c.args.down.now * c.args.replicas.now.shards =
    row_fits c.party_of-other.result c.args.replicas.now.shards (length c.args.down.now) c.args.replicas.now.shards known (omega arith) in
    omega (arith, within, c.requires.replicas_length, c.requires.replicas_shard, c.row-row-2.ensures.shard, c.number-4.ensures)

pub returns-clause-replicas : goal.returns-clause-replicas
returns-clause-replicas c =
    let n : ℕ = length c.args.down.now in
    let row : ℕ → Cell = grid_of (length c.args.down.now) Absent c.args.cells.now c.args.shard in
    let first : grid_of c.row-row.result.servers Absent c.row-row.result.cells.now c.row-row.result.shard ≡ grid_of (length c.args.down.now) Absent c.args.cells.now c.args.shard =
    same_row Absent c.row-row.ensures.servers c.row-row.ensures.cells (c.row-row.ensures.shard ∙ c.number.ensures) in
    let written : c.set.new.self ≡ set c.args.cells.now (c.args.shard * length c.args.down.now + c.args.server) c.args.cell = rw (← c.number-2.ensures, ← c.number-3.ensures) c.set.ensures in
    let second : grid_of c.row-row-2.result.servers Absent c.row-row-2.result.cells.now c.row-row-2.result.shard ≡ put (grid_of (length c.args.down.now) Absent c.args.cells.now c.args.shard) c.args.server c.args.cell =
    same_row Absent c.row-row-2.ensures.servers (c.row-row-2.ensures.cells ∙ written) (c.row-row-2.ensures.shard ∙ c.number-4.ensures) ∙ row-set n Absent c.args.cells.now c.args.shard c.args.server c.args.cell c.requires.shard c.requires.server in
    held-steps row (grid_of c.row-row.result.servers Absent c.row-row.result.cells.now c.row-row.result.shard) (grid_of c.row-row-2.result.servers Absent c.row-row-2.result.cells.now c.row-row-2.result.shard)
    c.args.server c.party_of-other.result c.args.shard c.row-row-2.result.shard c.cell_at.result c.args.cell (replicas_by c.args.replicas.now) (replicas_by c.set_replicas.new.replicas)
    c.requires.one_forwards c.requires.replicas first second c.cell_at.ensures c.party_of-other.ensures (c.row-row-2.ensures.shard ∙ c.number-4.ensures) c.set_replicas.ensures.held
