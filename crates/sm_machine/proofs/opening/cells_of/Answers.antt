-- The rows of all shards.
use Rattle.std.proofs.Common.{◌≡◌, ◌≤◌, ◌+◌, ◌∙◌, ℕ, List, length, sym, ap, subst, arith}
use Rattle.sm_server.specs.declared.call.Cell.TheVariants.{Absent}
use Rattle.sm_placement.specs.Setup.{Setup}
use Rattle.sm_placement.specs.Layout.{place_of}
use Rattle.sm_placement.specs.Opening.{NamedCell}
use Rattle.sm_machine.specs.Opening.{AreCellsBefore}
use Rattle.sm_machine.proofs.Rows.{no_cells, all_cells}
use Rattle.sm_machine.proofs.opening.cells_of.Goals as goal

pub loop-number-init : goal.loop-number-init
loop-number-init c =
    let cells = (place_of c.args.placement.now).cells in
    subst (λ (rows : List NamedCell). AreCellsBefore rows cells 0 0) (sym c.new-rows.ensures.items) (no_cells cells)

pub push_cells-requires-clause-before : goal.push_cells-requires-clause-before
push_cells-requires-clause-before c = subst (λ (s : ℕ). AreCellsBefore c.loop-number.rows.items (place_of c.args.placement.now).cells s 0) (sym c.new.ensures) c.loop-number.invariant

pub loop-number-preserved : goal.loop-number-preserved
loop-number-preserved c = subst (λ (s : ℕ). AreCellsBefore c.push_cells.new.rows.items (place_of c.args.placement.now).cells (s + 1) 0) c.new.ensures c.in_ok-push_cells.ensures

pub returns : goal.returns
returns c =
    let cells = (place_of c.args.placement.now).cells in
    let count : c.shard_count-number-end.result ≡ length c.args.placement.now.setup.shards = c.shard_count-number-end.ensures.count ∙ ap (λ (u : Setup). length u.shards) c.config.ensures.setup in
    let beyond : (s v : ℕ) → c.loop-number.number ≤ s → cells s v ≡ Absent = λ s v l. c.config.ensures.placement.no_shard s v (omega arith) in
    all_cells c.loop-number.rows.items cells c.loop-number.number c.loop-number.invariant beyond
