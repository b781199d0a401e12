use Rattle.std.proofs.Common.{◌≡◌, ◌≤◌, ◌∙◌, ℕ, length, sym, ap, arith}
use Rattle.sm_server.specs.declared.call.Cell.TheVariants.{Absent}
use Rattle.sm_placement.specs.Setup.{Setup}
use Rattle.sm_placement.specs.Layout.{place_of}
use Rattle.sm_machine.proofs.Rows.{cell_pushed, cell_passed, row_passed}
use Rattle.sm_machine.proofs.opening.push_cells.Goals as goal
use Rattle.sm_machine.proofs.opening.push_cells.Goals.{in-Absent, in_default+in_ok-push-in_default}

pub loop-number-preserved : goal.loop-number-preserved
loop-number-preserved c =
    let cells = (place_of c.args.placement.now).cells in
    elim c.match-cell.branch [
      | in-Absent w ↦
          let none : cells c.args.shard c.loop-number.number ≡ _ = ap (cells c.args.shard) (sym c.new-server.ensures) ∙ (sym c.cell.ensures ∙ w.in-Absent.is) in
          rw w.rows-is (cell_passed c.loop-number.rows.items cells c.args.shard c.loop-number.number c.loop-number.invariant none)
      | in_default+in_ok-push-in_default w ↦
          rw w.rows-is (
          cell_pushed c.loop-number.rows.items w.push.new.self.items cells c.args.shard c.loop-number.number c.new-server.result c.cell.result c.loop-number.invariant c.new-server.ensures c.cell.ensures
          w.in_ok-push-in_default.ensures.items
          )
    ]

pub loop-number-init : goal.loop-number-init
loop-number-init c = c.requires.before

pub returns : goal.returns
returns c =
    let cells = (place_of c.args.placement.now).cells in
    let count : c.server_count-number-end.result ≡ length c.args.placement.now.setup.servers = c.server_count-number-end.ensures.count ∙ ap (λ (u : Setup). length u.servers) c.config.ensures.setup in
    let beyond : (r u : ℕ) → c.loop-number.number ≤ u → cells r u ≡ Absent = λ r u l. c.config.ensures.placement.no_server r u (omega arith) in
    row_passed c.loop-number.rows.items cells c.args.shard c.loop-number.number c.loop-number.invariant beyond
