use Rattle.std.proofs.Common.{◌≡◌, ◌<◌, ◌∙◌, ◌++◌, ℕ, length, string_bytes, ap, arith}
use Rattle.sm_server.specs.declared.call.Cell.{Cell}
use Rattle.sm_placement.specs.Setup.{Setup}
use Rattle.sm_placement.specs.Layout.{place_of}
use Rattle.sm_report_text.specs.Ending.{cell_line}
use Rattle.sm_report_text.proofs.Texts.{text_of_next}
use Rattle.sm_report_text.proofs.ending.push_cells.Goals as goal

pub loop-number-preserved : goal.loop-number-preserved
loop-number-preserved c =
    let setup = c.args.placement.now.setup in
    let config_is : c.config-config.result.now ≡ setup = c.config-config.ensures.setup in
    let count = ap (λ (s : Setup). length s.servers) config_is in
    let below : c.loop-number.number < length setup.servers = omega (arith, count) in
    let place = place_of c.args.placement.now in
    let v = c.new-server.result in
    let added : string_bytes c.push_cell.new.out ≡ string_bytes c.loop-number.out ++ cell_line setup c.loop-number.number (place.cells c.args.shard c.loop-number.number)
    = c.in_ok-push_cell.ensures
    ∙ ap (λ (x : Setup). string_bytes c.loop-number.out ++ cell_line x v c.cell.result) config_is
    ∙ ap (λ (x : Cell). string_bytes c.loop-number.out ++ cell_line setup v x) c.cell.ensures
    ∙ ap (λ (n : ℕ). string_bytes c.loop-number.out ++ cell_line setup n (place.cells c.args.shard n)) c.new-server.ensures in
    text_of_next (λ v. cell_line setup v (place.cells c.args.shard v)) _ _ _ c.loop-number.number (length setup.servers) below added c.loop-number.invariant
