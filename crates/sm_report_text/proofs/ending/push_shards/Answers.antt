use Rattle.std.proofs.Common.{◌≡◌, ◌<◌, ◌∙◌, ◌++◌, ℕ, List, length, string_bytes, append_assoc, ap, arith}
use Rattle.sm_placement.specs.Setup.{Setup}
use Rattle.sm_placement.specs.Layout.{place_of}
use Rattle.sm_report_text.specs.Ending.{shard_line, cell_lines, shard_lines}
use Rattle.sm_report_text.proofs.Texts.{text_of_next}
use Rattle.sm_report_text.proofs.ending.push_shards.Goals as goal

pub loop-number-preserved : goal.loop-number-preserved
loop-number-preserved c =
    let setup = c.args.placement.now.setup in
    let place = place_of c.args.placement.now in
    let s = c.new-shard.result in
    let count = ap (λ (x : Setup). length x.shards) c.config.ensures.setup in
    let below : c.loop-number.number < length setup.shards = omega (arith, count) in
    let both : string_bytes c.push_cells.new.out ≡ string_bytes c.loop-number.out ++ shard_lines setup place s
    = c.in_ok-push_cells.ensures ∙ ap (λ (t : List ℕ). t ++ cell_lines setup place s) c.in_ok-push_shard.ensures
    ∙ append_assoc (string_bytes c.loop-number.out) (shard_line setup place s) (cell_lines setup place s) in
    let added : string_bytes c.push_cells.new.out ≡ string_bytes c.loop-number.out ++ shard_lines setup place c.loop-number.number
    = both ∙ ap (λ (n : ℕ). string_bytes c.loop-number.out ++ shard_lines setup place n) c.new-shard.ensures in
    text_of_next (shard_lines setup place) _ _ _ c.loop-number.number (length setup.shards) below added c.loop-number.invariant
