use Rattle.std.proofs.Common.{◌≡◌, ◌-◌, ◌++◌, string_bytes, length}
use Rattle.std.specs.List.{flat_map, range_with_len}
use Rattle.sm_placement.specs.Layout.{place_of}
use Rattle.sm_report_text.specs.Ending.{cell_line, cell_lines}
use Rattle.sm_report_text.proofs.ending.push_cells.Given as goal

abbrev pub invariant-loop-number : goal.invariant-loop-number
invariant-loop-number l =
    string_bytes l.out ++ flat_map (λ v. cell_line l.placement.setup v ((place_of l.placement).cells l.shard v)) (range_with_len l.number (length l.placement.setup.servers - l.number))
    ≡ string_bytes l.fn.out ++ cell_lines l.placement.setup (place_of l.placement) l.shard
