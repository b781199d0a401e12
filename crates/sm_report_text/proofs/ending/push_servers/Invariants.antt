use Rattle.std.proofs.Common.{◌≡◌, ◌-◌, ◌++◌, string_bytes, length}
use Rattle.std.specs.List.{flat_map, range_with_len}
use Rattle.sm_placement.specs.Layout.{place_of}
use Rattle.sm_report_text.specs.Ending.{server_line, server_lines}
use Rattle.sm_report_text.proofs.ending.push_servers.Given as goal

abbrev pub invariant-loop-number : goal.invariant-loop-number
invariant-loop-number l =
    string_bytes l.out ++ flat_map (server_line l.placement.setup (place_of l.placement)) (range_with_len l.number (length l.placement.setup.servers - l.number))
    ≡ string_bytes l.fn.out ++ server_lines l.placement.setup (place_of l.placement)
