use Rattle.std.proofs.Common.{◌≡◌, ◌-◌, ◌++◌, string_bytes}
use Rattle.std.specs.List.{flat_map, range_with_len}
use Rattle.sm_protocol.specs.State.{stream_id, stream_count}
use Rattle.sm_machine.specs.State.{state_of}
use Rattle.sm_report.specs.RunLines.{end_line, end_lines}
use Rattle.sm_report.proofs.run_lines.push_ends.Given as goal

abbrev pub invariant-loop-i : goal.invariant-loop-i
invariant-loop-i l =
    string_bytes l.out ++ flat_map (λ i. end_line (state_of l.machine) (stream_id 0 i)) (range_with_len l.i (stream_count (state_of l.machine) 0 - l.i))
    ≡ string_bytes l.fn.out ++ end_lines (state_of l.machine) 0
