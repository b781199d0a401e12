use Rattle.std.proofs.Common.{◌≡◌, ◌-◌, ◌++◌, string_bytes}
use Rattle.std.specs.List.{flat_map, range_with_len}
use Rattle.sm_protocol.specs.State.{stream_id, stream_count}
use Rattle.sm_machine.specs.State.{state_of}
use Rattle.sm_report.specs.PlayLines.{progress_line, progress_lines}
use Rattle.sm_report.proofs.playing.push_streams.Given as goal

abbrev pub invariant-loop-i : goal.invariant-loop-i
invariant-loop-i l =
    string_bytes l.out ++ flat_map (λ i. progress_line l.many l.place (state_of l.player.director) (stream_id l.number i)) (range_with_len l.i (stream_count (state_of l.player.director) l.number - l.i))
    ≡ string_bytes l.fn.out ++ progress_lines l.many l.place (state_of l.player.director) l.number
