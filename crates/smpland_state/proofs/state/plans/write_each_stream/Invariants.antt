use Rattle.std.proofs.Common.{◌≡◌, ◌++◌}
use Rattle.std.specs.List.{flat_map, range_with_len}
use Rattle.sm_protocol.specs.State.{stream_id}
use Rattle.smpland_state.specs.State.{stream_state}
use Rattle.smpland_state.proofs.state.plans.write_each_stream.Given as goal

-- the streams so far
abbrev pub invariant-loop-stream : goal.invariant-loop-stream
invariant-loop-stream l =
    l.writer.tokens
    ≡ l.initial.writer.tokens ++ flat_map (λ i. stream_state l.opened.driver l.is_reopening (stream_id l.plan i)) (range_with_len 0 l.stream)
