use Rattle.std.proofs.Common.{◌≡◌, ◌++◌}
use Rattle.std.specs.List.{filter_map, range_with_len}
use Rattle.sm_protocol.specs.State.{stream_id}
use Rattle.sm_machine.specs.State.{state_of}
use Rattle.sm_driver.specs.Orders.{awaiting}
use Rattle.sm_driver.proofs.ordering.push_streams.Given as goal

-- the list has those of the streams so far
abbrev pub invariant-loop-stream : goal.invariant-loop-stream
invariant-loop-stream l =
    l.list.items ≡ l.initial.list.items ++ filter_map (λ i. awaiting (state_of l.machine) (stream_id l.plan i)) (range_with_len 0 l.stream)
