use Rattle.std.proofs.Common.{◌≡◌, map}
use Rattle.std.specs.List.{range_with_len}
use Rattle.sm_protocol.specs.State.{stream_id}
use Rattle.sm_protocol.specs.Next.{since_of}
use Rattle.sm_driver.specs.Driver.{record_of}
use Rattle.smpland_state.proofs.messages.Messages.sinces.Given as goal

-- those of the streams so far
abbrev pub invariant-loop-stream : goal.invariant-loop-stream
invariant-loop-stream l =
    l.sinces.items ≡ map (λ i. since_of (record_of l.self.driver.now) (stream_id l.plan i)) (range_with_len 0 l.stream)
