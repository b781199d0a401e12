use Rattle.std.proofs.Common.{◌≡◌, map}
use Rattle.std.specs.Prelude.{slice_get}
use Rattle.std.specs.List.{filter, range_with_len}
use Rattle.sm_protocol.specs.State.{stream_id}
use Rattle.sm_driver.specs.Driver.{record_of}
use Rattle.smpland_state.specs.Replies.{stands_else}
use Rattle.smpland_state.proofs.messages.Messages.gone_on.Given as goal

-- those of the streams so far
abbrev pub invariant-loop-stream : goal.invariant-loop-stream
invariant-loop-stream l =
    l.ids.items ≡ filter (λ id. stands_else (record_of l.self.driver.now) id (slice_get l.sinces id.stream)) (map (stream_id l.plan) (range_with_len 0 l.stream))
