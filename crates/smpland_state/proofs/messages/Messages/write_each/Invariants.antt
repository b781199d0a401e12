use Rattle.std.proofs.Common.{◌≡◌, ◌++◌, take}
use Rattle.std.specs.List.{flat_map}
use Rattle.smpland_state.specs.Messages.{stream_message}
use Rattle.smpland_state.proofs.messages.Messages.write_each.Given as goal

-- those of the streams so far
abbrev pub invariant-loop-id : goal.invariant-loop-id
invariant-loop-id l =
    l.writer.tokens ≡ l.initial.writer.tokens ++ flat_map (stream_message l.self.driver.now) (take l.id-index l.ids)
