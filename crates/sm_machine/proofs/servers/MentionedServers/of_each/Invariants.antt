use Rattle.std.proofs.Common.{take}
use Rattle.sm_machine.specs.Servers.{AreMentionedBy}
use Rattle.sm_machine.proofs.servers.MentionedServers.of_each.Given as goal

abbrev pub invariant-loop-stream : goal.invariant-loop-stream
invariant-loop-stream l = AreMentionedBy (take l.stream-index l.streams) l.sets.items
