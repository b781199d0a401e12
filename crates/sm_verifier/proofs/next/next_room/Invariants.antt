use Rattle.std.proofs.Common.{take}
use Rattle.sm_verifier.specs.Admission.{declared_room}
use Rattle.sm_verifier.specs.Next.{IsNextOrNone}
use Rattle.sm_verifier.proofs.next.next_room.Given as goal

-- the next one of the streams so far
abbrev pub invariant-loop-stream : goal.invariant-loop-stream
invariant-loop-stream l = IsNextOrNone (declared_room (take l.stream-index l.streams)) l.from l.next
