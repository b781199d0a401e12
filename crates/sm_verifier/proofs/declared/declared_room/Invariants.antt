use Rattle.std.proofs.Common.{◌≡◌, ◌≤◌, ◌*◌, take}
use Rattle.sm_verifier.specs.Admission.{declared_room}
use Rattle.sm_plan_code.specs.declared.limits.TheConstants.{MOST_AMOUNT}
use Rattle.sm_verifier.proofs.declared.declared_room.Given as goal

-- the sum of the streams so far
abbrev pub invariant-loop-stream : goal.invariant-loop-stream
invariant-loop-stream l = record {
  sum : l.sum ≡ declared_room (take l.stream-index l.streams) l.server;
  bound : l.sum ≤ l.stream-index * MOST_AMOUNT;
}
