use Rattle.std.proofs.Common.{◌≡◌, ◌≤◌, ◌<◌, ◌+◌, ◌*◌, ◌^◌}
use Rattle.sm_placement.specs.Setup.{sizes_of}
use Rattle.sm_reservation.specs.HoldOf.{hold_of}
use Rattle.sm_plan_code.specs.declared.limits.TheConstants.{MOST_RIGHTS}
use Rattle.sm_verifier.specs.Stream.{course}
use Rattle.sm_verifier.specs.Peak.{IsPeakUpTo}
use Rattle.sm_verifier.proofs.Streams.{IsFollowed}
use Rattle.sm_verifier.proofs.following.follow_code.Given as goal

abbrev pub invariant-loop-instr : goal.invariant-loop-instr
invariant-loop-instr l = record {
  at : l.at ≡ l.instr-index;
  peak : IsPeakUpTo (course (sizes_of l.config) l.signals l.budget l.fn.hold.rights l.code) l.instr-index l.peak;
  small : l.peak < 2 ^ 32;
  capacity : l.hold.capacity ≤ (l.instr-index + 1) * MOST_RIGHTS;
  followed : IsFollowed (course (sizes_of l.config) l.signals l.budget l.fn.hold.rights l.code) l.instr-index l.calls (hold_of l.hold.rights);
}
