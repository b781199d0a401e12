use Rattle.std.proofs.Common.{◌≡◌, take}
use Rattle.sm_executor.specs.Views.{streams_ended}
use Rattle.sm_executor.proofs.threads.are_of.Given as goal

abbrev pub invariant-loop-i : goal.invariant-loop-i
invariant-loop-i g l = streams_ended (take l.i l.ended) ≡ take l.i l.streams
