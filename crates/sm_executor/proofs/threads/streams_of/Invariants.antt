use Rattle.std.proofs.Common.{◌≡◌, take}
use Rattle.sm_executor.specs.Views.{streams_run}
use Rattle.sm_executor.proofs.threads.streams_of.Given as goal

abbrev pub invariant-loop-runner : goal.invariant-loop-runner
invariant-loop-runner g l = l.streams.items ≡ streams_run (take l.runner-index l.runners)
