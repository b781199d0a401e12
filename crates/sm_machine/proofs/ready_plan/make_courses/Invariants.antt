use Rattle.std.proofs.Common.{◌≡◌, slice_index}
use Rattle.sm_placement.specs.Setup.{sizes_of}
use Rattle.sm_machine.specs.Starts.{first_courses}
use Rattle.sm_machine.specs.Started.{ArePeaksOf}
use Rattle.sm_machine.proofs.ready_plan.make_courses.Given as goal

abbrev pub invariant-loop-stream : goal.invariant-loop-stream
invariant-loop-stream l = record {
  courses : l.courses.items ≡ first_courses (λ i. slice_index l.checked.peaks i) l.stream;
  peaks : ArePeaksOf (sizes_of l.checked.setup) l.checked l.stream;
}
