use Rattle.std.proofs.Common.{slice_index, length}
use Rattle.sm_machine.proofs.Readied.{courses_empty}
use Rattle.sm_machine.proofs.ready_plan.make_parts.Goals as goal

pub discard_courses-requires : goal.discard_courses-requires
discard_courses-requires c = courses_empty _ (λ i. slice_index c.args.checked.now.peaks i) (length c.args.checked.now.plan.streams) c.in_ok-courses.ensures.courses
