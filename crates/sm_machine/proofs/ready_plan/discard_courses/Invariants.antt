use Rattle.std.proofs.Common.{◌≡◌, ◌+◌, All, length}
use Rattle.sm_machine.specs.Starts.{IsEmptyCourse}
use Rattle.sm_machine.proofs.ready_plan.discard_courses.Given as goal

abbrev pub invariant-loop : goal.invariant-loop
invariant-loop l = record {
  empty : All IsEmptyCourse l.courses.items;
  left : length l.courses.items + l.counter ≡ l.end;
}
