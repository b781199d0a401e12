use Rattle.std.proofs.Common.{◌≡◌, ◌+◌, All, length}
use Rattle.sm_machine.specs.Starts.{IsEmptyCarried}
use Rattle.sm_machine.proofs.ready_plan.discard_signals.Given as goal

abbrev pub invariant-loop : goal.invariant-loop
invariant-loop l = record {
  empty : All IsEmptyCarried l.signals.items;
  left : length l.signals.items + l.counter ≡ l.end;
}
