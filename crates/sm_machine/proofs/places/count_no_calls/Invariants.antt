use Rattle.std.proofs.Common.{◌≡◌, ◌≤◌, take, count_by}
use Rattle.sm_protocol.specs.State.{is_no_call}
use Rattle.sm_machine.proofs.places.count_no_calls.Given as goal

abbrev pub invariant-loop-instr : goal.invariant-loop-instr
invariant-loop-instr l = record {
  count : l.count ≡ count_by is_no_call (take l.instr-index l.code);
  within : l.count ≤ l.instr-index;
}
