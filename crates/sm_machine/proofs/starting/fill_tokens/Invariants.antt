use Rattle.std.proofs.Common.{◌≤◌, vec_capacity}
use Rattle.sm_machine.specs.Starts.{AreTokens}
use Rattle.sm_machine.proofs.starting.fill_tokens.Given as goal

abbrev pub invariant-loop-stream : goal.invariant-loop-stream
invariant-loop-stream l = record {
  tokens : AreTokens l.plan l.stream l.tokens.items;
  room : l.count ≤ vec_capacity l.tokens;
}
