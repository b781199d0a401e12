-- The shard of the instruction is known, and handover numbers are small.
use Rattle.std.proofs.Common.{sym, ◌∙◌}
use Rattle.sm_machine.specs.State.{whole_of}
use Rattle.sm_machine.proofs.StandsBefore.{numbers_small, shard_before}
use Rattle.sm_machine.proofs.engine.Engine.next_call.Goals as goal

pub call_at_numbers-requires-clause-shard : goal.call_at_numbers-requires-clause-shard
call_at_numbers-requires-clause-shard c = shard_before (whole_of c.args.self.now) c.requires c.args.id c.in-Some.instr (sym c.instruction_before.ensures ∙ c.in-Some.is)

pub call_at_numbers-requires-clause-numbers : goal.call_at_numbers-requires-clause-numbers
call_at_numbers-requires-clause-numbers c = numbers_small (whole_of c.args.self.now) c.requires
