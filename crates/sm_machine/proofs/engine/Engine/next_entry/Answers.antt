-- The shard of the instruction is known, and versions are small.
use Rattle.std.proofs.Common.{sym, ◌∙◌}
use Rattle.sm_machine.specs.State.{whole_of}
use Rattle.sm_machine.proofs.StandsBefore.{shard_before, versions_small}
use Rattle.sm_machine.proofs.engine.Engine.next_entry.Goals as goal

pub entry_by-requires-clause-shard : goal.entry_by-requires-clause-shard
entry_by-requires-clause-shard c = shard_before (whole_of c.args.self.now) c.requires c.args.id c.in-Some.instr (sym c.instruction_before.ensures ∙ c.in-Some.is)

pub entry_by-requires-clause-versions : goal.entry_by-requires-clause-versions
entry_by-requires-clause-versions c = versions_small (whole_of c.args.self.now) c.requires
