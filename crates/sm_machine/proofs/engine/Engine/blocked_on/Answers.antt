-- The signal of the instruction is one of the plan.
use Rattle.std.proofs.Common.{sym, ◌∙◌}
use Rattle.sm_machine.specs.State.{whole_of}
use Rattle.sm_machine.proofs.StandsBefore.{before_of, signal_before}
use Rattle.sm_machine.proofs.engine.Engine.blocked_on.Goals as goal

pub unposted-requires-clause-begun : goal.unposted-requires-clause-begun
unposted-requires-clause-begun c = (before_of (whole_of c.args.self.now).state c.args.id c.in-Some.instr (sym c.instruction_before.ensures ∙ c.in-Some.is)).begun

pub unposted-requires-clause-signal : goal.unposted-requires-clause-signal
unposted-requires-clause-signal c = signal_before (whole_of c.args.self.now) c.requires c.args.id c.in-Some.instr (sym c.instruction_before.ensures ∙ c.in-Some.is)
