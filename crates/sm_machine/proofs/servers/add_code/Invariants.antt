use Rattle.std.proofs.Common.{take}
use Rattle.sm_machine.specs.Servers.{HasGrownByCode}
use Rattle.sm_machine.proofs.servers.add_code.Given as goal

abbrev pub invariant-loop-instr : goal.invariant-loop-instr
invariant-loop-instr l = HasGrownByCode (take l.instr-index l.code) l.fn.flags.items l.flags.items
