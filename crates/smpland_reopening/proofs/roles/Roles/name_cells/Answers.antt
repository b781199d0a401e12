-- All servers are done.
use Rattle.std.proofs.Common.{arith}
use Rattle.smpland_reopening.proofs.Naming.{names_row}
use Rattle.smpland_reopening.proofs.roles.Roles.name_cells.Goals as goal

pub returns : goal.returns
returns c = names_row c.args.self.now c.args.shard c.loop-number.number c.loop-number.cells.items (omega (arith, c.loop-number-test.false, c.loop-number.auto.number-end)) c.loop-number.invariant
