use Rattle.std.proofs.Common.{◌≡◌, map, take}
use Rattle.smpland_reopening_lines.specs.Taken.{replica_said}
use Rattle.smpland_reopening_lines.proofs.taken.replicas_of.Given as goal

-- the replicas so far
abbrev pub invariant-loop-cell : goal.invariant-loop-cell
invariant-loop-cell l = l.replicas.items ≡ map replica_said (take l.cell-index l.cells)
