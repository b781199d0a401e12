-- The row lies within the list.
use Rattle.std.proofs.Common.{length, ap, arith}
use Rattle.sm_placement.specs.Parties.{party_at}
use Rattle.sm_placement.proofs.CellLemmas.{length-with_parties}
use Rattle.sm_placement.proofs.cells.Cells.row.Goals as goal

pub prove-unreachable-requires : goal.prove-unreachable-requires
prove-unreachable-requires c = omega (arith, c.if-prove.true, c.len.ensures, c.requires, ap length c.self.view_is, length-with_parties c.self.inside.states.items (party_at c.self.inside.parties.starts c.self.inside.parties.parties))

pub invariant_of-result : goal.invariant_of-result
invariant_of-result c = record { inside = c.requires; small = omega (arith, c.requires, ap length c.self.view_is, length-with_parties c.self.inside.states.items (party_at c.self.inside.parties.starts c.self.inside.parties.parties)) }
