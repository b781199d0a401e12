-- The state of the slot's cell tells it.
use Rattle.std.proofs.Common.{◌∙◌, length, ap, arith}
use Rattle.sm_placement.specs.Lead.{has_part}
use Rattle.sm_placement.specs.Parties.{party_at}
use Rattle.sm_placement.proofs.CellLemmas.{with_parties-read, length-with_parties}
use Rattle.sm_placement.proofs.cells.Cells.has_part.Goals as goal

pub index-requires : goal.index-requires
index-requires c = omega (arith, c.requires, ap length c.self.view_is, length-with_parties c.self.inside.states.items (party_at c.self.inside.parties.starts c.self.inside.parties.parties))

pub returns : goal.returns
returns c =
    let at = party_at c.self.inside.parties.starts c.self.inside.parties.parties in
    c.is_part.ensures (at c.args.slot) ∙ ap has_part (with_parties-read c.self.inside.states.items at c.args.slot c.index.result.now c.self.view_is c.requires c.index.ensures)
