-- The state's cell, with the party of its slot where it has one.
use Rattle.std.proofs.Common.{◌∙◌, length, ap, arith, sym}
use Rattle.sm_placement.specs.declared.parties.Party.{Party}
use Rattle.sm_placement.specs.Parties.{party_at}
use Rattle.sm_placement.specs.Cells.{cell_of}
use Rattle.sm_placement.proofs.CellLemmas.{with_parties-read, cell_of-any, length-with_parties}
use Rattle.sm_placement.proofs.cells.Cells.get.Goals as goal

pub index-state-requires : goal.index-state-requires
index-state-requires c = omega (arith, c.requires, ap length c.self.view_is, length-with_parties c.self.inside.states.items (party_at c.self.inside.parties.starts c.self.inside.parties.parties))

pub returns-then-not-has_party : goal.returns-then-not-has_party
returns-then-not-has_party c =
    c.cell_of.ensures ∙ cell_of-any c.index-state.result.now c.no_party.result (party_at c.self.inside.parties.starts c.self.inside.parties.parties c.args.slot) (sym c.has_party.ensures ∙ c.if-not-has_party.true)
    ∙ with_parties-read c.self.inside.states.items (party_at c.self.inside.parties.starts c.self.inside.parties.parties) c.args.slot c.index-state.result.now c.self.view_is c.requires c.index-state.ensures

pub get-requires : goal.get-requires
get-requires c = omega (arith, c.requires, c.self.invariant, ap length c.self.view_is, length-with_parties c.self.inside.states.items (party_at c.self.inside.parties.starts c.self.inside.parties.parties))

pub returns : goal.returns
returns c =
    c.cell_of-2.ensures ∙ ap (λ (p : Party). cell_of c.index-state.result.now p) c.get.ensures
    ∙ with_parties-read c.self.inside.states.items (party_at c.self.inside.parties.starts c.self.inside.parties.parties) c.args.slot c.index-state.result.now c.self.view_is c.requires c.index-state.ensures
