-- The state is written, and the party where the cell names one.
use Rattle.std.proofs.Common.{◌<◌, ◌∙◌, ℕ, List, length, set, refl, ap, arith, sym}
use Rattle.sm_server.specs.declared.call.Cell.{Cell}
use Rattle.sm_placement.specs.declared.cells.State.{State}
use Rattle.sm_placement.specs.declared.parties.Party.{Party}
use Rattle.sm_placement.specs.Parties.{party_at}
use Rattle.sm_placement.specs.Cells.{cell_of}
use Rattle.sm_placement.proofs.Sums.{put-here, put-apart}
use Rattle.sm_placement.proofs.CellLemmas.{with_parties-set, cell_of-named, cell_of-unnamed, length-with_parties}
use Rattle.sm_placement.proofs.cells.Cells.set.Goals as goal

pub index_mut-requires : goal.index_mut-requires
index_mut-requires c = omega (arith, c.requires, ap length c.self.view_is, length-with_parties c.self.inside.states.items (party_at c.self.inside.parties.starts c.self.inside.parties.parties))

pub set-requires : goal.set-requires
set-requires c = omega (arith, c.requires, c.self.invariant, ap length c.self.view_is, length-with_parties c.self.inside.states.items (party_at c.self.inside.parties.starts c.self.inside.parties.parties))

pub returns-in-Some : goal.returns-in-Some
returns-in-Some c =
    let at : ℕ → Party = party_at c.self.inside.parties.starts c.self.inside.parties.parties in
    let after : ℕ → Party = party_at c.set.new.self.starts c.set.new.self.parties in
    let l : c.args.slot < length c.self.inside.states.items = omega (arith, c.requires, ap length c.self.view_is, length-with_parties c.self.inside.states.items at) in
    with_parties-set c.self.inside.states.items at after c.args.slot c.state_of_cell.result c.args.cell l
    (λ j d. ap (λ (f : ℕ → Party). f j) c.set.ensures.parties ∙ put-apart at c.args.slot c.in-Some.party j d)
    (ap (λ (f : ℕ → Party). cell_of c.state_of_cell.result (f c.args.slot)) c.set.ensures.parties ∙ ap (λ (p : Party). cell_of c.state_of_cell.result p) (put-here at c.args.slot c.in-Some.party c.args.slot refl)
    ∙ ap (λ (s : State). cell_of s c.in-Some.party) c.state_of_cell.ensures ∙ cell_of-named c.args.cell c.in-Some.party (sym c.named_party.ensures ∙ c.in-Some.is))
    ∙ ap (λ (xs : List Cell). set xs c.args.slot c.args.cell) c.self.view_is

pub returns-in-None : goal.returns-in-None
returns-in-None c =
    let at : ℕ → Party = party_at c.self.inside.parties.starts c.self.inside.parties.parties in
    let l : c.args.slot < length c.self.inside.states.items = omega (arith, c.requires, ap length c.self.view_is, length-with_parties c.self.inside.states.items at) in
    with_parties-set c.self.inside.states.items at at c.args.slot c.state_of_cell.result c.args.cell l (λ j d. refl)
    (ap (λ (s : State). cell_of s (at c.args.slot)) c.state_of_cell.ensures ∙ cell_of-unnamed c.args.cell (at c.args.slot) (sym c.named_party.ensures ∙ c.in-None.is))
    ∙ ap (λ (xs : List Cell). set xs c.args.slot c.args.cell) c.self.view_is
