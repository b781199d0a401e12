-- Each state is that of nothing.
use Rattle.std.proofs.Common.{◌≡◌, replicate, ap, ◌∙◌, ℕ, List, rules}
use Rattle.sm_placement.specs.declared.cells.State.{State}
use Rattle.sm_placement.specs.declared.cells.State.TheVariants as state
use Rattle.sm_placement.specs.declared.parties.Party.{Party}
use Rattle.sm_placement.specs.Parties.{party_at}
use Rattle.sm_placement.specs.Cells.{with_parties}
use Rattle.sm_placement.proofs.CellLemmas.{with_parties-empty}
use Rattle.sm_placement.proofs.cells.Cells.new.Goals as goal

pub returns : goal.returns
returns c =
    let e : c.in_ok-vec.field-0.items ≡ replicate c.args.count state.Absent = c.in_ok-vec.ensures.items_if_clones_equal (λ y h. search rules) in
    let at : ℕ → Party = party_at c.in_ok-new.field-0.starts c.in_ok-new.field-0.parties in
    ap (λ (xs : List State). with_parties xs at) e ∙ with_parties-empty c.args.count at
