-- Behind the numbers that are written there is 0.
use Rattle.std.proofs.Common.{ℕ, List, sym, ap, ◌∙◌}
use Rattle.sm_placement.specs.Layout.{entries_of}
use Rattle.sm_placement.proofs.GridLemmas.{entries_of-padded}
use Rattle.sm_placement.proofs.lasts.Lasts.get.Goals as goal

pub returns : goal.returns
returns c =
    (rw c.deref.ensures.value at c.number_at.ensures) ∙ sym (entries_of-padded c.self.inside.count c.self.inside.numbers.items c.args.slot) ∙ ap (λ (xs : List ℕ). entries_of 0 xs c.args.slot) c.self.view_is
