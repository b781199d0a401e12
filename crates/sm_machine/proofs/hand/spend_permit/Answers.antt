-- The first permit for a server is spent, if there is one.
use Rattle.std.proofs.Common.{◌∙◌, ℕ, Some, None, sym}
use Rattle.std.specs.Prelude.{◌==◌}
use Rattle.sm_machine.proofs.FirstPlaces.{first_in, without_none, without_some}
use Rattle.sm_machine.proofs.hand.spend_permit.Goals as goal

pub returns-in-Some-clause-items : goal.returns-in-Some-clause-items
returns-in-Some-clause-items c =
    let is_for : ℕ → _ = λ permit. permit == c.args.server in
    c.remove.ensures.items ∙ sym (without_some is_for _ c.in-Some.at (first_in is_for _ _ _ (Some c.in-Some.at) c.as_slice.ensures.value c.in-Some.is c.first_permit.ensures))

pub returns-in_default-clause-items : goal.returns-in_default-clause-items
returns-in_default-clause-items c =
    let is_for : ℕ → _ = λ permit. permit == c.args.server in
    sym (without_none is_for _ (first_in is_for _ _ _ None c.as_slice.ensures.value c.in_default.is c.first_permit.ensures))
