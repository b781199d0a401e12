use Rattle.std.proofs.Common.{◌≡◌, true}
use Rattle.std.proofs.lemmas.List.Elements.{recursion_from_All, All-from_recursion}
use Rattle.sm_placement.specs.Lead.{is_at_rest}
use Rattle.sm_verifier.proofs.Settled.{settled_from_rows, rows_from_settled}
use Rattle.sm_verifier.proofs.following.is_settled.Goals as goal

pub returns : goal.returns
returns c =
    let rises = rw c.crowns.ensures.value at c.crowns.ensures.order in
    let test = rw c.crowns.ensures.value at c.are_at_rest.ensures in
    let rights = c.args.hold.now.rights in (
      λ yes. settled_from_rows rights (recursion_from_All (λ x. is_at_rest x.lead ≡ true) rights.crowns (test.0 yes)),
      λ settled. test.1 (All-from_recursion (λ x. is_at_rest x.lead ≡ true) rights.crowns (rows_from_settled rights rises settled)),
    )
