-- A new caller.
use Rattle.std.proofs.Common.{◌≡◌, ◌<◌, ℕ, Some, ap, subst, ◌∙◌}
use Rattle.std.specs.Prelude.{slice_get}
use Rattle.sm_placement.specs.Place.{entry_at}
use Rattle.sm_map.specs.Models.{PassModel}
use Rattle.sm_protocol.specs.State.{State}
use Rattle.sm_machine.specs.State.{state_of}
use Rattle.sm_executor.specs.Looking.{known_of}
use Rattle.sm_executor.specs.Views.{HeldModel}
use Rattle.sm_executor.proofs.Knowing.{knows_map}
use Rattle.sm_executor.proofs.held.Held.caller.Goals as goal

pub returns-clause-known : goal.returns-clause-known
returns-clause-known g c =
    let i = c.self.invariant in
    let p = c.self.inside.publisher in
    let words = ap (λ (x : PassModel). x.words) c.pass-pass.ensures.pass ∙ c.requires in
    let since = ap (λ (x : PassModel). x.since) c.pass-pass.ensures.pass in
    subst (λ (w : State). (s : ℕ) → s < w.sizes.shards → slice_get (known_of c.pass-pass.result.words.opening c.pass-pass.result.since) s ≡ Some (entry_at w.place s))
    (ap (λ (h : HeldModel). state_of h.machine) c.self.view_is)
    (λ s inside. (λ k. slice_get (known_of (words k).opening (since k)) s) ∙ knows_map g.N.Naming.words g.N.Naming.opened (state_of c.self.inside.machine) p i.0 s inside)
