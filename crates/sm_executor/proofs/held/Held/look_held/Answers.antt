-- The machine's entry of a shard.
use Rattle.std.proofs.Common.{◌≡◌, ◌<◌, ℕ, Some, ap, sym, subst, ◌∙◌}
use Rattle.std.specs.Prelude.{slice_get}
use Rattle.sm_map.specs.History.{AllStand}
use Rattle.sm_map.specs.Models.{WordsModel, PassModel}
use Rattle.sm_placement.specs.Place.{entry_at}
use Rattle.sm_protocol.specs.State.{State}
use Rattle.sm_executor.specs.Looking.{known_of}
use Rattle.sm_executor.proofs.Knowing.{knows_map}
use Rattle.sm_machine.specs.State.{state_of}
use Rattle.sm_executor.specs.Views.{HeldModel, CallerModel}
use Rattle.sm_executor.proofs.held.Held.look_held.Goals as goal

pub returns-clause-stood : goal.returns-clause-stood
returns-clause-stood g c =
    let i = c.self.invariant in
    let p = c.self.inside.publisher in
    let e = ap (λ (h : HeldModel). (state_of h.machine).entries) c.self.view_is in
    record {
      since = p.stores;
      published = sym e ∙ i.0.stores;
      stand = subst (AllStand g.N.Naming.words.opening p.stores) (ap (λ (x : CallerModel). x.seen) c.caller.view_is)
          (subst (λ (x : WordsModel). AllStand x.opening p.stores c.caller.inside.pass.seen) i.0.words_are c.meet_in.ensures.stand);
    }

pub returns-clause-known : goal.returns-clause-known
returns-clause-known g c =
    let i = c.self.invariant in
    let p = c.self.inside.publisher in
    let words = ap (λ (x : PassModel). x.words) c.meet_in.ensures.seen ∙ c.requires.words in
    let since = ap (λ (x : PassModel). x.since) c.meet_in.ensures.seen in
    subst (λ (w : State). (s : ℕ) → s < w.sizes.shards → slice_get (known_of c.meet_in.new.pass.words.opening c.meet_in.new.pass.since) s ≡ Some (entry_at w.place s))
    (ap (λ (h : HeldModel). state_of h.machine) c.self.view_is)
    (λ s inside. (λ k. slice_get (known_of (words k).opening (since k)) s) ∙ knows_map g.N.Naming.words g.N.Naming.opened (state_of c.self.inside.machine) p i.0 s inside)
