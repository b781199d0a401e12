-- The state behind the lock of a new board.
use Rattle.std.proofs.Common.{ap, ◌∙◌, subst}
use Rattle.sm_map.specs.Models.{WordsModel, PublisherModel}
use Rattle.sm_protocol.specs.State.{State}
use Rattle.sm_machine.specs.State.{state_of}
use Rattle.sm_executor.specs.Names.{Bases}
use Rattle.sm_executor.specs.Tied.{IsMapOf}
use Rattle.sm_executor.proofs.Keeps.{tied_opened}
use Rattle.sm_executor.proofs.ground.Ground.laid.Goals as goal

pub returns-clause-map : goal.returns-clause-map
returns-clause-map g c =
    let n = c.requires.names in
    subst (λ (w : State). IsMapOf g.N.Naming.words w) n.2 (subst (λ (v : WordsModel). IsMapOf v (state_of c.args.machine)) n.0 c.requires.map)

pub open-held-requires-clause-tied : goal.open-held-requires-clause-tied
open-held-requires-clause-tied g c =
    let n = c.requires.names in
    let e = ap (λ (b : Bases). b.words) c.self.view_is ∙ n.0 in
    let m = subst (λ (w : State). IsMapOf g.N.Naming.words w) n.2 (subst (λ (v : WordsModel). IsMapOf v (state_of c.args.machine)) n.0 c.requires.map) in
    tied_opened g.N.Naming.words g.N.Naming.opened c.self.inside.publisher m (ap (λ (p : PublisherModel). p.words) c.self.invariant.0 ∙ e) (ap (λ (p : PublisherModel). p.stores) c.self.invariant.0)
