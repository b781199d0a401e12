-- A restart is asked for.
use Rattle.std.proofs.Common.{◌≤◌, ◌<◌, ◌*◌, List, length, sym, subst, ◌∙◌}
use Rattle.sm_protocol.specs.State.{Start}
use Rattle.sm_protocol.specs.Happens.{Approve}
use Rattle.sm_machine.specs.State.{state_of}
use Rattle.sm_executor.proofs.Effects.{Uncounted, plans_uncounted, approved_made}
use Rattle.sm_executor.proofs.Keeps.{plain_kept}
use Rattle.sm_executor.proofs.Leading.{led_by}
use Rattle.sm_executor.proofs.held.Held.approve.Goals as goal

pub invariant_of-self : goal.invariant_of-self
invariant_of-self g c =
    let i = c.self.invariant in
    let w = state_of c.self.inside.machine in
    let v = state_of c.approve.new.self in
    let u = subst (Uncounted w) (sym c.approve.ensures.state) (approved_made w c.args.server) in
    let k = plain_kept g.N.Naming.words g.N.Naming.opened w v c.self.inside.publisher c.self.inside.steps.total c.self.inside.executed.total c.self.inside.refused.total
    u i.0 i.1 in
    (k.tied, k.counted, i.2, i.3, i.4, i.5, i.6, i.7, i.8, i.9, i.10, i.11, c.approve.ensures.setup ∙ i.12, subst (λ (l : List Start). c.self.inside.runners ≤ 64 * length l) (sym (plans_uncounted w v u)) i.13, led_by g.N.Naming.opened w v (Approve c.args.server) (subst (λ n. c.args.server < n) i.0.servers c.requires) c.approve.ensures.state i.14)
