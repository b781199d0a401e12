-- The halt flag.
use Rattle.std.proofs.Common.{◌≤◌, ◌*◌, length, sym, subst, ◌∙◌, false}
use Rattle.sm_protocol.specs.State.{State}
use Rattle.sm_machine.specs.State.{state_of}
use Rattle.sm_executor.proofs.Keeps.{flag_kept}
use Rattle.sm_executor.proofs.Leading.{led_by_flag}
use Rattle.sm_executor.proofs.held.Held.resume.Goals as goal

pub invariant_of-self : goal.invariant_of-self
invariant_of-self g c =
    let i = c.self.invariant in
    let k = flag_kept g.N.Naming.words g.N.Naming.opened (state_of c.self.inside.machine) (state_of c.resume.new.self) c.self.inside.publisher c.self.inside.steps.total c.self.inside.executed.total c.self.inside.refused.total false c.resume.ensures.state i.0 i.1 in
    (k.tied, k.counted, i.2, i.3, i.4, i.5, i.6, i.7, i.8, i.9, i.10, i.11, c.resume.ensures.setup ∙ i.12, subst (λ (w : State). c.self.inside.runners ≤ 64 * length w.plans) (sym c.resume.ensures.state) i.13, led_by_flag g.N.Naming.opened (state_of c.self.inside.machine) (state_of c.resume.new.self) false c.resume.ensures.state i.14)
