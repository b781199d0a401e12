-- A request that was passed on.
use Rattle.std.proofs.Common.{◌≤◌, ◌*◌, List, length, ◌+◌, ap, sym, subst, ◌∙◌}
use Rattle.sm_protocol.specs.State.{Start}
use Rattle.sm_machine.specs.State.{state_of}
use Rattle.sm_protocol.specs.Steps.{Answered}
use Rattle.sm_protocol.specs.Happens.{PassOn, happens}
use Rattle.sm_machine.specs.Requested.{played_by}
use Rattle.sm_placement.specs.Sums.{bit}
use Rattle.sm_executor.specs.Counting.{IsBooked, is_refused}
use Rattle.sm_executor.proofs.Effects.{Asked, plans_asked, passed_made, executes_is, refuses_is}
use Rattle.sm_executor.proofs.Keeps.{asked_kept}
use Rattle.sm_executor.proofs.Leading.{led_by}
use Rattle.sm_executor.proofs.held.Held.pass_on.Goals as goal

pub invariant_of-self : goal.invariant_of-self
invariant_of-self g c =
    let i = c.self.invariant in
    let w = state_of c.self.inside.machine in
    let v = state_of c.pass_on-answer.new.self in
    let answer = c.pass_on-answer.result in
    let made : Asked w (Answered (played_by answer)) v = subst (λ x. Asked w x v) c.pass_on-answer.ensures.answer
    (subst (λ x. Asked w (happens w (PassOn c.args.ticket)).0 x) (sym c.pass_on-answer.ensures.state) (passed_made w c.args.ticket)) in
    let k = asked_kept g.N.Naming.words g.N.Naming.opened w v c.self.inside.publisher c.self.inside.steps.total c.self.inside.executed.total c.self.inside.refused.total (played_by answer) made i.0 i.1 in
    let e = c.count_answer.ensures.executed ∙ ap (λ n. c.self.inside.executed.total + n) (executes_is answer) in
    let f = c.count_answer.ensures.refused ∙ ap (λ n. c.self.inside.refused.total + n) (refuses_is answer) in
    let counted = subst (λ n. IsBooked g.N.Naming.opened v c.self.inside.steps.total c.count_answer.new.executed.total n) (sym f)
    (subst (λ n. IsBooked g.N.Naming.opened v c.self.inside.steps.total n (c.self.inside.refused.total + bit (is_refused (played_by answer)))) (sym e) k.counted) in
    (k.tied, counted, i.2, i.3, i.4, i.5, i.6, i.7, i.8, i.9, i.10, i.11, c.pass_on-answer.ensures.setup ∙ i.12, subst (λ (l : List Start). c.self.inside.runners ≤ 64 * length l) (sym (plans_asked w v (played_by answer) made)) i.13, led_by g.N.Naming.opened w v (PassOn c.args.ticket) tt c.pass_on-answer.ensures.state i.14)
