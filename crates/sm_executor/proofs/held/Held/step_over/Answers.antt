-- A stream's step over a link.
use Rattle.std.proofs.Common.{◌≡◌, ◌≤◌, ◌*◌, List, ◌+◌, ◌-◌, ap, sym, subst, ◌∙◌, length}
use Rattle.sm_protocol.specs.State.{State, Start, progress_of}
use Rattle.sm_protocol.specs.Steps.{Outcome, Answered}
use Rattle.sm_machine.specs.State.{state_of}
use Rattle.sm_machine.specs.Played.{played_of}
use Rattle.sm_machine.specs.Losses.{event_over}
use Rattle.sm_executor.specs.Counting.{IsBooked, Counts}
use Rattle.sm_executor.specs.Views.{RunnerModel, state_in, recorded_more}
use Rattle.sm_executor.proofs.Effects.{Made, made_over, plans_made}
use Rattle.sm_executor.proofs.Ranges.{in_range, known_shard}
use Rattle.sm_executor.proofs.Keeps.{stepped}
use Rattle.sm_executor.proofs.Leading.{led_by, step_fits}
use Rattle.sm_executor.proofs.held.Held.step_over.Goals as goal

pub overflow_sub-made : goal.overflow_sub-made
overflow_sub-made g c =
    let i = c.self.invariant in
    let w = state_of c.self.inside.machine in
    let v = state_of c.step_over-step.new.self in
    let id = c.runner.inside.token in
    let o = c.step_over-step.ensures.over in
    let made : Made (progress_of w id).done w (Answered (played_of c.step_over-step.result)) v = made_over w v id o.passage (played_of c.step_over-step.result) (known_shard c.self.inside.machine.placement.setup w c.is_reached.ensures id) o.event in
    let s = stepped (progress_of w id).done g.N.Naming.words g.N.Naming.opened w v c.self.inside.publisher c.self.inside.steps.total c.self.inside.executed.total c.self.inside.refused.total _ made i.0 i.1 in
    subst (λ n. length c.log-recorded.result.now ≤ n) (sym (ap length c.log.ensures)) (subst (λ n. n ≤ length v.log) (sym (ap length c.log-recorded.ensures)) s.longer)

pub store_added-requires-clause-behind : goal.store_added-requires-clause-behind
store_added-requires-clause-behind g c =
    let i = c.self.invariant in
    let w = state_of c.self.inside.machine in
    let v = state_of c.step_over-step.new.self in
    let id = c.runner.inside.token in
    let o = c.step_over-step.ensures.over in
    let made : Made (progress_of w id).done w (Answered (played_of c.step_over-step.result)) v = made_over w v id o.passage (played_of c.step_over-step.result) (known_shard c.self.inside.machine.placement.setup w c.is_reached.ensures id) o.event in
    let s = stepped (progress_of w id).done g.N.Naming.words g.N.Naming.opened w v c.self.inside.publisher c.self.inside.steps.total c.self.inside.executed.total c.self.inside.refused.total _ made i.0 i.1 in
    s.behind (in_range c.step_over-step.new.self.placement.setup v c.is_reached-2.ensures)

pub invariant_of-self : goal.invariant_of-self
invariant_of-self g c =
    let i = c.self.invariant in
    let w = state_of c.self.inside.machine in
    let v = state_of c.step_over-step.new.self in
    let id = c.runner.inside.token in
    let o = c.step_over-step.ensures.over in
    let made : Made (progress_of w id).done w (Answered (played_of c.step_over-step.result)) v = made_over w v id o.passage (played_of c.step_over-step.result) (known_shard c.self.inside.machine.placement.setup w c.is_reached.ensures id) o.event in
    let s = stepped (progress_of w id).done g.N.Naming.words g.N.Naming.opened w v c.self.inside.publisher c.self.inside.steps.total c.self.inside.executed.total c.self.inside.refused.total _ made i.0 i.1 in
    let a = ap length c.log-recorded.ensures in
    let b = ap length c.log.ensures in
    let t = c.add.ensures.total in
    let e : c.add.new.self.total ≡ c.self.inside.steps.total + recorded_more w v = t ∙ (λ j. c.self.inside.steps.total + (b j - a j)) in
    (c.store_added.ensures, subst (λ n. IsBooked g.N.Naming.opened v n c.self.inside.executed.total c.self.inside.refused.total) (sym e) s.counted, i.2, i.3, i.4, i.5, i.6, i.7, i.8, i.9, i.10, i.11, c.step_over-step.ensures.setup ∙ i.12, subst (λ (l : List Start). c.self.inside.runners ≤ 64 * length l) (sym (plans_made (progress_of w id).done w v _ made)) i.13, led_by g.N.Naming.opened w v (event_over id o.passage) (step_fits w id o.passage) (sym (ap (λ (r : Outcome × State). r.1) o.event)) i.14)

pub returns-clause-counts : goal.returns-clause-counts
returns-clause-counts g c =
    let i = c.self.invariant in
    let w = state_of c.self.inside.machine in
    let v = state_of c.step_over-step.new.self in
    let id = c.runner.inside.token in
    let o = c.step_over-step.ensures.over in
    let made : Made (progress_of w id).done w (Answered (played_of c.step_over-step.result)) v = made_over w v id o.passage (played_of c.step_over-step.result) (known_shard c.self.inside.machine.placement.setup w c.is_reached.ensures id) o.event in
    let s = stepped (progress_of w id).done g.N.Naming.words g.N.Naming.opened w v c.self.inside.publisher c.self.inside.steps.total c.self.inside.executed.total c.self.inside.refused.total _ made i.0 i.1 in
    let a = ap length c.log-recorded.ensures in
    let b = ap length c.log.ensures in
    let same : c.runner.inside.share.amount ≡ c.args.runner.now.steps = ap (λ (x : RunnerModel). x.steps) c.runner.view_is in
    let e : c.add.new.share.amount ≡ c.args.runner.now.steps + recorded_more w v = c.add.ensures.amount ∙ (λ j. same j + (b j - a j)) in
    let f : (progress_of w id).done ≡ (progress_of (state_in c.args.self.now) c.args.runner.now.stream).done = (λ j. (progress_of (state_in (c.self.view_is j)) (c.runner.view_is j).stream).done) in
    subst (λ x. Counts x (played_of c.step_over-step.result) c.args.runner.now.steps c.add.new.share.amount) f
    (subst (Counts (progress_of w id).done (played_of c.step_over-step.result) c.args.runner.now.steps) (sym e) (s.counts c.args.runner.now.steps))
