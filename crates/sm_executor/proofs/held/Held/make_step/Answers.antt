-- A stream's step over a link, at some state.
use Rattle.std.proofs.Common.{◌≡◌, ap}
use Rattle.sm_executor.specs.Views.{RunnerModel, running}
use Rattle.sm_executor.proofs.Effects.{waiting_uncounted}
use Rattle.sm_executor.proofs.held.Held.make_step.Goals as goal

pub returns-clause-waits : goal.returns-clause-waits
returns-clause-waits g c waits =
    let old : RunnerModel = c.args.runner.now in
    let new : RunnerModel = c.step_over.new.runner in
    let stream : new.stream ≡ old.stream = ap (λ (r : RunnerModel). r.stream) c.step_over.ensures.runner in
    let steps : new.steps ≡ old.steps = waiting_uncounted c.step_over.result _ old.steps new.steps waits c.step_over.ensures.counts in
    λ j. running (stream j) (steps j)
