use Rattle.std.proofs.Common.{◌≡◌, ◌-◌, ◌<◌, length}
use Rattle.sm_protocol.specs.State.{State}
use Rattle.sm_machine.specs.State.{state_of}
use Rattle.sm_driver.specs.Advance.{IsAdvanced, IsFreeIn}
use Rattle.sm_driver.proofs.local_steps.advance_plan.Given as goal

-- what advances this state further advances the first one, and only streams of the plan are free
abbrev pub invariant-loop-id : goal.invariant-loop-id
invariant-loop-id l = record {
  advanced : (new : State) → IsAdvanced (state_of l.director) new → IsAdvanced (state_of l.initial.director) new;
  setup : l.director.placement.setup ≡ l.initial.director.placement.setup;
  known : l.plan < length (state_of l.director).plans;
  alone : IsFreeIn (state_of l.director) l.plan;
}

abbrev pub decreases-loop-id : goal.decreases-loop-id
decreases-loop-id l = (state_of l.director).room - length (state_of l.director).log
