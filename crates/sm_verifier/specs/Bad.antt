-- The verdict on a stream that is not good.
-- `bad_at` is internal: you need not read it for the public contracts.
use Rattle.std.specs.Prelude.{ℕ}
use Rattle.sm_verifier.specs.declared.steps.StepFault.{StepFault}
use Rattle.sm_verifier.specs.declared.steps.StepFault.TheVariants as step
use Rattle.sm_verifier.specs.declared.following.Bad.{Bad}
use Rattle.sm_verifier.specs.declared.following.Bad.TheVariants.{NoMemory, At}
use Rattle.sm_verifier.specs.Stream.{Course, IsFirstBreak}

-- a step's fault, with the step's position
abbrev pub bad_at : ℕ → StepFault → Bad
bad_at at step.NoMemory = NoMemory
bad_at at (step.Refused why) = At at why

-- it breaks off first where the fault says, and for that why; if memory was short, nothing is said
abbrev pub IsBad : Course → Bad → Type 0
IsBad s NoMemory = Unit {0}
IsBad s (At at why) = IsFirstBreak s at why
