-- A stream's fault as the plan's.
-- Internal definitions: you need not read them for the public contracts.
use Rattle.std.specs.Prelude.{ℕ}
use Rattle.sm_verifier.specs.declared.following.Bad.{Bad}
use Rattle.sm_verifier.specs.declared.following.Bad.TheVariants.{NoMemory, At}
use Rattle.sm_verifier.specs.declared.checking.Fault.{Fault}
use Rattle.sm_verifier.specs.declared.checking.Fault.TheVariants as plan

-- a stream's fault, with the stream's number
abbrev pub fault_of : ℕ → Bad → Fault
fault_of i NoMemory = plan.NoMemory
fault_of i (At at why) = plan.Stream i at why
