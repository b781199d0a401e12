-- A stream's fault is the plan's, where all that is tested before it is in order.
use Rattle.std.proofs.Common.{ℕ, ◌<◌, length}
use Rattle.sm_placement.specs.Setup.{Sizes}
use Rattle.sm_plan_code.specs.Plan.{PlanModel}
use Rattle.sm_verifier.specs.declared.following.Bad.{Bad}
use Rattle.sm_verifier.specs.declared.following.Bad.TheVariants as bad
use Rattle.sm_verifier.specs.Stream.{stream_at}
use Rattle.sm_verifier.specs.Bad.{IsBad}
use Rattle.sm_verifier.specs.Plan.{KeepsBudget, AreUsedOnce, AreGood, IsFault}
use Rattle.sm_verifier.specs.Fault.{fault_of}

-- a bad stream is the plan's fault, where budgets, signals and the streams before it are in order
pub stream_fault : (c : Sizes) (plan : PlanModel) (i : ℕ) (b : Bad) → KeepsBudget plan → AreUsedOnce plan (length plan.signals) → i < length plan.streams → AreGood c plan i → IsBad (stream_at c plan i) b → IsFault c plan (fault_of i b)
stream_fault c plan i bad.NoMemory budget signals within lower here = tt
stream_fault c plan i (bad.At at why) budget signals within lower here = (budget, signals, record { stream = within; lower = lower; here = here })
