use Rattle.std.proofs.Common.{Some, None}
use Rattle.std.specs.Prelude.{nat_le, if◌then◌else◌}
use Rattle.sm_plan_code.specs.declared.limits.TheConstants.{MOST_PLACES}
use Rattle.sm_machine.specs.State.{state_of}
use Rattle.sm_machine.proofs.Engaged.{IsLeft}
use Rattle.sm_driver.proofs.epoch.shard_spent.Given as goal

-- no shard so far has too high a version
abbrev pub invariant-loop-number : goal.invariant-loop-number
invariant-loop-number l = IsLeft (λ s. if nat_le MOST_PLACES ((state_of l.machine).place.version s) then Some s else None) (state_of l.machine).sizes.shards l.number
